-- Where the frame's bits show nothing. Assumes nothing.
--     shown-inside      in a row, behind its first bit and before its last
--     nothing-behind    behind a row other than IDE, DLC and CRC, where the bit in the ACK slot may stand
use mathlib.Core.Path.{◌≡◌, refl, sym, ap, ◌∙◌}
use mathlib.Core.Bool.{Bool, true, false}
use mathlib.Core.List.{List}
use Prim.Native.Nat.{ℕ, ◌+◌, ◌*◌, ◌%◌, ◌≤◌, ◌<◌}
use native.Mathlib.Omega.{arith}
use lib.Dec.{ltb}
use lib.ListN.{length}
use borrow.Author.Tests.{ltb-true, ltb-false}
use Rattle.bits.specs.declared.Run.{Run}
use Rattle.reading.specs.Scan.{long_in, header_width, data_start, dlc_in, crc_start, slot_right, right, shown}
use Rattle.reading.specs.declared.Reading.{Reading}
use Rattle.reading.proofs.Partial.{width-least, start-least}
use Rattle.reading.proofs.Verdicts.{dlc-taken, nothing-shown}
use Rattle.scanning.proofs.Positions.{start_of, end_of, form-from, data-from, ending-from, ide-end, header-end, crc-end, slot-end, last-from}
use Rattle.scanning.proofs.Stages.{Stage, first_bit, ide, before-dlc, dlc, data-bits, crc-bits, ack-slot, ending, stage}
use Rattle.scanning.proofs.Known.{crc-known, Known, early, in-header, all_known, how-known, early-or-known}
use Rattle.scanning.proofs.Registers.{Registers, in-header, in-data, in-crc, behind, dlc-known}
use Rattle.scanning.proofs.Keeping.{Formed}
use mathlib.Core.Logic.{◌⊎◌, inl, inr}

-- in a row, behind its first bit and before its last, nothing is shown
pub shown-inside : (reading : Reading) (run : Run) (f : ℕ) (long : Bool) (n : ℕ) (frame : List ℕ) (place : ℕ) → start_of f long n < length frame
    → length frame < end_of f long n → (1 < f → long_in frame ≡ long) → (4 < f → dlc_in frame ≡ n) → shown reading run frame place ≡ right
shown-inside reading run f long n frame place from to formed known =
    nothing-shown reading run frame place (λ e. absurd (ide e (ltb 1 f) refl)) (λ e. absurd (header e (how-known f long n frame formed known to)))
    (λ e. absurd (check e sooner (ltb 6 f) refl)) (λ e. absurd (slot e sooner (ltb 8 f) refl))
  where
    sooner : (length frame < data_start frame) ⊎ (crc_start frame ≡ header_width long + 8 * n)
    sooner = early-or-known f long n frame formed known to

    least : data_start frame ≤ crc_start frame
    least = (start-least frame).1

    ide : length frame ≡ 14 → (t : Bool) → ltb 1 f ≡ t → ⊥
    ide e true d = omega (arith, from, form-from long n f (ltb-true 1 f d))
    ide e false d = omega (arith, to, ide-end long n f (ltb-false 1 f d))

    header : length frame ≡ data_start frame → Known long n frame → ⊥
    header e (early d) = omega (arith, d, width-least (long_in frame))
    header e (in-header is d) = omega (arith, d, ap header_width is)
    header e (all_known is d) = go (ltb 4 f) refl
      where
        go : (t : Bool) → ltb 4 f ≡ t → ⊥
        go true g = omega (arith, e, from, data-from long n f (ltb-true 4 f g), ap header_width is)
        go false g = omega (arith, e, to, header-end long n f (ltb-false 4 f g), ap header_width is)

    check : length frame ≡ crc_start frame + 15 → (length frame < data_start frame) ⊎ (crc_start frame ≡ header_width long + 8 * n) → (t : Bool)
        → ltb 6 f ≡ t → ⊥
    check e (inl d) t g = omega (arith, least)
    check e (inr is) true g = omega (arith, from, ending-from long n f (ltb-true 6 f g))
    check e (inr is) false g = omega (arith, to, crc-end long n f (ltb-false 6 f g))

    slot : length frame ≡ crc_start frame + 17 → (length frame < data_start frame) ⊎ (crc_start frame ≡ header_width long + 8 * n) → (t : Bool)
        → ltb 8 f ≡ t → ⊥
    slot e (inl d) t g = omega (arith, least)
    slot e (inr is) true g = omega (arith, from, last-from long n f (ltb-true 8 f g))
    slot e (inr is) false g = omega (arith, to, slot-end long n f (ltb-false 8 f g))

-- behind a row other than IDE, DLC and CRC the frame shows nothing, where the bit in the ACK slot may stand
pub nothing-behind : (reading : Reading) (run : Run) (f : ℕ) (long : Bool) (header field n : ℕ) (frame : List ℕ) (place : ℕ) → f < 10
    → (f ≡ 1 → ⊥) → (f ≡ 4 → ⊥) → (f ≡ 6 → ⊥) → (f ≡ 8 → slot_right reading frame ≡ true) → length frame ≡ end_of f long (header % 16)
    → (1 < f → Formed long frame) → Registers f header field n frame → shown reading run frame place ≡ right
nothing-behind reading run f long header field n frame place h not-ide not-dlc not-crc slot at formed registers =
    go (stage long (header % 16) f h) registers
  where
    start : 4 < f → crc_start frame ≡ header_width long + 8 * (header % 16)
    start = crc-known f long (header % 16) frame (λ g. (formed g).form-is) (dlc-known registers)

    -- the header's bits are fewer than those before the CRC
    least : 19 ≤ data_start frame
    least = width-least (long_in frame)

    most : data_start frame ≤ crc_start frame
    most = (start-least frame).1

    wide : 19 ≤ header_width long
    wide = width-least long

    go : Stage long (header % 16) f → Registers f header field n frame → shown reading run frame place ≡ right
    go (first_bit g e) r =
        nothing-shown reading run frame place (λ d. absurd (omega (arith, at))) (λ d. absurd (omega (arith, at, least)))
        (λ d. absurd (omega (arith, at, least, most))) (λ d. absurd (omega (arith, at, least, most)))
    go (ide g e) r = absurd (not-ide g)
    go (before-dlc g i e) r =
        let is = ap header_width (formed g).form-is in
        nothing-shown reading run frame place (λ d. (formed g).same) (λ d. absurd (omega (arith, at, is)))
        (λ d. absurd (omega (arith, at, is, most))) (λ d. absurd (omega (arith, at, is, most)))
    go (dlc g e) r = absurd (not-dlc g)
    go (data-bits g e) (in-header i d l) = absurd (omega arith)
    go (data-bits g e) (in-data k i fine d l) =
        let late : 4 < f = omega arith in
        let is = dlc-known registers late in
        nothing-shown reading run frame place (λ d. absurd (omega (arith, at, wide)))
        (λ d. dlc-taken frame (λ one. fine.not-one (sym is ∙ one)) (omega (arith, fine.few, is)))
        (λ d. absurd (omega (arith, at, start late))) (λ d. absurd (omega (arith, at, start late)))
    go (data-bits g e) (in-crc k i put d l) = absurd (omega arith)
    go (data-bits g e) (behind m i put d l) = absurd (omega arith)
    go (crc-bits g e) r = absurd (not-crc g)
    go (ack-slot i e) r =
        let late : 4 < f = omega arith in
        let is = ap header_width (formed (omega arith)).form-is in
        nothing-shown reading run frame place (λ d. absurd (omega (arith, at, wide))) (λ d. absurd (omega (arith, at, is)))
        (λ d. absurd (omega (arith, at, start late))) (λ d. slot i)
    go (ending g o e) r =
        let late : 4 < f = omega arith in
        let is = ap header_width (formed (omega arith)).form-is in
        nothing-shown reading run frame place (λ d. absurd (omega (arith, at, wide, o))) (λ d. absurd (omega (arith, at, is, o)))
        (λ d. absurd (omega (arith, at, start late, o))) (λ d. absurd (e (omega (arith, at, start late))))
