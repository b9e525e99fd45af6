-- A bit of the frame, by the row it stands in. Assumes nothing.
--     field-goes     up to the CRC
--     slot-goes      in the ACK slot
--     one-goes       elsewhere behind the CRC
use mathlib.Core.Path.{◌≡◌, refl, sym, ap, ap₂, ◌∙◌}
use mathlib.Core.Bool.{Bool, true, false, cond}
use mathlib.Core.List.{List, [], ◌∷◌, ◌++◌}
use Prim.Native.Nat.{ℕ, ◌+◌, ◌*◌, ◌≤◌, ◌<◌}
use native.Mathlib.Omega.{arith}
use lib.Dec.{eqb, leb, ltb}
use lib.ListN.{length, get_or}
use lib.Seq.{get_or-append-add}
use borrow.Author.Tests.{le-leb, lt-leb, ltb-true, ltb-false, eqb-true, eqb-false}
use Rattle.std.proofs.Common.{Ok, Err}
use Rattle.bits.specs.declared.Run.{Run}
use Rattle.refusals.specs.declared.Refusal.{Refusal}
use Rattle.refusals.specs.declared.Refusal.TheVariants.{LineByte, FixedBit, NotAcknowledged}
use Rattle.reading.specs.Form.{either, fits}
use Rattle.reading.specs.Scan.{header_width, crc_start, stuff_due, must_be, slot_most, slot_right, run_with}
use Rattle.reading.specs.declared.Reading.{Reading}
use Rattle.reading.proofs.Partial.{start-least}
use Rattle.reading.proofs.Fitting.{unfit, fit}
use Rattle.reading.proofs.Verdicts.{slot-refused}
use Rattle.scanning.specs.Steps.{bit_at, behind_bit, behind_ending, above, bit_at_most, field_bit, slot_bit, one_bit}
use Rattle.scanning.specs.declared.seen.Seen.{Seen}
use Rattle.scanning.proofs.Positions.{slot-from, slot-end}
use Rattle.scanning.proofs.Known.{crc-known}
use Rattle.scanning.proofs.Keeping.{bytes, Within}
use Rattle.scanning.proofs.Registers.{longer, dlc-known}
use Rattle.scanning.proofs.RawBits.{Tells}
use Rattle.scanning.proofs.InRow.{reach}
use Rattle.scanning.proofs.FrameBit.{Goes, goes, byte-goes, added, added-late, formed-on, fixed_goes, bit-shown, told-on, untold, right-goes}

-- a bit of the frame, before which no stuff bit is due; `most` is the greatest that may stand in the row
module _ {reading : Reading} {line : List ℕ} {f : ℕ} {long : Bool} {seen : Seen} {run : Run} {left : ℕ} {frame : List ℕ} (h : f < 10)
    (w : Within reading line f long seen run left frame) (some : 0 < left) (inside : seen.place < length line)
    (due : stuff_due run frame ≡ false) where
  abbrev b : ℕ
  b = bit_at line seen

  abbrev more : List ℕ
  more = frame ++ (b ∷ [])

  -- a bit at most `most`, a 1 above it, and a byte that is no bit
  at_most : (most : ℕ) (refusal : Refusal) (next : Seen) → most ≤ 1 → (b ≤ most → Goes reading line f long seen (Ok next))
      → (b ≡ 1 → most < b → Goes reading line f long seen (Err refusal)) → Goes reading line f long seen (bit_at_most most refusal line seen next)
  unfolding bit_at_most above
  at_most most refusal next small low one = first (ltb most b) refl
    where
      wrong : (t : Bool) → eqb b 1 ≡ t → most < b → Goes reading line f long seen (cond t (Err refusal) (Err (LineByte seen.place)))
      wrong true d over = one (eqb-true b 1 d) over
      wrong false d over = let other = eqb-false b 1 d in byte-goes h w some inside due (omega arith)

      first : (t : Bool) → ltb most b ≡ t
          → Goes reading line f long seen (cond t (cond (eqb b 1) (Err refusal) (Err (LineByte seen.place))) (Ok next))
      first true d = wrong (eqb b 1) refl (ltb-true most b d)
      first false d = low (ltb-false most b d)

  -- up to the CRC
  pub field-goes : (most : ℕ) → most ≤ 1 → must_be frame ≡ 2 * most → f ≤ 6 → Tells seen.raw run
      → Goes reading line f long seen (field_bit most line seen)
  field-goes most small m g tells = at_most most _ _ small low one
    where
      low : b ≤ most → Goes reading line f long seen (Ok (behind_bit b seen))
      low l =
          let bit : b ≤ 1 = omega arith in
          let may = fit (must_be frame) b (omega (arith, m)) bit (λ e. omega (arith, m)) in
          right-goes h w some inside due bit may _ _ (added h w some inside due bit g)
          (λ few. told-on h w some inside due bit may (omega arith) tells) (λ i. absurd (omega arith))

      one : b ≡ 1 → most < b → Goes reading line f long seen (Err (FixedBit seen.place))
      one is over = fixed_goes h w some inside due (omega arith) (unfit (must_be frame) b (omega arith) (omega (arith, m)))

  -- behind the CRC, but for the ACK slot
  pub one-goes : must_be frame ≡ 1 → 6 < f → (f ≡ 8 → ⊥) → Goes reading line f long seen (one_bit line seen)
  unfolding one_bit
  one-goes m g not-slot = first (eqb b 1) refl
    where
      second : (t : Bool) → eqb b 0 ≡ t → (b ≡ 1 → ⊥)
          → Goes reading line f long seen (cond t (Err (FixedBit seen.place)) (Err (LineByte seen.place)))
      second true d n =
          let none = eqb-true b 0 d in
          fixed_goes h w some inside due (omega arith) (unfit (must_be frame) b (omega arith) (omega (arith, m)))
      second false d n = let other = eqb-false b 0 d in byte-goes h w some inside due (omega arith)

      first : (t : Bool) → eqb b 1 ≡ t
          → Goes reading line f long seen
          (cond t (Ok (behind_ending seen)) (cond (eqb b 0) (Err (FixedBit seen.place)) (Err (LineByte seen.place))))
      first true d =
          let one = eqb-true b 1 d in
          let bit : b ≤ 1 = omega arith in
          let may = fit (must_be frame) b (omega (arith, m)) bit (λ e. omega (arith, m)) in
          right-goes h w some inside due bit may _ _ (added-late h w some inside due bit g) (untold h w some inside due bit may _ g)
          (λ i. absurd (not-slot i))
      first false d = second (eqb b 0) refl (eqb-false b 1 d)

  -- in the ACK slot
  module _ (i : f ≡ 8) where
    -- it is the frame's bit there
    in-slot : b ≤ 1 → (length more ≡ crc_start more + 17) × (get_or more (crc_start more + 16) 0 ≡ b)
    in-slot bit =
        let n = bytes seen in
        let start =
        crc-known f long n more (λ g. (formed-on h w some inside due bit g).form-is) (dlc-known (added-late h w some inside due bit (omega arith)))
        (omega arith) in
        let here : length frame ≡ header_width long + 8 * n + 16 =
        omega (arith, w.from, reach w h some, slot-from long n f (omega arith), slot-end long n f (omega arith)) in
        let at : crc_start more + 16 ≡ length frame + 0 = omega (arith, start, here) in
        (omega (arith, start, here, longer frame b), ap (λ (k : ℕ). get_or more k 0) at ∙ get_or-append-add frame (b ∷ []) 0 0)

    pub slot-goes : (most : ℕ) → most ≡ slot_most reading.slot → most ≤ 1 → must_be frame ≡ either
        → Goes reading line f long seen (slot_bit most line seen)
    slot-goes most is small m = at_most most _ _ small low one
      where
        may : b ≤ 1 → fits (must_be frame) b ≡ true
        may bit = fit (must_be frame) b (omega (arith, m)) bit (λ e. omega (arith, m))

        -- what the frame shows there
        shows : (bit : b ≤ 1) (t : Bool) → leb b most ≡ t → slot_right reading more ≡ t
        shows bit t d = ap₂ leb (in-slot bit).1 (sym is) ∙ d

        low : b ≤ most → Goes reading line f long seen (Ok (behind_ending seen))
        low l =
            let bit : b ≤ 1 = omega arith in
            right-goes h w some inside due bit (may bit) _ _ (added-late h w some inside due bit (omega arith))
            (untold h w some inside due bit (may bit) _ (omega arith)) (λ e. shows bit true (le-leb b most l))

        one : b ≡ 1 → most < b → Goes reading line f long seen (Err (NotAcknowledged seen.place))
        one e over =
            let bit : b ≤ 1 = omega arith in (
              seen.place,
              goes h w some inside due _
                  (bit-shown h w some inside due bit (may bit)
                  ∙ slot-refused reading (run_with run b) more seen.place (omega (arith, (in-slot bit).0, (start-least more).0)) (in-slot bit).0
                  (shows bit false (lt-leb b most over))),
            )
