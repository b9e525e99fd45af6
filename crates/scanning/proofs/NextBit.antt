-- A bit of the frame, with the stuff bit before it: both are right, or the line is refused as the definition says. Assumes nothing.
--     bit-goes       a bit of the line
use mathlib.Core.Path.{◌≡◌, refl, sym, ap, ◌∙◌, subst}
use mathlib.Core.Bool.{Bool, false}
use mathlib.Core.List.{List}
use Prim.Native.Nat.{ℕ, ◌+◌, ◌*◌, ◌%◌, ◌≤◌, ◌<◌}
use native.Mathlib.Omega.{arith}
use lib.ListN.{length}
use Rattle.std.proofs.Common.{Result, Ok, Err}
use Rattle.bits.specs.declared.Run.{Run}
use Rattle.reading.specs.Scan.{crc_start, stuff_due, must_be}
use Rattle.reading.specs.declared.Reading.{Reading}
use Rattle.refusals.specs.declared.Refusal.{Refusal}
use Rattle.scanning.specs.Steps.{passed, field_bit, one_bit, and_then, line_bit}
use Rattle.scanning.specs.declared.fields.Rule.{Rule}
use Rattle.scanning.specs.declared.seen.Seen.{Seen}
use Rattle.scanning.proofs.Listed.{Ruled, stuffed, delimiter, slot, one}
use Rattle.scanning.proofs.Rows.{most_at, most-bit, most-slot, must-field, must-slot, must-one}
use Rattle.scanning.proofs.Keeping.{bytes, pending-none, Told, Within}
use Rattle.scanning.proofs.Passing.{Passes, pass-goes}
use Rattle.scanning.proofs.RawBits.{Tells}
use Rattle.scanning.proofs.InRow.{form-known, length-known, reach, begun, leads, within-crc, none-late}
use Rattle.scanning.proofs.FrameBit.{Goes, goes}
use Rattle.scanning.proofs.RowBit.{field-goes, one-goes, slot-goes}

-- in row f, with no stuff bit due before the next bit; up to the CRC the raw bits tell the run
abbrev Ready : Reading → List ℕ → ℕ → Bool → ℕ → List ℕ → Run → Seen → Type 0
Ready reading line f long left frame run next =
    Within reading line f long next run left frame × (f ≤ 6 → Tells next.raw run) × (stuff_due run frame ≡ false) × (next.place < length line)

module _ {reading : Reading} {line : List ℕ} {f : ℕ} {long : Bool} {seen : Seen} {run : Run} {left : ℕ} {frame : List ℕ} (h : f < 10)
    (w : Within reading line f long seen run left frame) (told : Told seen run frame) (before : seen.place < seen.stop) where
  both : (seen.place < seen.end) × (seen.place < length line)
  both = (omega (arith, w.stop_is), omega (arith, w.stop_is))

  some : 0 < left
  some = omega (arith, w.end_is, both.0)

  -- behind this
  abbrev Behind : Run → Seen → Type 0
  Behind r next = Ready reading line f long left frame r next × (seen.place ≤ next.place) × (next.header ≡ seen.header)

  -- behind a stuff bit, or where none is due
  stuffed-goes : (raw : ℕ) → f ≤ 7 → (f ≤ 6 → raw ≡ 1 + seen.raw % 2) → Passes reading line Behind (passed raw line seen)
  stuffed-goes raw g same =
      pass-goes reading line seen run frame (leads w h some) (begun w h some) both.1 (told here) here raw Behind
      (λ due. ((w, λ few. told here, due, both.1), omega arith, refl))
      (λ r stuffed. (
        (
          record {
            leads = rw (pending-none reading r left frame (seen.place + 1) some) stuffed.leads;
            end_is = omega (arith, w.end_is);
            stop_is = refl;
            at-is = w.at-is;
            from = w.from;
            formed = w.formed;
            registers = w.registers;
            slot = λ i z. absurd (omega arith);
            fresh = λ e. absurd (omega (arith, stuffed.single));
            reached = omega (arith, stuffed.inside);
            behind = omega (arith, w.behind);
          },
          λ few. subst (λ (k : ℕ). Tells k r) (sym (same few)) stuffed.told,
          stuffed.none-due,
          stuffed.inside,
        ),
        omega arith,
        refl,
      ))
    where
      here : length frame ≤ crc_start frame + 15
      here = within-crc w h some g

  further : (next : Seen) (s : Result Seen Refusal) → seen.place ≤ next.place → next.header ≡ seen.header → Goes reading line f long next s
      → Goes reading line f long seen s
  further next (Ok last) l same g = (g.0, g.1, g.2, g.3, g.4, both.1, omega (arith, g.6), g.7 ∙ same)
  further next (Err refusal) l same g = g

  -- and the bit then
  then-goes : (bit : Seen → Result Seen Refusal) → ((r : Run) (next : Seen) → Ready reading line f long left frame r next → Goes reading line f long next (bit next))
      → (s : Result Seen Refusal) → Passes reading line Behind s → Goes reading line f long seen (and_then s bit)
  then-goes bit goes (Ok next) (r, (ready, l, same)) = further next (bit next) l same (goes r next ready)
  then-goes bit goes (Err refusal) e = e

  -- where `most` is the greatest that may stand in the row
  pub bit-goes : (most : ℕ) → most ≡ most_at reading f → {rule : Rule} → Ruled f rule → Goes reading line f long seen (line_bit rule most line seen)
  bit-goes most is = go
    where
      small : most ≤ 1
      small = omega (arith, is, most-bit reading f h)

      must-be-one : 6 < f → (f ≡ 8 → ⊥) → must_be frame ≡ 1
      must-be-one = must-one f long (bytes seen) frame (form-known w) (length-known w) w.from (reach w h some) h

      go : {rule : Rule} → Ruled f rule → Goes reading line f long seen (line_bit rule most line seen)
      go (stuffed few) =
          let must = must-field f long (bytes seen) frame (form-known w) (length-known w) w.from (reach w h some) reading few ∙ ap (λ (k : ℕ). 2 * k) (sym is) in
          then-goes (field_bit most line) (λ r next (v, tells, due, inside). field-goes h v some inside due most small must few (tells few))
          (passed (1 + seen.raw % 2) line seen) (stuffed-goes (1 + seen.raw % 2) (omega arith) (λ g. refl))
      go (delimiter i) =
          let not-slot : f ≡ 8 → ⊥ = λ e. omega arith in
          then-goes (one_bit line)
          (λ r next (v, tells, due, inside). one-goes h v some inside due (must-be-one (omega arith) not-slot) (omega arith) not-slot)
          (passed seen.raw line seen) (stuffed-goes seen.raw (omega arith) (λ few. absurd (omega arith)))
      go (slot i) =
          slot-goes h w some both.1 (none-late w h some (omega arith)) i most (is ∙ ap (most_at reading) i ∙ most-slot reading) small
          (must-slot f long (bytes seen) frame (form-known w) (length-known w) w.from (reach w h some) i)
      go (one i) =
          let not-slot : f ≡ 8 → ⊥ = λ e. omega arith in
          one-goes h w some both.1 (none-late w h some (omega arith)) (must-be-one (omega arith) not-slot) (omega arith) not-slot
