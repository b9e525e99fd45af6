-- Behind IDE. Assumes nothing.
--     form-ends      the bit before it is the same, and IDE tells the form; or the line is refused at that bit
use mathlib.Core.Path.{◌≡◌, refl, sym, ap, ap₂, ◌∙◌}
use mathlib.Core.Bool.{Bool, true, false, cond, not, true≢false}
use mathlib.Core.List.{List}
use Prim.Native.Nat.{ℕ, ◌+◌, ◌-◌, ◌/◌, ◌%◌}
use native.Mathlib.Omega.{arith}
use lib.Dec.{eqb}
use lib.ListN.{length, get_or}
use Rattle.std.proofs.Common.{Ok, Err}
use Rattle.bits.specs.declared.Run.{Run}
use Rattle.refusals.specs.declared.Refusal.TheVariants.{FixedBit}
use Rattle.reading.specs.Scan.{long_in, form_right, before_ide, wrong, scanned}
use Rattle.reading.specs.declared.Reading.{Reading}
use Rattle.reading.proofs.Partial.{width-least, start-least}
use Rattle.reading.proofs.Verdicts.{form-refused, nothing-shown}
use Rattle.scanning.specs.Steps.{twice, form_read, Stopped}
use Rattle.scanning.specs.declared.seen.Seen.{Seen}
use Rattle.scanning.proofs.Positions.{start_of, end_of, form-start}
use Rattle.scanning.proofs.RawBits.{twice-told}
use Rattle.scanning.proofs.Keeping.{bytes, Told, Within}
use Rattle.scanning.proofs.HeaderNumber.{form-read}
use Rattle.scanning.proofs.Registers.{Registers, in-header, in-data, in-crc, behind}
use Rattle.scanning.proofs.RowEnd.{Ends, passed_on, at-end, refused, kept}

-- IDE and the bit before it, from the number that ends with them
form-there : (n : ℕ) (frame : List ℕ) → (get_or frame 12 0 ≡ n / 2 % 2) × (get_or frame 13 0 ≡ n % 2)
    → (form_right frame ≡ twice n) × (long_in frame ≡ eqb (n % 2) 1)
unfolding twice long_in
form-there n frame e = (ap₂ eqb e.0 e.1, ap (λ (b : ℕ). eqb b 1) e.1)

module _ {reading : Reading} {line : List ℕ} {f : ℕ} {long : Bool} {seen : Seen} {run : Run} {left : ℕ} {frame : List ℕ}
    (w : Within reading line f long seen run left frame) (told : Told seen run frame) (z : left ≡ 0) where
  -- the form that IDE tells
  abbrev to : Bool
  to = eqb (seen.number % 2) 1

  pub form-ends : f ≡ 1 → end_of f long (bytes seen) ≡ 14 → Ends reading line f to run frame (form_read seen)
  unfolding form_read
  form-ends i end = read w.registers
    where
      fourteen : length frame ≡ 14
      fourteen = at-end w told z ∙ end

      -- IDE is the first of its run, or a stuff bit stands before it
      tells : twice seen.raw ≡ not (eqb run.count 1)
      tells = twice-told seen.raw run (told (omega (arith, fourteen, (start-least frame).0))) (λ e. omega (arith, fourteen, w.fresh e))

      other : (k : ℕ) → before_ide run (seen.place - 1) ≡ k → form_right frame ≡ false → Stopped (scanned reading line) (FixedBit k)
      other k e unlike =
          refused w told z (FixedBit k) (form-refused reading run frame (seen.place - 1) fourteen unlike ∙ ap (λ (j : ℕ). wrong (FixedBit j)) e)

      at_place : (t u : Bool) → eqb run.count 1 ≡ t → u ≡ not t → form_right frame ≡ false
          → Ends reading line f to run frame (cond u (Err (FixedBit (seen.place - 3))) (Err (FixedBit (seen.place - 2))))
      at_place true true d same unlike = absurd (true≢false same)
      at_place true false d same unlike = other _ (rw d (omega arith)) unlike
      at_place false true d same unlike = other _ (rw d (omega arith)) unlike
      at_place false false d same unlike = absurd (true≢false (sym same))

      read : Registers f seen.header seen.field seen.number frame → Ends reading line f to run frame (form_read seen)
      read (in-header g e l) = go (twice seen.number) refl
        where
          bits-told : (form_right frame ≡ twice seen.number) × (long_in frame ≡ to)
          bits-told = form-there seen.number frame (form-read seen.number fourteen e)

          go : (t : Bool) → twice seen.number ≡ t
              → Ends reading line f to run frame
              (cond t (Ok seen) (cond (twice seen.raw) (Err (FixedBit (seen.place - 3))) (Err (FixedBit (seen.place - 2)))))
          go true d =
              let early = (start-least frame).0 in
              let next : f + 1 ≡ 2 = omega arith in
              kept w told z to seen.number seen.header seen.field
              (nothing-shown reading run frame (seen.place - 1) (λ x. bits-told.0 ∙ d)
              (λ x. absurd (omega (arith, fourteen, width-least (long_in frame)))) (λ x. absurd (omega (arith, fourteen, early)))
              (λ x. absurd (omega (arith, fourteen, early))))
              (fourteen ∙ sym (ap (λ (k : ℕ). start_of k to (bytes seen)) next ∙ form-start to (bytes seen)))
              (λ x. record { form-is = bits-told.1; same = bits-told.0 ∙ d })
              (passed_on (λ j. omega arith) (λ j. omega arith) (λ j. omega arith) w.registers)
          go false d = at_place (eqb run.count 1) (twice seen.raw) refl tells (bits-told.0 ∙ d)
      read (in-data k g fine e l) = absurd (omega arith)
      read (in-crc k g put e l) = absurd (omega arith)
      read (behind m g put e l) = absurd (omega arith)
