-- What a 13 comes of. Assumes nothing.
--     Ide            the bit is IDE, another than the frame's bit before it, and the place that is told is this
--     Thirteen, verdict-13    a bit that must be another, told at its own place; or IDE
use mathlib.Core.Path.{◌≡◌, refl, sym, ap, ◌∙◌, subst}
use mathlib.Core.Bool.{true, false}
use mathlib.Core.List.{List, [], ◌∷◌, ◌++◌}
use Prim.Native.Nat.{ℕ, ◌≤◌}
use native.Mathlib.Omega.{arith}
use lib.Dec.{eqb}
use lib.ListN.{length, get_or, length-append, get_or-append}
use lib.Seq.{get_or_at}
use borrow.Author.Tests.{eqb-true, eqb-false}
use Rattle.bits.specs.declared.Run.{Run}
use Rattle.refusals.specs.declared.Refusal.{Refusal}
use Rattle.refusals.specs.declared.Refusal.TheVariants.{FixedBit}
use Rattle.refusals.specs.Table.{number_of}
use Rattle.reading.specs.Form.{fits}
use Rattle.reading.specs.Scan.{stuff_due, must_be, form_right, before_ide, wrong, verdict, run_with}
use Rattle.reading.specs.declared.Reading.{Reading}
use Rattle.reading.proofs.Sound.{both-met, form_wrong}
use Rattle.reading.proofs.Fault.{Fault, bit-too-many, no-bit, no-stuff-bit, fixed-bit, before-ide, wrong-dlc, wrong-crc, wrong-slot, fault}

pub record Ide (run : Run) (frame : List ℕ) (place b p : ℕ) : Type 0 where
  pub bit : b ≤ 1
  pub none-due : stuff_due run frame ≡ false
  pub thirteen : length frame ≡ 13
  pub differs : get_or frame 12 0 ≡ b → ⊥
  pub told : before_ide (run_with run b) place ≡ p

pub data Thirteen (run : Run) (frame : List ℕ) (place b p : ℕ) : Type 0 where
  at-bit : p ≡ place → fits (must_be frame) b ≡ false → Thirteen run frame place b p
  at-ide : Ide run frame place b p → Thirteen run frame place b p

-- IDE is the last of fourteen bits
ide-is : {run : Run} {frame : List ℕ} (place : ℕ) {b : ℕ} → b ≤ 1 → stuff_due run frame ≡ false → form_wrong (frame ++ (b ∷ [])) ≡ true
    → Ide run frame place b (before_ide (run_with run b) place)
ide-is {run} {frame} place {b} bit due form =
    let with = frame ++ (b ∷ []) in
    let tests = both-met (eqb (length with) 14) (form_right with) form in
    let thirteen : length frame ≡ 13 = omega (arith, eqb-true (length with) 14 tests.0, length-append frame (b ∷ [])) in
    let before = get_or-append frame (b ∷ []) 0 12 (omega (arith, thirteen)) in
    record {
      bit = bit;
      none-due = due;
      thirteen = thirteen;
      differs = λ same. eqb-false (get_or with 12 0) (get_or with 13 0) tests.1 (before ∙ same ∙ sym (get_or_at frame b [] 0 13 thirteen));
      told = refl;
    }

module _ (reading : Reading) (run : Run) (frame : List ℕ) (place b p : ℕ) where
  -- each other fault has another number
  other : {A : Type 0} {r : Refusal} → (13 ≡ number_of r → ⊥) → FixedBit p ≡ r → A
  other n e = absurd (n (ap number_of e))

  pub verdict-13 : verdict reading run frame place b ≡ wrong (FixedBit p) → Thirteen run frame place b p
  verdict-13 e = go (fault reading run frame place b (FixedBit p) e)
    where
      go : Fault reading run frame place b (FixedBit p) → Thirteen run frame place b p
      go (bit-too-many r) = other (λ z. omega arith) r
      go (no-bit high r) = other (λ z. omega arith) r
      go (no-stuff-bit due r) = other (λ z. omega arith) r
      go (fixed-bit may r) = let is : p ≡ place = cc in at-bit is may
      go (before-ide low due form r) =
          let is : before_ide (run_with run b) place ≡ p = cc in
          at-ide (subst (Ide run frame place b) is (ide-is place low due form))
      go (wrong-dlc dlc r) = other (λ z. omega arith) r
      go (wrong-crc check r) = other (λ z. omega arith) r
      go (wrong-slot low slot r) = other (λ z. omega arith) r
