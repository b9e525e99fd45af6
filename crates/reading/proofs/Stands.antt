-- What bits are refused with, and where. Of one bit. Assumes nothing.
--     bit_numbers, OfBits, eleven, twenty    the numbers
--     Stands, here, At, verdict-at    a problem stands where it is met, but for 13: that may stand at one of the two bits before
use mathlib.Core.Path.{◌≡◌, refl}
use mathlib.Core.Bool.{Bool, true, false, cond}
use mathlib.Core.List.{List, [], ◌∷◌}
use mathlib.Core.Logic.{inl, inr}
use Prim.Native.Nat.{ℕ, ◌+◌, ◌-◌, ◌≤◌}
use native.Mathlib.Omega.{arith}
use lib.Dec.{eqb}
use Rattle.bits.specs.declared.Run.{Run}
use Rattle.refusals.specs.declared.Refusal.{Refusal}
use Rattle.refusals.specs.declared.Refusal.TheVariants.{FieldLength, LineByte, StuffBit, LineLength, Crc, FixedBit, NotAcknowledged}
use Rattle.refusals.specs.Among.{Among}
use Rattle.refusals.specs.Table.{number_of, place_of}
use Rattle.reading.specs.Scan.{before_ide, Verdict, right, wrong, verdict, run_with}
use Rattle.reading.specs.declared.Reading.{Reading}
use Rattle.reading.proofs.Fault.{Fault, bit-too-many, no-bit, no-stuff-bit, fixed-bit, before-ide, wrong-dlc, wrong-crc, wrong-slot, fault}

-- what bits are refused with
abbrev pub bit_numbers : List ℕ
bit_numbers = 3 ∷ 9 ∷ 10 ∷ 11 ∷ 12 ∷ 13 ∷ 20 ∷ []

abbrev pub OfBits : Refusal → Type 0
OfBits refusal = Among bit_numbers (number_of refusal)

-- each of them
three : (bit : ℕ) → OfBits (FieldLength bit)
three bit = inl refl

nine : (bit : ℕ) → OfBits (LineByte bit)
nine bit = inr (inl refl)

ten : (bit : ℕ) → OfBits (StuffBit bit)
ten bit = inr (inr (inl refl))

pub eleven : (bit : ℕ) → OfBits (LineLength bit)
eleven bit = inr (inr (inr (inl refl)))

twelve : (bit : ℕ) → OfBits (Crc bit)
twelve bit = inr (inr (inr (inr (inl refl))))

thirteen : (bit : ℕ) → OfBits (FixedBit bit)
thirteen bit = inr (inr (inr (inr (inr (inl refl)))))

pub twenty : (bit : ℕ) → OfBits (NotAcknowledged bit)
twenty bit = inr (inr (inr (inr (inr (inr (inl refl))))))

-- a problem that is met at this place is one of these, and stands there; 13 may stand at one of the two places before
pub record Stands (met : ℕ) (refusal : Refusal) : Type 0 where
  pub not_behind : place_of refusal ≤ met
  pub near : met ≤ place_of refusal + 2
  pub there : (number_of refusal ≡ 13 → ⊥) → place_of refusal ≡ met
  pub own : OfBits refusal

abbrev pub At : ℕ → Verdict → Type 0
At place right = Unit {0}
At place (wrong refusal) = Stands place refusal

pub here : (place : ℕ) (refusal : Refusal) → place_of refusal ≡ place → OfBits refusal → Stands place refusal
here place refusal e own = record { not_behind = omega (arith, e); near = omega (arith, e); there = λ n. e; own = own }

before : (run : Run) (place : ℕ) → Stands place (FixedBit (before_ide run place))
before run place =
    record { not_behind = near.0; near = near.1; there = λ n. absurd (n refl); own = thirteen (before_ide run place) }
  where
    near : (before_ide run place ≤ place) × (place ≤ before_ide run place + 2)
    near = go (eqb run.count 1)
      where
        go : (t : Bool) → (cond t (place - 1) (place - 2) ≤ place) × (place ≤ cond t (place - 1) (place - 2) + 2)
        go true = (omega arith, omega arith)
        go false = (omega arith, omega arith)

-- whatever it is refused for
stands : {reading : Reading} {run : Run} {frame : List ℕ} {place bit : ℕ} {refusal : Refusal} → Fault reading run frame place bit refusal
    → Stands place refusal
stands {place = place} (bit-too-many e) = rw e (here place (LineLength place) refl (eleven place))
stands {place = place} (no-bit high e) = rw e (here place (LineByte place) refl (nine place))
stands {place = place} (no-stuff-bit due e) = rw e (here place (StuffBit place) refl (ten place))
stands {place = place} (fixed-bit may e) = rw e (here place (FixedBit place) refl (thirteen place))
stands {run = run} {place = place} {bit = bit} (before-ide low due form e) = rw e (before (run_with run bit) place)
stands {place = place} (wrong-dlc dlc e) = rw e (here place (FieldLength place) refl (three place))
stands {place = place} (wrong-crc check e) = rw e (here place (Crc place) refl (twelve place))
stands {place = place} (wrong-slot low slot e) = rw e (here place (NotAcknowledged place) refl (twenty place))

pub verdict-at : (reading : Reading) (run : Run) (frame : List ℕ) (place bit : ℕ) → At place (verdict reading run frame place bit)
verdict-at reading run frame place bit = go (verdict reading run frame place bit) refl
  where
    go : (v : Verdict) → verdict reading run frame place bit ≡ v → At place v
    go right e = tt
    go (wrong refusal) e = stands (fault reading run frame place bit refusal e)
