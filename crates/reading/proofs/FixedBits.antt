-- 13 at the place where it is met is given neither for IDE nor for the bit before it. Assumes nothing.
--     fixed-elsewhere    of a line that is stopped so
use mathlib.Core.Path.{◌≡◌, ap, ◌∙◌}
use mathlib.Core.Bool.{Bool, true, false, cond, true≢false}
use mathlib.Core.List.{List, []}
use mathlib.Core.Logic.{◌⊎◌, inl, inr}
use Prim.Native.Nat.{ℕ, zero, suc, ◌-◌, ◌<◌}
use native.Mathlib.Omega.{arith}
use lib.Dec.{eqb, lit<}
use lib.ListN.{length, get_or}
use Rattle.bits.specs.declared.Run.{Run}
use Rattle.bits.specs.Stuffing.{nothing_sent}
use Rattle.refusals.specs.declared.Refusal.TheVariants.{LineLength, FixedBit}
use Rattle.reading.specs.Form.{either, form}
use Rattle.reading.specs.Scan.{long_in, dlc_in, complete, must_be, wrong, verdict, run_with, frame_behind, stopped, scanned}
use Rattle.reading.specs.declared.Reading.{Reading}
use Rattle.reading.proofs.Partial.{must-early}
use Rattle.reading.proofs.Thirteen.{Thirteen, at-bit, at-ide, verdict-13}
use Rattle.reading.proofs.ProblemMet.{problem-met}
use Rattle.reading.proofs.BeforeIde.{run_to, frame_to}

-- where either bit may stand
module _ (run : Run) (frame : List ℕ) (place b : ℕ) (later : 0 < place) (free : must_be frame ≡ either) where
  -- the place of the bit before IDE is another
  earlier : (t : Bool) → cond t (place - 1) (place - 2) ≡ place → ⊥
  earlier true e = omega arith
  earlier false e = omega arith

  none-there : Thirteen run frame place b place → ⊥
  none-there (at-bit e d) = let z : ◌≡◌ {A = Bool} true false = rw free at d in true≢false z
  none-there (at-ide i) = earlier (eqb (run_with run b).count 1) i.told

-- IDE, and the bit before it
free-there : (frame : List ℕ) → (length frame ≡ 12) ⊎ (length frame ≡ 13) → must_be frame ≡ either
unfolding must_be
free-there frame (inl e) =
    ap (λ (k : ℕ). get_or (form (long_in frame) (dlc_in frame)) k either) e ∙ must-early (long_in frame) (dlc_in frame) 12 (lit< tt)
free-there frame (inr e) =
    ap (λ (k : ℕ). get_or (form (long_in frame) (dlc_in frame)) k either) e ∙ must-early (long_in frame) (dlc_in frame) 13 (lit< tt)

pub fixed-elsewhere : (reading : Reading) (line : List ℕ) (met : ℕ) → scanned reading line ≡ stopped met (FixedBit met)
    → (length (frame_to line met) ≡ 12) ⊎ (length (frame_to line met) ≡ 13) → ⊥
unfolding frame_behind
fixed-elsewhere reading line zero e (inl none) = omega (arith, none)
fixed-elsewhere reading line zero e (inr none) = omega (arith, none)
fixed-elsewhere reading line (suc k) e there = go (problem-met reading line (suc k) (FixedBit (suc k)) e)
  where
    go : ((suc k < length line) × (verdict reading (run_to line (suc k)) (frame_to line (suc k)) (suc k) (get_or line (suc k) 0) ≡ wrong (FixedBit (suc k))))
        ⊎ ((suc k ≡ length line) × (FixedBit (suc k) ≡ LineLength (length line)) × (complete (frame_behind nothing_sent [] line) ≡ false)) → ⊥
    go (inl (inside, v)) =
        none-there (run_to line (suc k)) (frame_to line (suc k)) (suc k) (get_or line (suc k) 0) (omega arith) (free-there (frame_to line (suc k)) there)
        (verdict-13 reading (run_to line (suc k)) (frame_to line (suc k)) (suc k) (get_or line (suc k) 0) (suc k) v)
    go (inr (end, other, more)) = let z : ◌≡◌ {A = ℕ} 0 1 = cc in omega arith
