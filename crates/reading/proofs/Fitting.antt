-- Whether a bit may stand where another must. Assumes nothing.
--     unfit    the other bit may not
--     fit      any other may: the one that must, and where either may stand, both
use mathlib.Core.Path.{◌≡◌, refl}
use mathlib.Core.Bool.{Bool, true, false, ◌||◌}
use Prim.Native.Nat.{ℕ, ◌-◌, ◌≤◌}
use native.Mathlib.Omega.{arith}
use lib.Dec.{eqb}
use borrow.Author.Tests.{eq-eqb, ne_eqb, eqb-false}
use Rattle.reading.specs.Form.{fits}

pub unfit : (must bit : ℕ) → bit ≤ 1 → must ≡ 1 - bit → fits must bit ≡ false
unfit must bit h e = simp (ne_eqb must 2 (λ d. omega arith), ne_eqb must bit (λ d. omega arith))

pub fit : (must bit : ℕ) → must ≤ 2 → bit ≤ 1 → (must ≡ 1 - bit → ⊥) → fits must bit ≡ true
fit must bit m h n = go (eqb must 2) refl
  where
    go : (t : Bool) → eqb must 2 ≡ t → (t || eqb must bit) ≡ true
    go true e = refl
    go false e = let other = eqb-false must 2 e in eq-eqb must bit (omega arith)
