-- A list in which each number is greater than the one before it. Assumes nothing.
--     rising-tail    so is the list without its first number
--     rising-at      of two places of such a list the later holds the greater number
use mathlib.Core.Bool.{Bool, true, ◌&&◌}
use mathlib.Core.List.{List, [], ◌∷◌}
use Prim.Native.Nat.{ℕ, zero, suc, ◌<◌}
use native.Mathlib.Omega.{arith}
use lib.Dec.{T, ltb}
use lib.ListN.{length, get_or}
use Rattle.std.proofs.lemmas.Bool.Decides.{nat_tests}

-- the list starts above a, and each of its numbers is greater than the one before it
abbrev pub rising_from : ℕ → List ℕ → Bool
rising_from a [] = true
rising_from a (x ∷ l) = ltb a x && rising_from x l

-- each number is greater than the one before it
abbrev pub rising : List ℕ → Bool
rising [] = true
rising (x ∷ l) = rising_from x l

above : (a : ℕ) (l : List ℕ) → T (rising_from a l) → (j : ℕ) → j < length l → a < get_or l j 0
above a [] t j h = absurd (omega arith)
above a (x ∷ l) t zero h = grind (arith, nat_tests)
above a (x ∷ l) t (suc j) h = grind (arith, nat_tests, above x l)

pub rising-tail : (x : ℕ) (l : List ℕ) → T (rising (x ∷ l)) → T (rising l)
rising-tail x [] t = tt
rising-tail x (y ∷ l) t = grind (arith, nat_tests)

pub rising-at : (l : List ℕ) → T (rising l) → (i j : ℕ) → i < j → j < length l → get_or l i 0 < get_or l j 0
rising-at [] t i j h k = absurd (omega arith)
rising-at (x ∷ l) t zero zero h k = absurd (omega arith)
rising-at (x ∷ l) t zero (suc j) h k = above x l t j (omega arith)
rising-at (x ∷ l) t (suc i) zero h k = absurd (omega arith)
rising-at (x ∷ l) t (suc i) (suc j) h k = rising-at l (rising-tail x l t) i j (omega arith) (omega arith)
