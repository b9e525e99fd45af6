-- The laws of the test whether two lists are the same. Assumes nothing.
--     same-eq        lists that pass it are equal
--     eq-same        equal lists pass it
--     ne_same        others do not
--     same_number    of two rows of one length it compares the numbers that they write
use mathlib.Core.Path.{◌≡◌, refl}
use mathlib.Core.Bool.{true, false}
use mathlib.Core.List.{List, [], ◌∷◌}
use Prim.Native.Nat.{ℕ}
use native.Mathlib.Omega.{arith}
use lib.Dec.{T, eqb}
use lib.ListN.{length}
use Rattle.std.proofs.lemmas.Bool.Decides.{nat_tests}
use Rattle.bits.specs.Below.{Below}
use Rattle.bits.specs.Rows.{number}
use Rattle.bits.specs.Same.{same}
use Rattle.bits.proofs.Rows.{number-only}

pub same-eq : (l m : List ℕ) → T (same l m) → l ≡ m
same-eq [] [] t = refl
same-eq [] (y ∷ m) t = absurd t
same-eq (x ∷ l) [] t = absurd t
same-eq (x ∷ l) (y ∷ m) t = grind (arith, nat_tests, same-eq l m)

pub eq-same : (l : List ℕ) → same l l ≡ true
eq-same [] = refl
eq-same (x ∷ l) = grind (arith, nat_tests, eq-same l)

pub ne_same : (l m : List ℕ) → (l ≡ m → ⊥) → same l m ≡ false
ne_same l m ne = grind (arith, nat_tests, same-eq l m)

pub same_number : (l m : List ℕ) → Below 2 l → Below 2 m → length l ≡ length m → same l m ≡ eqb (number 0 l) (number 0 m)
same_number l m h g e = grind (arith, nat_tests, number-only l m h g e, same-eq l m, eq-same l)
