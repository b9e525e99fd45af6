-- A list is filled from the left. Assumes nothing.
--     filled_next    one more is put at i, of those that go before n; what stands from n on stays
--     sets-append    two rows are put one behind the other
use mathlib.Core.Path.{◌≡◌}
use mathlib.Core.List.{List, [], ◌∷◌, ◌++◌, append_assoc}
use Prim.Native.Nat.{ℕ, suc, ◌+◌, ◌<◌}
use native.Mathlib.Numerals.{add-one}
use native.Mathlib.Omega.{arith}
use lib.ListN.{length, take, drop, set}
use lib.Seq.{sets, drop-set-lt, take-suc-set}

pub filled_next : (old left : List ℕ) (i n x : ℕ) → i < length old → i < n
    → take (i + 1) (set old i x) ++ (left ++ drop n (set old i x)) ≡ take i old ++ ((x ∷ left) ++ drop n old)
filled_next old left i n x h g =
    rw (drop-set-lt n old i x g, add-one, take-suc-set old i x h) (append_assoc (take i old) (x ∷ []) (left ++ drop n old))

pub sets-append : (l : List ℕ) (i : ℕ) (xs ys : List ℕ) → sets l i (xs ++ ys) ≡ sets (sets l i xs) (i + length xs) ys
sets-append l i [] ys = grind arith
sets-append l i (x ∷ xs) ys = grind (arith, sets-append (set l i x) (suc i) xs ys)
