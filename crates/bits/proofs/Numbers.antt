-- Lists that hold something for each number. Assumes nothing.
--     numbers-at    a list made from the numbers 0, 1 and so on holds at k what is made from k
use mathlib.Core.Path.{◌≡◌}
use mathlib.Core.List.{map}
use Prim.Native.Nat.{ℕ, zero, suc, ◌+◌, ◌<◌}
use native.Mathlib.Omega.{arith}
use lib.ListN.{get_or}
use Rattle.bits.specs.Numbers.{numbers_from}

module _ {A : Type 0} where
  from_at : (f : ℕ → A) (d : A) (a n k : ℕ) → k < n → get_or (map f (numbers_from a n)) k d ≡ f (a + k)
  from_at f d a zero k h = absurd (omega arith)
  from_at f d a (suc n) zero h = grind arith
  from_at f d a (suc n) (suc k) h = grind (arith, from_at f d (suc a) n k)

  pub numbers-at : (f : ℕ → A) (d : A) (n k : ℕ) → k < n → get_or (map f (numbers_from 0 n)) k d ≡ f k
  numbers-at f d n k h = grind (arith, from_at f d 0 n k)
