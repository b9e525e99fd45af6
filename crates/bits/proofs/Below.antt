-- The laws of lists of numbers below a bound. Assumes nothing.
--     below-append, below-take, below-drop
--     below_at    a list of which each number is below the bound
--     below_more  numbers below a bound are below a higher one
use mathlib.Core.List.{List, [], ◌∷◌, ◌++◌}
use Prim.Native.Nat.{ℕ, zero, suc, ◌≤◌, ◌<◌}
use native.Mathlib.Omega.{arith}
use lib.ListN.{get_or, take, drop}
use Rattle.bits.specs.Below.{Below}

pub below-append : (b : ℕ) (l m : List ℕ) → Below b l → Below b m → Below b (l ++ m)
below-append b [] m h g = g
below-append b (x ∷ l) m h g = (h.0, below-append b l m h.1 g)

pub below-take : (b k : ℕ) (l : List ℕ) → Below b l → Below b (take k l)
below-take b zero l h = tt
below-take b (suc k) [] h = tt
below-take b (suc k) (x ∷ l) h = (h.0, below-take b k l h.1)

pub below-drop : (b k : ℕ) (l : List ℕ) → Below b l → Below b (drop k l)
below-drop b zero l h = h
below-drop b (suc k) [] h = tt
below-drop b (suc k) (x ∷ l) h = below-drop b k l h.1

pub below_at : (b : ℕ) (l : List ℕ) → ((i : ℕ) → get_or l i 0 < b) → Below b l
below_at b [] h = tt
below_at b (x ∷ l) h = (h zero, below_at b l (λ i. h (suc i)))

pub below_more : (b c : ℕ) (l : List ℕ) → b ≤ c → Below b l → Below c l
below_more b c [] h g = tt
below_more b c (x ∷ l) h g = (omega (arith, h, g.0), below_more b c l h g.1)
