-- A fact of each number below a bound, by one test that is computed at all of them. Assumes nothing.
--     everywhere-at    the test passes everywhere below n: it passes at each number there
use mathlib.Core.Bool.{Bool, true, ◌&&◌}
use Prim.Native.Nat.{ℕ, zero, suc, ◌<◌}
use native.Mathlib.Omega.{arith}
use lib.Dec.{T}
use Rattle.std.proofs.lemmas.Bool.Decides.{nat_tests}

-- the test passes at each number below n
abbrev pub everywhere : (ℕ → Bool) → ℕ → Bool
everywhere test zero = true
everywhere test (suc n) = test n && everywhere test n

pub everywhere-at : (test : ℕ → Bool) (n : ℕ) → T (everywhere test n) → (k : ℕ) → k < n → T (test k)
everywhere-at test zero t k h = absurd (omega arith)
everywhere-at test (suc n) t k h = grind (arith, nat_tests, everywhere-at test n)
