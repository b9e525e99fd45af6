-- The laws of padding. Assumes nothing.
--     padding-length, padding-below    so many bits, each 0 or 1
--     padding-at        bit i of it
--     padding-number    its number, cut from eight bits that alternate
--     padding_number-is    that number, told of at most eight bits
--     padding_number-no-bit, padding_number-long    0, from what is no bit, or of more than eight
use mathlib.Core.Path.{◌≡◌, refl, ap, ◌∙◌}
use mathlib.Core.Bool.{Bool}
use Prim.Native.Nat.{ℕ, zero, suc, ◌+◌, ◌-◌, ◌*◌, ◌/◌, ◌%◌, ◌^◌, ◌≤◌, ◌<◌}
use native.Mathlib.Nat.{not-suc-le-zero, le_of_suc-le-suc}
use native.Mathlib.Omega.{arith}
use lib.Dec.{eqb, eqb→eq}
use lib.ListN.{length, get_or}
use borrow.Author.Tests.{lt-ltb, le-ltb}
use Rattle.bits.specs.Below.{Below}
use Rattle.bits.specs.Rows.{number}
use Rattle.bits.proofs.Everywhere.{everywhere, everywhere-at}
use Rattle.field.specs.Padding.{padding}
use Rattle.field.specs.Coded.{padding_number}

pub padding-length : (first count : ℕ) → length (padding first count) ≡ count
unfolding padding
padding-length first zero = refl
padding-length first (suc count) =
    let rest : (bit : ℕ) → length (padding bit count) ≡ count = λ bit. padding-length bit count in
    ap suc (rest _)

pub padding-below : (first count : ℕ) → first < 2 → Below 2 (padding first count)
unfolding padding
padding-below first zero h = tt
padding-below first (suc count) h =
    let rest : (bit : ℕ) → bit < 2 → Below 2 (padding bit count) = λ bit g. padding-below bit count g in
    (h, rest _ (omega arith))

pub padding-at : (first count i : ℕ) → first < 2 → i < count → get_or (padding first count) i 0 ≡ (first + i) % 2
unfolding padding
padding-at first zero i h g = absurd (not-suc-le-zero g)
padding-at first (suc count) zero h g = omega arith
padding-at first (suc count) (suc i) h g = padding-at (1 - first) count i (omega arith) (le_of_suc-le-suc g) ∙ omega arith

-- the number that the code cuts out is the right one
cut : ℕ → ℕ → Bool
cut first count = eqb (85 * 2 ^ first % 2 ^ 64 / 2 ^ (8 - count)) (number 0 (padding first count))

pub padding-number : (first count : ℕ) → first < 2 → count ≤ 8 → 85 * 2 ^ first % 2 ^ 64 / 2 ^ (8 - count) ≡ number 0 (padding first count)
unfolding cut number padding
padding-number first count h g =
    eqb→eq _ _
    (everywhere-at (cut first) 9 (everywhere-at (λ (bit : ℕ). everywhere (cut bit) 9) 2 tt first h) count (omega arith))

pub padding_number-is : (first count : ℕ) → first < 2 → count ≤ 8 → padding_number first count ≡ number 0 (padding first count)
unfolding padding_number
padding_number-is first count h g = simp (le-ltb 1 first (omega arith), le-ltb _ _ g)

pub padding_number-no-bit : (first count : ℕ) → 1 < first → padding_number first count ≡ 0
unfolding padding_number
padding_number-no-bit first count h = simp (lt-ltb _ _ h)

pub padding_number-long : (first count : ℕ) → first < 2 → 8 < count → padding_number first count ≡ 0
unfolding padding_number
padding_number-long first count h g = simp (le-ltb 1 first (omega arith), lt-ltb _ _ g)
