-- The laws of the sizes. Assumes nothing.
--     field_bytes-is       the DLC is the size and one more
--     sizes-fill          break bit, words and padding fill the field's bytes
--     field_bytes-few, padding_bits-few, body-few    a field fits 64 bits; padding has at most eight
--     field_bytes-back, size_back, field_bytes-not-one    a field's bytes and its payload's decide each other
--     break_bit-below, break-number-below    the break bit is a bit
use mathlib.Core.Path.{◌≡◌, refl, ap}
use Prim.Native.Nat.{ℕ, zero, suc, ◌+◌, ◌-◌, ◌*◌, ◌≤◌, ◌<◌}
use native.Mathlib.Omega.{arith}
use lib.Dec.{lit<}
use lib.ListN.{length}
use Rattle.bits.specs.Below.{Below}
use Rattle.bits.specs.Rows.{number}
use Rattle.field.specs.Sizes.{field_bytes, break_bit, padding_bits}

pub field_bytes-is : (size : ℕ) → 0 < size → field_bytes size ≡ size + 1
field_bytes-is zero h = absurd (omega arith)
field_bytes-is (suc size) h = omega arith

pub sizes-fill : (size : ℕ) → size ≤ 7 → length (break_bit (field_bytes size)) + 9 * size + padding_bits size ≡ 8 * field_bytes size
sizes-fill zero h = refl
sizes-fill (suc size) h = omega arith

pub field_bytes-few : (size : ℕ) → size ≤ 7 → field_bytes size ≤ 8
field_bytes-few zero h = omega arith
field_bytes-few (suc size) h = omega arith

pub padding_bits-few : (size : ℕ) → padding_bits size ≤ 8
padding_bits-few zero = omega arith
padding_bits-few (suc size) = omega arith

-- without the break bit
pub body-few : (size : ℕ) → size ≤ 7 → 9 * size + padding_bits size < 64
body-few zero h = lit< tt
body-few (suc size) h = omega arith

pub field_bytes-back : (n : ℕ) → (n ≡ 1 → ⊥) → field_bytes (n - 1) ≡ n
field_bytes-back zero h = refl
field_bytes-back (suc zero) h = absurd (h refl)
field_bytes-back (suc (suc n)) h = let less : suc (suc n) - 1 ≡ suc n = omega arith in ap field_bytes less

pub size_back : (size : ℕ) → field_bytes size - 1 ≡ size
size_back zero = omega arith
size_back (suc size) = omega arith

pub field_bytes-not-one : (size : ℕ) → field_bytes size ≡ 1 → ⊥
field_bytes-not-one zero e = omega arith
field_bytes-not-one (suc size) e = omega arith

pub break_bit-below : (n : ℕ) → Below 2 (break_bit n)
break_bit-below zero = tt
break_bit-below (suc n) = (omega arith, tt)

pub break-number-below : (n : ℕ) → number 0 (break_bit n) < 2
unfolding number
break-number-below zero = lit< tt
break-number-below (suc n) = omega arith
