-- The long division is linear. Assumes nothing.
--     xor-bring       one bit more on both
--     medial          four numbers may be taken together in either order
--     linear          a step of the division of a sum is the sum of the steps
--     linear-row      a row that is brought down to a sum
--     remainder-short    while the bits fit into the register they only move up
use mathlib.Core.Path.{◌≡◌, refl, ◌∙◌, ap}
use Prim.Native.Nat.{ℕ, zero, suc, ◌+◌, ◌*◌, ◌/◌, ◌%◌, ◌^◌, ◌<◌, ◌≤◌}
use native.Mathlib.Nat.{zero-div, pow-suc, add-mul, mul_assoc, mul_comm}
use native.Mathlib.Omega.{arith}
use lib.Bits.{bit_xor, xor_shr, xor_mod}
use lib.Pow.{pow_mono, mod-pow-add}
use Rattle.bits.specs.Rows.{bits}
use Rattle.crc.specs.Crc.{xor, divide, remainder}
use Rattle.crc.proofs.Division.{xor_is, divide-below, divide-short}

pub xor-bring : (k p q x y : ℕ) → x < 2 → y < 2 → xor (suc k) (p * 2 + x) (q * 2 + y) ≡ xor k p q * 2 + (x + y) % 2
unfolding xor
xor-bring k p q x y hx hy = grind arith

pub medial : (k a b c d : ℕ) → xor k (xor k a b) (xor k c d) ≡ xor k (xor k a c) (xor k b d)
unfolding xor
medial zero a b c d = refl
medial (suc k) a b c d = grind (arith, medial k (a / 2) (b / 2) (c / 2) (d / 2))

one_bit : (u v : ℕ) → u < 2 → v < 2 → bit_xor u v ≡ (u + v) % 2
unfolding xor
one_bit u v hu hv = grind (arith, xor_is 1 u v)

divisor : (u v : ℕ) → u < 2 → v < 2 → 0x4599 * ((u + v) % 2) ≡ xor 15 (0x4599 * u) (0x4599 * v)
unfolding xor
divisor zero zero h l = refl
divisor zero (suc v) h l = let v_is : v ≡ 0 = omega arith in rw v_is
divisor (suc u) zero h l = let u_is : u ≡ 0 = omega arith in rw u_is
divisor (suc u) (suc v) h l =
    let u_is : u ≡ 0 = omega arith in
    let v_is : v ≡ 0 = omega arith in
    rw (u_is, v_is)

pub linear : (a b x y : ℕ) → a < 2 ^ 15 → b < 2 ^ 15 → x < 2 → y < 2 → divide (xor 15 a b) ((x + y) % 2) ≡ xor 15 (divide a x) (divide b y)
unfolding divide
linear a b x y ha hb hx hy =
    let s : ℕ = a * 2 + x in
    let t : ℕ = b * 2 + y in
    let sum = xor-bring 15 a b x y hx hy in
    let all = xor_is 16 s t (omega arith) (omega arith) in
    let low = xor_mod s t 15 in
    let lows = xor_is 15 (s % 2 ^ 15) (t % 2 ^ 15) (omega arith) (omega arith) in
    let top = xor_shr s t 15 in
    let tops = one_bit (s / 2 ^ 15) (t / 2 ^ 15) (omega arith) (omega arith) in
    let taken = divisor (s / 2 ^ 15) (t / 2 ^ 15) (omega arith) (omega arith) in
    let order = medial 15 (s % 2 ^ 15) (t % 2 ^ 15) (0x4599 * (s / 2 ^ 15)) (0x4599 * (t / 2 ^ 15)) in
    cc

pub linear-row : (k x a b : ℕ) → a < 2 ^ 15 → b < 2 ^ 15
    → remainder (xor 15 a b) (bits k x) ≡ xor 15 (remainder a (bits k 0)) (remainder b (bits k x))
unfolding remainder bits
linear-row zero x a b ha hb = refl
linear-row (suc k) x a b ha hb =
    grind (arith, zero-div (2 ^ k), linear a b 0 (x / 2 ^ k % 2) ha hb, linear-row k x (divide a 0) (divide b (x / 2 ^ k % 2)), divide-below)

pub remainder-short : (k j l x : ℕ) → l < 2 ^ j → j + k ≤ 15 → remainder l (bits k x) ≡ l * 2 ^ k + x % 2 ^ k
unfolding remainder bits
remainder-short zero j l x h s = omega arith
remainder-short (suc k) j l x h s =
    let b : ℕ = x / 2 ^ k % 2 in
    let p = pow_mono {i = j} {j = 14} (omega arith) in
    let q : l * 2 + b < 2 ^ suc j = rw pow-suc (omega arith) in
    let e : x % 2 ^ suc k ≡ b * 2 ^ k + x % 2 ^ k = ap (λ (m : ℕ). x % 2 ^ m) (omega arith) ∙ mod-pow-add x 1 k in
    rw (divide-short l b (omega arith) (omega arith), remainder, e)
    (remainder-short k (suc j) (l * 2 + b) x q (omega arith) ∙ rw (pow-suc, add-mul, mul_assoc, mul_comm 2 (2 ^ k)) (omega arith))
