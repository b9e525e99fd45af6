-- The laws of the long division. Assumes nothing.
--     xor_is              the machine's exclusive or is the bit by bit one
--     xor_four            that of two numbers of four bits has four bits
--     xor_below, divide-below    a result has k bits, or the 15 of the register
--     divide-short        while the register's top bit is 0 nothing is taken off
--     divide-top          where it is 1 the divisor is taken off, once
--     remainder-append    a row behind a row
--     remainder-below     the register has 15 bits
--     crc-below           and so has the CRC
use mathlib.Core.Path.{◌≡◌, refl}
use mathlib.Core.List.{List, [], ◌∷◌, ◌++◌}
use Prim.Native.Nat.{ℕ, zero, suc, ◌+◌, ◌*◌, ◌/◌, ◌%◌, ◌^◌, ◌≤◌, ◌<◌}
use native.Mathlib.Nat.{pow-suc}
use native.Mathlib.Omega.{arith}
use lib.Bits.{bit_xor, xor_lt, differ, xor_step, xor_zero_r}
use lib.Dec.{lit<}
use lib.ListN.{replicate}
use Rattle.crc.specs.Crc.{xor, divide, remainder, crc}

differ-is : (x y : ℕ) → x < 2 → y < 2 → differ x y ≡ (x + y) % 2
differ-is zero zero h g = refl
differ-is zero (suc y) h g = let y_is : y ≡ 0 = omega arith in rw y_is
differ-is (suc x) zero h g = let x_is : x ≡ 0 = omega arith in rw x_is
differ-is (suc x) (suc y) h g =
    let x_is : x ≡ 0 = omega arith in
    let y_is : y ≡ 0 = omega arith in
    rw (x_is, y_is)

pub xor_is : (k a b : ℕ) → a < 2 ^ k → b < 2 ^ k → bit_xor a b ≡ xor k a b
unfolding xor
xor_is zero a b h g =
    let x : a ≡ 0 = omega arith in
    let y : b ≡ 0 = omega arith in
    rw (x, y)
xor_is (suc k) a b h g = grind (arith, pow-suc, xor_step a b, differ-is (a % 2) (b % 2), xor_is k (a / 2) (b / 2))

pub xor_four : (a b : ℕ) → a < 16 → b < 16 → bit_xor a b < 16
xor_four = xor_lt 4

pub xor_below : (k a b : ℕ) → xor k a b < 2 ^ k
unfolding xor
xor_below zero a b = lit< tt
xor_below (suc k) a b = grind (arith, pow-suc, xor_below k (a / 2) (b / 2))

pub divide-below : (register bit : ℕ) → divide register bit < 2 ^ 15
unfolding divide
divide-below register bit = xor_below 15 _ _

pub divide-short : (register bit : ℕ) → register < 2 ^ 14 → bit < 2 → divide register bit ≡ register * 2 + bit
unfolding divide
divide-short register bit h g = grind (arith, xor_is 15 (register * 2 + bit) 0, xor_zero_r)

pub divide-top : (register bit : ℕ) → 2 ^ 14 ≤ register → register < 2 ^ 15 → bit < 2
    → divide register bit ≡ xor 15 ((register * 2 + bit) % 2 ^ 15) 0x4599
unfolding divide
divide-top register bit t h g = grind arith

pub remainder-append : (register : ℕ) (l m : List ℕ) → remainder register (l ++ m) ≡ remainder (remainder register l) m
unfolding remainder
remainder-append register [] m = refl
remainder-append register (b ∷ l) m = remainder-append (divide register b) l m

pub remainder-below : (register : ℕ) (l : List ℕ) → register < 2 ^ 15 → remainder register l < 2 ^ 15
unfolding remainder
remainder-below register [] h = h
remainder-below register (b ∷ l) h = remainder-below (divide register b) l (divide-below register b)

pub crc-below : (l : List ℕ) → crc l < 2 ^ 15
unfolding crc
crc-below l = remainder-below 0 (l ++ replicate 15 0) (lit< tt)
