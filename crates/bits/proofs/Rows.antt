-- The laws of rows and their numbers. Assumes nothing.
--     bits-length, bits_below    k bits, each 0 or 1
--     bits-next        the next bit where a loop counts down the bits that are left
--     bits-split       the bits of a number in two parts
--     number_append    a row behind a row
--     number-bits      the number of a number's bits behind those of a
--     number-low       and of its k lowest bits alone
--     number-from      what stands before a row counts as so many times the row's power
--     number-below     a row of k bits writes a number of k bits
--     bits-number      the bits of a row's number are the row
--     bits-low         of k bits of a number only its k lowest count
--     number-only      rows of one length that write one number are one row
--     bits-join        two numbers put together: the bits of the one, and behind them those of the other
use mathlib.Core.Path.{◌≡◌, refl, ap, ap₂, ◌∙◌}
use mathlib.Core.List.{List, [], ◌∷◌, ◌++◌}
use Prim.Native.Nat.{ℕ, zero, suc, ◌+◌, ◌-◌, ◌*◌, ◌/◌, ◌%◌, ◌^◌, ◌<◌}
use native.Mathlib.Nat.{zero-add, add-zero, suc-add, add_assoc, zero-mul, mul-one, add-mul, mul_assoc, pow-zero, pow-succ', mod-lt, mod-one, mod-eq_of_lt}
use native.Mathlib.Omega.{arith}
use lib.Arith.{digits_mod, mod-mul}
use lib.Dec.{lit<}
use lib.ListN.{length}
use lib.Pow.{pow_pos, shr-shr, high}
use Rattle.bits.specs.Below.{Below}
use Rattle.bits.specs.Rows.{bits, number}

pub bits-length : (k n : ℕ) → length (bits k n) ≡ k
unfolding bits
bits-length zero n = refl
bits-length (suc k) n = ap suc (bits-length k _)

pub bits_below : (k n : ℕ) → Below 2 (bits k n)
unfolding bits
bits_below zero n = tt
bits_below (suc k) n = (mod-lt _ (lit< tt), bits_below k _)

pub bits-next : (k n : ℕ) → 0 < k → bits k n ≡ (n / 2 ^ (k - 1) % 2) ∷ bits (k - 1) n
unfolding bits
bits-next zero n h = absurd (omega arith)
bits-next (suc k) n h = grind arith

pub bits-split : (j k n : ℕ) → bits (j + k) n ≡ bits j (n / 2 ^ k) ++ bits k n
unfolding bits
bits-split zero k n = grind arith
bits-split (suc j) k n = let up = shr-shr n k j in rw suc-add (grind (arith, bits-split j k n))

pub number_append : (a : ℕ) (l m : List ℕ) → number a (l ++ m) ≡ number (number a l) m
unfolding number
number_append a [] m = refl
number_append a (b ∷ l) m = number_append (a * 2 + b) l m

pub number-bits : (a k n : ℕ) → number a (bits k n) ≡ a * 2 ^ k + n % 2 ^ k
unfolding bits number
number-bits a zero n = rw (pow-zero, mul-one, mod-one, add-zero)
number-bits a (suc k) n =
    number-bits (a * 2 + n / 2 ^ k % 2) k n ∙ rw (pow-succ', mod-mul n {m = 2} {c = 2 ^ k} (lit< tt) (pow_pos k), add-mul, mul_assoc, add_assoc)

pub number-low : (k n : ℕ) → number 0 (bits k n) ≡ n % 2 ^ k
number-low k n = grind (arith, number-bits 0 k n)

pub number-from : (a : ℕ) (l : List ℕ) → number a l ≡ a * 2 ^ length l + number 0 l
unfolding number
number-from a [] = rw (pow-zero, mul-one, add-zero)
number-from a (b ∷ l) =
    number-from (a * 2 + b) l
    ∙ rw (number-from (0 * 2 + b) l, pow-succ' 2 (length l), zero-mul, zero-add, add-mul, mul_assoc, add_assoc)

pub number-below : (l : List ℕ) → Below 2 l → number 0 l < 2 ^ length l
unfolding number
number-below [] h = lit< tt
number-below (b ∷ l) h = grind (arith, number-from b l, number-below l h.1, pow-succ')

pub bits-number : (a : ℕ) (l : List ℕ) → Below 2 l → bits (length l) (number a l) ≡ l
unfolding bits number
bits-number a [] h = refl
bits-number a (b ∷ l) h =
    ap₂ ◌∷◌
    (rw (number-from (a * 2 + b) l, high (a * 2 + b) (length l) (number-below l h.1)) (digits_mod a h.0))
    (bits-number (a * 2 + b) l h.1)

pub bits-low : (k n : ℕ) → bits k (n % 2 ^ k) ≡ bits k n
bits-low k n = grind (arith, bits-number 0 (bits k n), number-low, bits-length, bits_below)

pub number-only : (l m : List ℕ) → Below 2 l → Below 2 m → length l ≡ length m → number 0 l ≡ number 0 m → l ≡ m
number-only l m h g e n = grind (arith, bits-number 0 l h, bits-number 0 m g)

pub bits-join : (j k a b : ℕ) → b < 2 ^ k → bits (j + k) (a * 2 ^ k + b) ≡ bits j a ++ bits k b
bits-join j k a b h =
    let low = bits-number a (bits k b) (bits_below k b) in
    grind (arith, bits-split j k (a * 2 ^ k + b), high a k h, mod-eq_of_lt h, number-bits a k b, bits-length k b)
