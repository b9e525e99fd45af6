-- The laws of packing. Assumes nothing.
--     unpacked-length, unpacked-below    k bits for each number
--     packed-length       as many numbers as are asked for
--     packed-below        each of k bits
--     unpacked-at         number i of an unpacked list stands in the k bits from k * i on
--     packed-unpacked     what was unpacked is packed again, whatever stands behind it
--     unpacked-packed     what was packed is unpacked again
--     bits-unpacked       the bits of a list's own number are those of the list
--     packed-number       and the numbers in them are the list
--     number-unpacked     the number of an unpacked list, one more of its numbers taken in
--     packed-bits         the first of the numbers in the bits of a number, and those behind it
--     packed-next         the same where a loop counts up to n and down the bits: the numbers that are left, and the next of them
use mathlib.Core.Path.{◌≡◌, refl, sym, ap, ap₂, ◌∙◌}
use mathlib.Core.List.{List, [], ◌∷◌, ◌++◌, append_assoc, append-nil}
use Prim.Native.Nat.{ℕ, zero, suc, ◌+◌, ◌-◌, ◌*◌, ◌/◌, ◌%◌, ◌^◌, ◌≤◌, ◌<◌}
use native.Mathlib.Nat.{lt_of_lt_of_le, not-suc-le-zero, le_of_suc-le-suc, mul-zero, mul-suc, mod-eq_of_lt, add_comm}
use native.Mathlib.Omega.{arith}
use lib.ListN.{length, get_or, take, drop, length-append, length-take, length-drop}
use lib.Pow.{pow_mono}
use lib.Seq.{take_at, drop_at, drop-drop, take-add, length-take-le}
use Rattle.bits.specs.Below.{Below}
use Rattle.bits.specs.Rows.{bits, number}
use Rattle.bits.specs.Packing.{unpacked, packed}
use Rattle.bits.proofs.Below.{below-append, below-take, below-drop}
use Rattle.bits.proofs.Rows.{bits-length, bits_below, bits-split, number_append, number-bits, number-low, number-below, bits-number}

pub unpacked-length : (k : ℕ) (l : List ℕ) → length (unpacked k l) ≡ k * length l
unfolding unpacked
unpacked-length k [] = grind arith
unpacked-length k (x ∷ l) = simp (length-append, bits-length, unpacked-length k l) (grind arith)

pub unpacked-below : (k : ℕ) (l : List ℕ) → Below 2 (unpacked k l)
unfolding unpacked
unpacked-below k [] = tt
unpacked-below k (x ∷ l) = below-append 2 (bits k x) (unpacked k l) (bits_below k x) (unpacked-below k l)

pub packed-length : (k n : ℕ) (l : List ℕ) → length (packed k n l) ≡ n
unfolding packed
packed-length k zero l = refl
packed-length k (suc n) l = ap suc (packed-length k n _)

pub packed-unpacked : (k : ℕ) (l m : List ℕ) → Below (2 ^ k) l → packed k (length l) (unpacked k l ++ m) ≡ l
unfolding unpacked packed
packed-unpacked k [] m h = refl
packed-unpacked k (x ∷ l) m h =
    let rest = unpacked k l ++ m in
    let long = bits-length k x in
    grind (
      arith,
      append_assoc,
      take_at (bits k x) rest k long,
      drop_at (bits k x) rest k long,
      number-low k x,
      mod-eq_of_lt h.0,
      packed-unpacked k l m h.1,
    )

pub unpacked-packed : (k n : ℕ) (l : List ℕ) → Below 2 l → k * n ≤ length l → unpacked k (packed k n l) ≡ take (k * n) l
unfolding unpacked packed
unpacked-packed k zero l h g = grind arith
unpacked-packed k (suc n) l h g =
    let first : length (take k l) ≡ k = length-take-le k l (grind arith) in
    let front = bits-number 0 (take k l) (below-take 2 k l h) in
    let rest = unpacked-packed k n (drop k l) (below-drop 2 k l h) in
    grind (arith, length-drop, take-add k (k * n) l)

pub number-unpacked : (k a x : ℕ) (l : List ℕ) → x < 2 ^ k → number a (unpacked k (x ∷ l)) ≡ number (a * 2 ^ k + x) (unpacked k l)
unfolding unpacked
number-unpacked k a x l h = grind (arith, number_append a (bits k x) (unpacked k l), number-bits a k x, mod-eq_of_lt h)

pub packed-bits : (k n j v : ℕ) → packed k (suc n) (bits (k + j) v) ≡ (v / 2 ^ j % 2 ^ k) ∷ packed k n (bits j v)
unfolding packed
packed-bits k n j v =
    let first = bits k (v / 2 ^ j) in
    let long = bits-length k (v / 2 ^ j) in
    grind (arith, bits-split k j v, take_at first (bits j v) k long, drop_at first (bits j v) k long, number-low k (v / 2 ^ j))

pub packed-next : (k n i at v : ℕ) → i < n → k ≤ at
    → packed k (n - i) (bits at v) ≡ (v / 2 ^ (at - k) % 2 ^ k) ∷ packed k (n - (i + 1)) (bits (at - k) v)
packed-next k n i at v h g = grind (arith, packed-bits k (n - (i + 1)) (at - k) v)

pub bits-unpacked : (k n v : ℕ) (l : List ℕ) → n ≡ length l → v ≡ number 0 (unpacked k l) → bits (k * n) v ≡ unpacked k l
bits-unpacked k n v l en ev =
    ap₂ bits (ap (k *◌) en ∙ sym (unpacked-length k l)) ev ∙ bits-number 0 (unpacked k l) (unpacked-below k l)

pub packed-number : (k n v : ℕ) (l : List ℕ) → Below (2 ^ k) l → n ≡ length l → v ≡ number 0 (unpacked k l) → packed k n (bits (k * n) v) ≡ l
packed-number k n v l h en ev =
    ap₂ (packed k) en (bits-unpacked k n v l en ev ∙ sym (append-nil (unpacked k l))) ∙ packed-unpacked k l [] h

pub packed-below : (k n : ℕ) (l : List ℕ) → Below 2 l → Below (2 ^ k) (packed k n l)
unfolding packed
packed-below k zero l h = tt
packed-below k (suc n) l h =
    let short : length (take k l) ≤ k = omega (arith, length-take k l) in
    (lt_of_lt_of_le (number-below (take k l) (below-take 2 k l h)) (pow_mono short), packed-below k n (drop k l) (below-drop 2 k l h))

pub unpacked-at : (k d : ℕ) (l m : List ℕ) (i : ℕ) → i < length l → take k (drop (k * i) (unpacked k l ++ m)) ≡ bits k (get_or l i d)
unfolding unpacked
unpacked-at k d [] m i h = absurd (not-suc-le-zero h)
unpacked-at k d (x ∷ l) m zero h =
    ap (λ (n : ℕ). take k (drop n (unpacked k (x ∷ l) ++ m))) (mul-zero k)
    ∙ rw append_assoc (take_at (bits k x) (unpacked k l ++ m) k (bits-length k x))
unpacked-at k d (x ∷ l) m (suc i) h =
    let more : k * suc i ≡ k + k * i = mul-suc k i ∙ add_comm (k * i) k in
    ap (λ (n : ℕ). take k (drop n (unpacked k (x ∷ l) ++ m))) more
    ∙ ap (take k) (sym (drop-drop (k * i) k (unpacked k (x ∷ l) ++ m)))
    ∙ ap (λ (r : List ℕ). take k (drop (k * i) r)) (rw append_assoc (drop_at (bits k x) (unpacked k l ++ m) k (bits-length k x)))
    ∙ unpacked-at k d l m i (le_of_suc-le-suc h)
