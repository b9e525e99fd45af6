-- The laws of bytes loaded and stored. Assumes nothing.
--     load-all        as many bytes as are asked for, at most 8: the number of all of them
--     room            a number of up to seven bytes leaves room for one more
--     store_long      more bytes than 8: none is stored
--     store-few       bytes that have room, at most 8: they stand at the start
--     store-result    the bytes of a result's number, stored, are the result and what stood behind it
use mathlib.Core.Path.{◌≡◌}
use mathlib.Core.List.{List, ◌++◌}
use Prim.Native.Nat.{ℕ, ◌*◌, ◌^◌, ◌≤◌, ◌<◌}
use lib.Dec.{lit<}
use native.Mathlib.Nat.{pow-le-pow_right}
use native.Mathlib.Omega.{arith}
use lib.ListN.{length, drop}
use Rattle.std.proofs.lemmas.Bool.Decides.{nat_tests}
use Rattle.bits.specs.Below.{Below}
use Rattle.bits.specs.Rows.{bits, number}
use Rattle.bits.specs.Packing.{unpacked, packed}
use Rattle.bits.specs.Loading.{loaded, stored}
use Rattle.bits.proofs.Packing.{packed-number}

pub load-all : (count : ℕ) (bytes : List ℕ) → length bytes ≡ count → count ≤ 8 → loaded count bytes ≡ number 0 (unpacked 8 bytes)
unfolding loaded
load-all count bytes h g = grind (arith, nat_tests)

pub room : (i : ℕ) → i < 8 → 256 ^ i ≤ 256 ^ 7
room i h = pow-le-pow_right {n = 256} (lit< tt) {j = 7} (omega arith)

pub store_long : (v count : ℕ) (old : List ℕ) → count ≤ length old → 8 < count → stored v count old ≡ old
unfolding stored
store_long v count old h g = grind (arith, nat_tests)

pub store-few : (v count : ℕ) (old : List ℕ) → count ≤ length old → count ≤ 8
    → stored v count old ≡ packed 8 count (bits (8 * count) v) ++ drop count old
unfolding stored
store-few v count old h g = grind (arith, nat_tests)

pub store-result : (result old : List ℕ) (v n : ℕ) → Below 256 result → v ≡ number 0 (unpacked 8 result) → n ≡ length result
    → n ≤ length old → n ≤ 8 → stored v n old ≡ result ++ drop (length result) old
store-result result old v n below ev en room few = grind (arith, store-few v n old room few, packed-number 8 n v result below en ev)
