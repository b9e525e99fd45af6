-- Bytes loaded into one number, the first of them highest, and stored from one. A number has 64 bits: at most 8 bytes. Assumes nothing.
use Rattle.std.specs.Prelude.{ℕ, ◌*◌, cond, not, ◌||◌, List, ◌++◌, eqb, ltb, length, drop}
use Rattle.bits.specs.Rows.{bits, number}
use Rattle.bits.specs.Packing.{unpacked, packed}

-- the number of all bytes; 0 where they are not `count`, or more than 8 [1.3]
unfoldable pub loaded : ℕ → List ℕ → ℕ
loaded count bytes = cond (not (eqb (length bytes) count) || ltb 8 count) 0 (number 0 (unpacked 8 bytes))

-- the `count` lowest bytes of a number over the start of a list; the list itself where it is shorter, or they are more than 8 [1.3]
unfoldable pub stored : ℕ → ℕ → List ℕ → List ℕ
stored v count old = cond (ltb (length old) count || ltb 8 count) old (packed 8 count (bits (8 * count) v) ++ drop count old)
