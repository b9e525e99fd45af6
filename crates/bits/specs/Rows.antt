-- Rows of bits, and the numbers that they write. A bit is the number 0 or 1, as in a line; a row is written in the order it is
-- sent. Assumes nothing.
use Rattle.std.specs.Prelude.{ℕ, zero, suc, ◌+◌, ◌*◌, ◌/◌, ◌%◌, ◌^◌, List, [], ◌∷◌}

-- the k lowest bits of n, highest first [1.2]
unfoldable pub bits : ℕ → ℕ → List ℕ
bits zero n = []
bits (suc k) n = (n / 2 ^ k % 2) ∷ bits k n

-- the number whose bits are those of a and then those of the row [1.2]
unfoldable pub number : ℕ → List ℕ → ℕ
number a [] = a
number a (b ∷ l) = number (a * 2 + b) l
