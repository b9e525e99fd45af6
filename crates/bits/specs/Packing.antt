-- Numbers of k bits each, one behind the other in a row, the highest bit of each first: bytes, and words. Assumes nothing.
use Rattle.std.specs.Prelude.{ℕ, zero, suc, List, [], ◌∷◌, ◌++◌, take, drop}
use Rattle.bits.specs.Rows.{bits, number}

-- the bits of each number in turn [1.3]
unfoldable pub unpacked : ℕ → List ℕ → List ℕ
unpacked k [] = []
unpacked k (x ∷ l) = bits k x ++ unpacked k l

-- the first n numbers of a row [1.3]
unfoldable pub packed : ℕ → ℕ → List ℕ → List ℕ
packed k zero l = []
packed k (suc n) l = number 0 (take k l) ∷ packed k n (drop k l)
