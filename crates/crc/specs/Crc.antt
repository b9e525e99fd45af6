-- The CRC: the remainder of a row of bits, followed by 15 bits 0, by x^15 + x^14 + x^10 + x^8 + x^7 + x^4 + x^3 + 1.
-- Assumes nothing.
use Rattle.std.specs.Prelude.{ℕ, zero, suc, ◌+◌, ◌*◌, ◌/◌, ◌%◌, ◌^◌, List, [], ◌∷◌, ◌++◌, replicate}

-- the exclusive or of the k lowest bits [4.5]
unfoldable pub xor : ℕ → ℕ → ℕ → ℕ
xor zero a b = 0
xor (suc k) a b = xor k (a / 2) (b / 2) * 2 + (a % 2 + b % 2) % 2

-- a step of the long division: a bit is brought down into the register; where that gives an x^15, the divisor is taken off [4.5]
unfoldable pub divide : ℕ → ℕ → ℕ
divide register bit =
    let next = register * 2 + bit in
    xor 15 (next % 2 ^ 15) (0x4599 * (next / 2 ^ 15))

-- the register once a row is brought down, highest bit first [4.4]
unfoldable pub remainder : ℕ → List ℕ → ℕ
remainder register [] = register
remainder register (b ∷ l) = remainder (divide register b) l

-- from a register of 0 [4.4]
unfoldable pub crc : List ℕ → ℕ
crc l = remainder 0 (l ++ replicate 15 0)
