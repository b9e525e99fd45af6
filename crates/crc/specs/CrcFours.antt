-- The CRC four bits at a time, as the code takes it; no public contract cites it. Assumes nothing.
use Rattle.std.specs.Prelude.{ℕ, ◌*◌, ◌/◌, ◌%◌, List, map}
use Rattle.bits.specs.Numbers.{numbers_from}
use Rattle.bits.specs.Rows.{bits}
use Rattle.crc.specs.Crc.{xor, crc}

-- the CRC of each four bits, moved up by one bit
unfoldable pub crc_list : List ℕ
crc_list = map (λ (four : ℕ). crc (bits 4 four) * 2) (numbers_from 0 16)

-- the CRC of a row, and of four bits behind it: what these and its own highest four leave, and its others moved up
unfoldable pub crc_behind : ℕ → ℕ → ℕ
crc_behind register four = xor 15 (crc (bits 4 (xor 4 (register / 2048) four))) (register % 2048 * 16)
