-- The catalogue's check value of CRC-15/CAN, over the ASCII bytes 123456789. Assumes nothing.
use mathlib.Core.Path.{◌≡◌, refl}
use mathlib.Core.List.{[], ◌∷◌}
use Rattle.bits.specs.Rows.{bits}
use Rattle.bits.specs.Packing.{unpacked}
use Rattle.crc.specs.Crc.{xor, divide, remainder, crc}

pub crc-check : crc (unpacked 8 (0x31 ∷ 0x32 ∷ 0x33 ∷ 0x34 ∷ 0x35 ∷ 0x36 ∷ 0x37 ∷ 0x38 ∷ 0x39 ∷ [])) ≡ 0x059E
unfolding bits unpacked xor divide remainder crc
crc-check = refl
