-- The line of a frame, over any header and any data field. Assumes nothing.
use Rattle.std.specs.Prelude.{ℕ, List, ◌∷◌, ◌++◌, length, replicate}
use Rattle.bits.specs.Rows.{bits}
use Rattle.bits.specs.Packing.{unpacked}
use Rattle.bits.specs.Stuffing.{nothing_sent, stuffed}
use Rattle.crc.specs.Crc.{crc}
use Rattle.wire.specs.declared.Identifier.{Identifier}
use Rattle.wire.specs.Header.{header}

-- the CRC bits, of header and data bits [4.3]
unfoldable pub crc_bits : List ℕ → List ℕ → List ℕ
crc_bits header_bits data_bits = bits 15 (crc (header_bits ++ data_bits))

-- the bits that a stuff bit may follow, from the start of frame to the last CRC bit [5.1, 5.5]
unfoldable pub stuffed_row : List ℕ → List ℕ → List ℕ
stuffed_row header_bits data_bits = header_bits ++ (data_bits ++ crc_bits header_bits data_bits)

-- CRC delimiter 1, ACK slot, ACK delimiter 1, seven end bits 1 [4.6]
abbrev pub ending : ℕ → List ℕ
ending ack = 1 ∷ ack ∷ 1 ∷ replicate 7 1

-- the stuffed bits, then those that are never stuffed; the maker writes 1 in the ACK slot [4.7, 5.6, 6.1]
unfoldable pub line_of : List ℕ → List ℕ → List ℕ
line_of header_bits data_bits = stuffed nothing_sent (stuffed_row header_bits data_bits) ++ ending 1

-- the line of the frame of an identifier and the bytes of a data field; the DLC is how many these are [4.2, 6.1]
unfoldable pub frame_line : Identifier → List ℕ → List ℕ
frame_line identifier field = line_of (header identifier (length field)) (unpacked 8 field)
