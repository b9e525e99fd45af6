-- How many stuff bits follow header, data and CRC bits. Assumes nothing.
use Rattle.std.specs.Prelude.{ℕ, ◌+◌, List, length, take, drop}
use Rattle.bits.specs.Stuffing.{nothing_sent, stuff_count, run_after_row}
use Rattle.wire.specs.declared.Identifier.{Identifier}
use Rattle.wire.specs.Header.{header}
use Rattle.wire.specs.Line.{stuffed_row}

-- the stuff bits that follow the `count` bits from bit `first` on, of a row that is sent from its first bit on [5.7]
unfoldable pub stuff_bits_in : ℕ → ℕ → List ℕ → ℕ
stuff_bits_in first count row = stuff_count (run_after_row nothing_sent (take first row)) (take count (drop first row))

-- on the line of a header and a data field: those that follow header bits, data bits and the 15 CRC bits [5.7]
abbrev pub after_header : List ℕ → List ℕ → ℕ
after_header header_bits data_bits = stuff_bits_in 0 (length header_bits) (stuffed_row header_bits data_bits)

abbrev pub after_data : List ℕ → List ℕ → ℕ
after_data header_bits data_bits = stuff_bits_in (length header_bits) (length data_bits) (stuffed_row header_bits data_bits)

abbrev pub after_crc : List ℕ → List ℕ → ℕ
after_crc header_bits data_bits = stuff_bits_in (length header_bits + length data_bits) 15 (stuffed_row header_bits data_bits)

-- h of demand 3: it hangs on identifier and DLC alone [6.3]
unfoldable pub header_stuff_bits : Identifier → ℕ → ℕ
header_stuff_bits identifier n = stuff_count nothing_sent (header identifier n)
