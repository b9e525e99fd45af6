-- A frame in its parts, as the code has them; no public contract cites it. Assumes nothing.
use Rattle.std.specs.Prelude.{ℕ, ◌*◌, List}
use Rattle.bits.specs.Rows.{bits}
use Rattle.wire.specs.Line.{line_of}
use Rattle.frame.specs.Header.{bits_of}
use Rattle.frame.specs.declared.parts.Parts.{Parts}

-- the bits of the header and of the data field
abbrev pub header_bits : Parts → List ℕ
header_bits p = bits_of p.header

abbrev pub data_bits : Parts → List ℕ
data_bits p = bits (8 * p.field.n) p.field.number

-- the line that the parts make
abbrev pub line_in : Parts → List ℕ
line_in p = line_of (header_bits p) (data_bits p)
