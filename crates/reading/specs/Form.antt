-- What must stand at each position of a frame, of either form, from the texts that say its line. Assumes nothing.
use Rattle.std.specs.Prelude.{ℕ, ◌*◌, Bool, cond, ◌||◌, List, [], ◌++◌, eqb, replicate}
use Rattle.wire.specs.Header.{header_of, long_part}
use Rattle.wire.specs.Line.{ending}

-- in the place of a bit: it may be 0 or 1 [12.6]
abbrev pub either : ℕ
either = 2

-- so many such bits [12.6]
abbrev pub free : ℕ → List ℕ
free count = replicate count either

-- the header of the base form or of the long one: identifier, the two bits that tell the form, and DLC are free [12.5, 12.6]
unfoldable pub header_form : Bool → List ℕ
header_form long = header_of (free 11) either (cond long (long_part (free 18)) []) (free 4)

-- header, data, CRC, and the ten bits behind it: data, CRC and ACK slot are free [12.6]
unfoldable pub form : Bool → ℕ → List ℕ
form long n = header_form long ++ (free (8 * n) ++ (free 15 ++ ending either))

-- the bit may stand where this one must [12.12]
abbrev pub fits : ℕ → ℕ → Bool
fits must bit = eqb must either || eqb must bit
