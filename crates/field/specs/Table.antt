-- The table of eight rows by payload size, as the code has it; cited between the crates alone. Assumes nothing.
use Rattle.std.specs.Prelude.{ℕ, List, map}
use Rattle.bits.specs.Numbers.{numbers_from}
use Rattle.bits.specs.Rows.{number}
use Rattle.field.specs.Sizes.{field_bytes, break_bit, padding_bits}
use Rattle.field.specs.declared.table.Row.{Row}

-- the row of a size; a break bit that is not there is a 0 [3.7]
abbrev pub row_of : ℕ → Row
row_of size =
    record {
      bytes = field_bytes size;
      break_bit = number 0 (break_bit (field_bytes size));
      padding = padding_bits size;
    }

-- the rows of the sizes 0 to 7 [3.7]
unfoldable pub rows : List Row
rows = map row_of (numbers_from 0 8)
