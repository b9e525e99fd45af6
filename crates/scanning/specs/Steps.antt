-- Reading as the code does it, by registers and row by row; no public contract cites it. Assumes nothing.
use Rattle.std.specs.Prelude.{ℕ, ◌+◌, ◌-◌, ◌*◌, ◌/◌, ◌%◌, ◌^◌, ◌≡◌, min, Bool, cond, ◌||◌, List, ◌++◌, eqb, leb, ltb, length, get_or, Result, Ok, Err}
use Rattle.bits.specs.Rows.{bits}
use Rattle.refusals.specs.declared.Refusal.{Refusal}
use Rattle.refusals.specs.declared.Refusal.TheVariants.{FieldLength, LineByte, StuffBit, LineLength, Crc, FixedBit, NotAcknowledged}
use Rattle.crc.specs.Crc.{crc}
use Rattle.wire.specs.declared.Identifier.{Identifier}
use Rattle.wire.specs.declared.Identifier.TheVariants.{Base, Long}
use Rattle.crc.specs.Dlc.{data_bytes}
use Rattle.reading.specs.Scan.{identifier_in, dlc_in, Scanned, whole, stopped}
use Rattle.scanning.specs.Held.{data_in}
use Rattle.scanning.specs.Rows.{with_width}
use Rattle.scanning.specs.declared.fields.Field.{Field}
use Rattle.scanning.specs.declared.fields.Rule.{Rule}
use Rattle.scanning.specs.declared.fields.Rule.TheVariants.{Stuffed, Delimiter, Slot, One}
use Rattle.scanning.specs.declared.fields.Last.{Last}
use Rattle.scanning.specs.declared.fields.Last.TheVariants.{Nothing, Form, Header, Data, Check}
use Rattle.scanning.specs.declared.reader.Reader.{Reader}
use Rattle.scanning.specs.declared.seen.Seen.{Seen}

-- the bit at the next place
abbrev pub bit_at : List ℕ → Seen → ℕ
bit_at line seen = get_or line seen.place 0

-- five equal bits end the raw bits: to the last CRC bit a stuff bit is due
unfoldable pub due_in : ℕ → Bool
due_in raw = ltb ((raw % 32 + 1) % 32) 2

-- what is seen behind a stuff bit, with these raw bits
abbrev pub behind_stuff_bit : ℕ → List ℕ → Seen → Seen
behind_stuff_bit raw line seen =
    record {
      stop = min (seen.end + 1) (length line);
      end = seen.end + 1;
      place = seen.place + 1;
      raw = raw;
      number = seen.number;
      header = seen.header;
      field = seen.field;
    }

-- one place on, with these raw bits and this number
abbrev pub one_on : ℕ → ℕ → Seen → Seen
one_on raw number seen =
    record {
      stop = seen.stop;
      end = seen.end;
      place = seen.place + 1;
      raw = raw;
      number = number;
      header = seen.header;
      field = seen.field;
    }

-- no place on, with these in `number`, `header` and `field`
abbrev pub holding : ℕ → ℕ → ℕ → Seen → Seen
holding number header field seen =
    record {
      stop = seen.stop;
      end = seen.end;
      place = seen.place;
      raw = seen.raw;
      number = number;
      header = header;
      field = field;
    }

-- what is seen behind a bit; it is kept up to the CRC
abbrev pub behind_bit : ℕ → Seen → Seen
behind_bit bit seen = one_on (seen.raw * 2 % 2 ^ 64 + bit) (seen.number * 2 + bit) seen

abbrev pub behind_ending : Seen → Seen
behind_ending seen = one_on seen.raw seen.number seen

-- a bit where a stuff bit is due
unfoldable pub stuff_bit : ℕ → List ℕ → Seen → Result Seen Refusal
stuff_bit raw line seen =
    cond (ltb 1 (bit_at line seen)) (Err (LineByte seen.place))
    (cond (eqb (bit_at line seen) (seen.raw % 2)) (Err (StuffBit seen.place))
    (cond (leb (length line) (seen.place + 1)) (Err (LineLength (seen.place + 1)))
    (Ok (behind_stuff_bit raw line seen))))

-- what is seen before the next bit: behind the stuff bit, where one is due
unfoldable pub passed : ℕ → List ℕ → Seen → Result Seen Refusal
passed raw line seen = cond (due_in seen.raw) (stuff_bit raw line seen) (Ok seen)

-- a reader of this line, of which that is seen; or a refusal
abbrev pub Gives : Result Reader Refusal → List ℕ → Result Seen Refusal → Type 0
Gives (Ok reader) line step = (reader.line.now ≡ line) × (Ok reader.seen ≡ step)
Gives (Err refusal) line step = Err refusal ≡ step

-- a byte that is more than may stand at its place: a 1 is refused so, a greater one is no bit
unfoldable pub above : ℕ → Refusal → ℕ → Result Seen Refusal
above byte refusal place = cond (eqb byte 1) (Err refusal) (Err (LineByte place))

-- a bit where `most` is the greatest that may stand, and what is seen behind it if it is right
unfoldable pub bit_at_most : ℕ → Refusal → List ℕ → Seen → Seen → Result Seen Refusal
bit_at_most most refusal line seen next =
    cond (ltb most (bit_at line seen)) (above (bit_at line seen) refusal seen.place) (Ok next)

-- a bit up to the CRC, and the ACK slot
abbrev pub field_bit : ℕ → List ℕ → Seen → Result Seen Refusal
field_bit most line seen = bit_at_most most (FixedBit seen.place) line seen (behind_bit (bit_at line seen) seen)

abbrev pub slot_bit : ℕ → List ℕ → Seen → Result Seen Refusal
slot_bit most line seen = bit_at_most most (NotAcknowledged seen.place) line seen (behind_ending seen)

-- a delimiter or an end bit
unfoldable pub one_bit : List ℕ → Seen → Result Seen Refusal
one_bit line seen =
    cond (eqb (bit_at line seen) 1) (Ok (behind_ending seen))
    (cond (eqb (bit_at line seen) 0) (Err (FixedBit seen.place)) (Err (LineByte seen.place)))

abbrev pub and_then : Result Seen Refusal → (Seen → Result Seen Refusal) → Result Seen Refusal
and_then (Ok seen) next = next seen
and_then (Err refusal) next = Err refusal

-- the CRC delimiter, and the stuff bit before it
abbrev pub delimiter_bit : List ℕ → Seen → Result Seen Refusal
delimiter_bit line seen = and_then (passed seen.raw line seen) (one_bit line)

-- a bit up to the CRC, and the stuff bit before it
abbrev pub stuffed_bit : ℕ → List ℕ → Seen → Result Seen Refusal
stuffed_bit most line seen = and_then (passed (1 + seen.raw % 2) line seen) (field_bit most line)

-- the next bit of a field with this rule, and the stuff bit before it
abbrev pub line_bit : Rule → ℕ → List ℕ → Seen → Result Seen Refusal
line_bit Stuffed most line seen = stuffed_bit most line seen
line_bit Delimiter most line seen = delimiter_bit line seen
line_bit Slot most line seen = slot_bit most line seen
line_bit One most line seen = one_bit line seen

-- the last two bits of a number are the same
unfoldable pub twice : ℕ → Bool
twice number = eqb (number / 2 % 2) (number % 2)

-- behind IDE: 13, or it is right
unfoldable pub form_read : Seen → Result Seen Refusal
form_read seen =
    cond (twice seen.number) (Ok seen)
    (cond (twice seen.raw) (Err (FixedBit (seen.place - 3))) (Err (FixedBit (seen.place - 2))))

-- and how many bits the fields of the header then have
abbrev pub form_fields : Seen → List Field → List Field
form_fields seen fields = with_width 3 (1 + 2 * (seen.number % 2)) (with_width 2 (18 * (seen.number % 2)) fields)

-- behind the last bit of the DLC: 3, or the header is whole
unfoldable pub header_read : Seen → Result Seen Refusal
header_read seen =
    cond (eqb (seen.number % 16) 1 || ltb 8 (seen.number % 16)) (Err (FieldLength (seen.place - 1)))
    (Ok (holding 0 seen.number seen.field seen))

-- behind the last data bit the data field is whole
unfoldable pub field_read : Seen → Result Seen Refusal
field_read seen = Ok (holding 0 seen.header seen.number seen)

-- behind the last bit of the CRC: 12, or it is right
unfoldable pub crc_read : Seen → Result Seen Refusal
crc_read seen =
    cond (eqb seen.number (crc (bits 39 seen.header ++ bits (8 * data_bytes (seen.header % 16)) seen.field))) (Ok seen)
    (Err (Crc (seen.place - 1)))

-- behind the last bit of a field that tells this
abbrev pub last_told : Last → Seen → Result Seen Refusal
last_told Nothing seen = Ok seen
last_told Form seen = form_read seen
last_told Header seen = header_read seen
last_told Data seen = field_read seen
last_told Check seen = crc_read seen

-- and how many bits the fields then have: IDE tells those of the header, the DLC those of the data
abbrev pub fields_told : Last → Seen → List Field → List Field
fields_told Nothing seen fields = fields
fields_told Form seen fields = form_fields seen fields
fields_told Header seen fields = with_width 5 (8 * (seen.number % 16)) fields
fields_told Data seen fields = fields
fields_told Check seen fields = fields

-- where reading stops in a field: 11 where the line ends before it does
unfoldable pub field_end : Last → Seen → Result Seen Refusal
field_end last seen = cond (ltb seen.place seen.end) (Err (LineLength seen.place)) (last_told last seen)

unfoldable pub fields_end : Last → Seen → List Field → List Field
fields_end last seen fields = cond (ltb seen.place seen.end) fields (fields_told last seen fields)

-- the form and the identifier that a header's number tells
unfoldable pub long_told : ℕ → Bool
long_told header = leb (2 ^ 19) header

unfoldable pub identifier_told : ℕ → Identifier
identifier_told header =
    cond (long_told header) (Long (header / 2 ^ 27 % 2 ^ 11 * 2 ^ 18 + header / 2 ^ 7 % 2 ^ 18)) (Base (header / 2 ^ 7 % 2 ^ 11))

-- the registers hold identifier, DLC and data bits of the frame
pub record Holds (seen : Seen) (frame : List ℕ) : Type 0 where
  pub identifier-is : identifier_told seen.header ≡ identifier_in frame
  pub dlc-is : seen.header % 16 ≡ dlc_in frame
  pub data_is : seen.field ≡ data_in frame

-- a scan stopped with this refusal, wherever it was met
abbrev pub Stopped : Scanned → Refusal → Type 0
Stopped scan refusal = (met : ℕ) × (scan ≡ stopped met refusal)

-- what scanning a line answers
abbrev pub Reads : Result Seen Refusal → Scanned → Type 0
Reads (Ok seen) scan = (frame : List ℕ) × (scan ≡ whole frame) × Holds seen frame
Reads (Err refusal) scan = Stopped scan refusal
