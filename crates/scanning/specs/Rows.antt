-- The fields of a frame as the code has them; no public contract cites it. Assumes nothing.
use Rattle.std.specs.Prelude.{ℕ, ◌*◌, Bool, cond, List, [], ◌∷◌, get_or, set}
use Rattle.reading.specs.Scan.{slot_most}
use Rattle.reading.specs.declared.Reading.{Reading}
use Rattle.scanning.specs.declared.fields.Field.{Field}
use Rattle.scanning.specs.declared.fields.Rule.{Rule}
use Rattle.scanning.specs.declared.fields.Rule.TheVariants.{Stuffed, Delimiter, Slot, One}
use Rattle.scanning.specs.declared.fields.Last.{Last}
use Rattle.scanning.specs.declared.fields.Last.TheVariants.{Nothing, Form, Header, Data, Check}

-- how many bits it has, the greatest that may stand in it, how they are read, and what it tells
abbrev pub row : ℕ → ℕ → Rule → Last → Field
row width most rule last = record { width = width; most = most; rule = rule; last = last }

-- those of a frame of a form with n data bytes, in the order they are sent, neighbours that are judged alike, with nothing told between
-- them, in one row; the reading says what may stand in the ACK slot
unfoldable pub fields_of : Reading → Bool → ℕ → List Field
fields_of reading long n =
    row 1 0 Stuffed Nothing  -- start of frame
    ∷ row 13 1 Stuffed Form  -- eleven bits of the identifier, RTR or SRR, IDE
    ∷ row (cond long 18 0) 1 Stuffed Nothing  -- the low bits of a long identifier
    ∷ row (cond long 3 1) 0 Stuffed Nothing  -- reserved bit; in the long form RTR and two reserved bits
    ∷ row 4 1 Stuffed Header  -- DLC
    ∷ row (8 * n) 1 Stuffed Data  -- data
    ∷ row 15 1 Stuffed Check  -- CRC
    ∷ row 1 1 Delimiter Nothing  -- CRC delimiter
    ∷ row 1 (slot_most reading.slot) Slot Nothing  -- ACK slot
    ∷ row 8 1 One Nothing  -- ACK delimiter, end bits
    ∷ []

-- the field at i, which has no bits if there is none
abbrev pub field_at : List Field → ℕ → Field
field_at fields i = get_or fields i (row 0 0 Stuffed Nothing)

-- this many bits in the field at i
abbrev pub with_width : ℕ → ℕ → List Field → List Field
with_width i width fields = let field = field_at fields i in set fields i (row width field.most field.rule field.last)
