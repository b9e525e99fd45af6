-- The answer of reading a line, and the payload that it gives. Assumes nothing.
use Rattle.std.specs.Prelude.{ℕ, List, [], drop, Result, Ok, Err}
use Rattle.bits.specs.Packing.{packed}
use Rattle.refusals.specs.declared.Refusal.{Refusal}
use Rattle.refusals.specs.Table.{Numbers, given, numbers}
use Rattle.decoding.specs.Decode.{decode_answer, payload_of}
use Rattle.wire.specs.declared.Identifier.{Identifier}
use Rattle.wire.specs.Identifier.{number_for_c}
use Rattle.reading.specs.Scan.{data_start, identifier_in, dlc_in, Scanned, whole, stopped, scanned}
use Rattle.reading.specs.declared.AckSlot.TheVariants.{Acknowledged, Either}
use Rattle.reading.specs.declared.Reading.{Reading}
use Rattle.line.specs.declared.Frame.{Frame}

-- how a line from a live bus is read, and one of our own maker [12.18]
abbrev pub acknowledged : Reading
acknowledged = record { slot = Acknowledged }

abbrev pub own : Reading
own = record { slot = Either }

-- the data field among the frame's bits [12.16]
unfoldable pub field_in : List ℕ → List ℕ
field_in frame = packed 8 (dlc_in frame) (drop (data_start frame) frame)

-- a frame whose payload has n bytes [7.5, 12.17]
abbrev pub framed : ℕ → Identifier → Result Frame Refusal
framed n identifier = Ok (record { length = n; identifier = identifier })

-- the identifier stands beside the length; a refusal is given alone [12.17]
abbrev pub with_identifier : Identifier → Result ℕ Refusal → Result Frame Refusal
with_identifier identifier (Ok n) = framed n identifier
with_identifier identifier (Err refusal) = Err refusal

-- the line's own refusals come first, then those of decoding its data field [12.16, 12.17]
abbrev pub decoded : Scanned → ℕ → Result Frame Refusal
decoded (stopped met refusal) room = Err refusal
decoded (whole frame) room = with_identifier (identifier_in frame) (decode_answer (field_in frame) room)

unfoldable pub read_answer : Reading → List ℕ → ℕ → Result Frame Refusal
read_answer reading line room = decoded (scanned reading line) room

-- the bytes that the words of the data field carry; of no matter where the line is refused [12.17]
abbrev pub carried : Scanned → List ℕ
carried (stopped met refusal) = []
carried (whole frame) = payload_of (field_in frame)

unfoldable pub payload_in : Reading → List ℕ → List ℕ
payload_in reading line = carried (scanned reading line)

-- in the document's numbers: the payload's length, and the identifier [7.5]
abbrev pub line_numbers : Result Frame Refusal → Numbers
line_numbers = numbers (λ f. given f.length (number_for_c f.identifier))
