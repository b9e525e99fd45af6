-- The line of a record of a trace. Assumes nothing.
use Rattle.std.specs.Prelude.{ℕ, ◌+◌, cond, List, [], ◌∷◌, ◌++◌, ltb, length, Option, Some, None, Result, Ok, Err}
use Rattle.refusals.specs.declared.Refusal.{Refusal}
use Rattle.refusals.specs.declared.Refusal.TheVariants.{RoomShort}
use Rattle.refusals.specs.Table.{Numbers, given, numbers, number_of, place_of}
use Rattle.field.specs.Field.{field_of}
use Rattle.field.specs.Encode.{encode_answer}
use Rattle.decoding.specs.Decode.{decode_answer, payload_of}
use Rattle.records.specs.Records.{body_of, record_at, body_at}
use Rattle.records.specs.declared.Record.{Record}
use Rattle.records.specs.declared.Record.TheVariants as found
use Rattle.report.specs.Text.{space, dash, newline, spaced, bytes_text}
use Rattle.report.specs.declared.Line.{Line}

-- record number, letter, refusal number, place, and the resulting bytes [15.1]
unfoldable pub line_text : ℕ → ℕ → ℕ → ℕ → List ℕ → List ℕ
line_text number letter refusal place result =
    (spaced number ++ (letter ∷ space ∷ [])) ++ ((spaced refusal ++ spaced place) ++ (bytes_text result ++ (newline ∷ [])))

-- the line of an answer and its result: 0 for no refusal, and place 0; a refusal has no result [15.4, 15.6]
unfoldable pub outcome_text : ℕ → ℕ → Result ℕ Refusal → List ℕ → List ℕ
outcome_text number letter (Ok n) result = line_text number letter 0 0 result
outcome_text number letter (Err refusal) result = line_text number letter (number_of refusal) (place_of refusal) []

-- E: a payload, encoded. D: a data field, decoded. Each has room for its result [15.3]
unfoldable pub encoded_text : ℕ → List ℕ → List ℕ
encoded_text number payload = outcome_text number 0x45 (encode_answer payload 8) (field_of payload)

unfoldable pub decoded_text : ℕ → List ℕ → List ℕ
decoded_text number field = outcome_text number 0x44 (decode_answer field 8) (payload_of field)

-- the line of a record with this body [15.3]
abbrev pub coded_text : Record → ℕ → List ℕ → List ℕ
coded_text (found.Payload n) = encoded_text
coded_text (found.Field n) = decoded_text

-- the line of what stands at an offset; the trace's end has none [15.8, 15.9]
abbrev pub record_text : Result (Option Record) Refusal → List ℕ → ℕ → ℕ → List ℕ
record_text (Ok (Some found)) trace offset number = coded_text found number (body_at trace offset (body_of found))
record_text (Err refusal) trace offset number = outcome_text number dash (Err refusal) []
record_text (Ok None) trace offset number = []

unfoldable pub line_at : List ℕ → ℕ → ℕ → List ℕ
line_at trace offset number = record_text (record_at trace offset) trace offset number

-- its length, and where the next record stands: behind the body; behind refusal 14 there is none [15.2, 15.8, 15.9]
abbrev pub record_reported : Result (Option Record) Refusal → List ℕ → ℕ → ℕ → Option Line
record_reported (Ok (Some found)) trace offset n = Some (record { length = n; next = offset + 1 + body_of found })
record_reported (Err refusal) trace offset n = Some (record { length = n; next = length trace })
record_reported (Ok None) trace offset n = None

-- 2 where the room is below 96, whatever the line [15.9]
unfoldable pub reported_at : List ℕ → ℕ → ℕ → ℕ → Result (Option Line) Refusal
reported_at trace offset number room =
    cond (ltb room 96) (Err RoomShort) (Ok (record_reported (record_at trace offset) trace offset (length (line_at trace offset number))))

-- in the document's numbers: the line's length, and where the next record stands; nothing at the end [15.9]
abbrev pub said_numbers : Option Line → Numbers
said_numbers (Some line) = given line.length line.next
said_numbers None = given 0 0

abbrev pub reported_numbers : Result (Option Line) Refusal → Numbers
reported_numbers = numbers said_numbers
