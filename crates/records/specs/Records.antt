-- The records of a trace. Assumes nothing.
use Rattle.std.specs.Prelude.{ℕ, ◌+◌, ◌-◌, min, cond, ◌&&◌, List, leb, ltb, length, get_or, take, drop, Option, Some, None, Result, Ok, Err}
use Rattle.refusals.specs.Table.{Numbers, given, numbers}
use Rattle.refusals.specs.declared.Refusal.{Refusal}
use Rattle.refusals.specs.declared.Refusal.TheVariants as refusal
use Rattle.records.specs.declared.Record.{Record}
use Rattle.records.specs.declared.Record.TheVariants.{Payload, Field}

-- a trace has at most this many bytes; later ones are as if absent [14.3]
abbrev pub most_bytes : ℕ
most_bytes = 65536

-- kinds 10 to 18 hex: a payload of 0 to 8 bytes; kinds 20 to 29 hex: a data field of 0 to 9 bytes [14.2]
unfoldable pub kind_of : ℕ → Option Record
kind_of byte =
    cond (leb 0x10 byte && leb byte 0x18) (Some (Payload (byte - 0x10)))
    (cond (leb 0x20 byte && leb byte 0x29) (Some (Field (byte - 0x20)))
    None)

-- how many bytes its body has [14.1]
abbrev pub body_of : Record → ℕ
body_of (Payload body) = body
body_of (Field body) = body

-- a record where so many bytes are left; 14 at its kind byte where the body is cut [14.4]
abbrev pub whole_or_14 : Record → ℕ → ℕ → Result (Option Record) Refusal
whole_or_14 found left offset = cond (ltb left (body_of found)) (Err (refusal.Record offset)) (Ok (Some found))

-- and where the kind is unknown [14.4]
abbrev pub record_of : Option Record → ℕ → ℕ → Result (Option Record) Refusal
record_of (Some found) left offset = whole_or_14 found left offset
record_of None left offset = Err (refusal.Record offset)

-- what stands at an offset: a record, 14, or nothing at the end [14.3, 14.5, 14.6]
unfoldable pub record_at : List ℕ → ℕ → Result (Option Record) Refusal
record_at trace offset =
    let end = min (length trace) most_bytes in
    cond (leb end offset) (Ok None) (record_of (kind_of (get_or trace offset 0)) (end - offset - 1) offset)

-- in the document's numbers: the length of the body, and the kind; nothing at the end [14.7]
abbrev pub found_numbers : Option Record → Numbers
found_numbers (Some (Payload body)) = given body (0x10 + body)
found_numbers (Some (Field body)) = given body (0x20 + body)
found_numbers None = given 0 0

abbrev pub record_numbers : Result (Option Record) Refusal → Numbers
record_numbers = numbers found_numbers

-- the body of a record, behind its kind byte [14.1]
unfoldable pub body_at : List ℕ → ℕ → ℕ → List ℕ
body_at trace offset body = take body (drop (offset + 1) trace)
