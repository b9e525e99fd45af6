-- The answers of making a frame, of its length and of its bounds. Assumes nothing.
use Rattle.std.specs.Prelude.{ℕ, ◌+◌, ◌*◌, cond, List, ltb, length, Result, Ok, Err}
use Rattle.refusals.specs.declared.Refusal.{Refusal}
use Rattle.refusals.specs.declared.Refusal.TheVariants as refusal
use Rattle.refusals.specs.Table.{Numbers, given, numbers}
use Rattle.field.specs.Sizes.{field_bytes}
use Rattle.field.specs.Field.{field_of}
use Rattle.wire.specs.declared.Identifier.{Identifier}
use Rattle.wire.specs.Identifier.{number_in, greatest, room_for}
use Rattle.wire.specs.Header.{header}
use Rattle.wire.specs.Line.{frame_line}
use Rattle.wire.specs.StuffBits.{header_stuff_bits}
use Rattle.wire.specs.declared.Bounds.{Bounds}

-- the line of a payload's frame [6.1]
abbrev pub payload_line : Identifier → List ℕ → List ℕ
payload_line identifier payload = frame_line identifier (field_of payload)

-- 8, then 1; else what was asked for [11.1]
abbrev pub checked : {A : Type 0} → Identifier → ℕ → Result A Refusal → Result A Refusal
checked identifier size asked =
    cond (ltb (greatest identifier) (number_in identifier)) (Err refusal.Identifier)
    (cond (ltb 7 size) (Err refusal.PayloadTooLong) asked)

-- how many bits are on the wire [6.2, 11.1, 11.4]
unfoldable pub length_answer : Identifier → List ℕ → Result ℕ Refusal
length_answer identifier payload = checked identifier (length payload) (Ok (length (payload_line identifier payload)))

-- the same, or 2 where the room is below that of the identifier's form, whatever the frame [11.1, 11.2, 11.3]
unfoldable pub make_answer : Identifier → List ℕ → ℕ → Result ℕ Refusal
make_answer identifier payload room =
    checked identifier (length payload)
    (cond (ltb room (room_for identifier)) (Err refusal.RoomShort) (Ok (length (payload_line identifier payload))))

-- a lower bound and an upper one [7.4]
abbrev pub between : ℕ → ℕ → Result Bounds Refusal
between least most = Ok (record { least = least; most = most })

-- the two bounds of demand 3: the bits beside the data are those of the header and 25 more [6.4, 11.1, 11.5]
unfoldable pub bounds_answer : Identifier → ℕ → Result Bounds Refusal
bounds_answer identifier size =
    let n = field_bytes size in
    let beside = length (header identifier n) + 25 in
    let h = header_stuff_bits identifier n in
    checked identifier size (between (beside + 8 * n + h) (beside + 4 + 8 * n + h))

-- in the document's numbers [7.4]
abbrev pub bounds_numbers : Result Bounds Refusal → Numbers
bounds_numbers = numbers (λ b. given b.least b.most)
