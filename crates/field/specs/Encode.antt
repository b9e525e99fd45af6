-- The answer of encoding a payload. Assumes nothing.
use Rattle.std.specs.Prelude.{ℕ, cond, List, ltb, length, Result, Ok, Err}
use Rattle.refusals.specs.declared.Refusal.{Refusal}
use Rattle.refusals.specs.declared.Refusal.TheVariants.{PayloadTooLong, RoomShort}
use Rattle.field.specs.Sizes.{field_bytes}

-- 1, then 2 [9.1, 9.2, 9.3]
unfoldable pub encode_answer : List ℕ → ℕ → Result ℕ Refusal
encode_answer payload room =
    let size = length payload in
    cond (ltb 7 size) (Err PayloadTooLong)
    (cond (ltb room (field_bytes size)) (Err RoomShort)
    (Ok (field_bytes size)))
