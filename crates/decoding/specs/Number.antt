-- The answer of decoding a field that is one number; cited between the crates alone. Assumes nothing.
use Rattle.std.specs.Prelude.{ℕ, ◌*◌, ◌^◌, cond, ltb, Result, Err}
use Rattle.refusals.specs.declared.Refusal.{Refusal}
use Rattle.refusals.specs.declared.Refusal.TheVariants.{FieldLength}
use Rattle.field.specs.Coded.{field_from}
use Rattle.decoding.specs.Decode.{decode_answer}

-- 3 where the number has more bits than n bytes; else that of decoding these [10.5]
unfoldable pub number_answer : ℕ → ℕ → ℕ → Result ℕ Refusal
number_answer n v room = cond (ltb v (2 ^ (8 * n))) (decode_answer (field_from n v) room) (Err (FieldLength 0))
