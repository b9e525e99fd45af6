-- A payload coded into one number, the field of such a number, and padding as one; cited between the crates alone. Assumes nothing.
use Rattle.std.specs.Prelude.{cond, ◌||◌, List, ℕ, ◌*◌, ltb, length, Result, Ok, Err}
use Rattle.bits.specs.Rows.{bits, number}
use Rattle.bits.specs.Packing.{unpacked, packed}
use Rattle.refusals.specs.declared.Refusal.{Refusal}
use Rattle.refusals.specs.declared.Refusal.TheVariants.{PayloadTooLong}
use Rattle.refusals.specs.Table.{Numbers, given, numbers}
use Rattle.field.specs.Padding.{padding}
use Rattle.field.specs.Field.{field_of}
use Rattle.field.specs.declared.encoding.Coded.{Coded}

-- a field of n bytes, and the number of its bits [9.3]
abbrev pub coded_field : ℕ → ℕ → Result Coded Refusal
coded_field n v = Ok (record { n = n; number = v })

-- 1; else how many bytes the field has, and the number of its bits [9.1, 9.3]
unfoldable pub coded : List ℕ → Result Coded Refusal
coded payload =
    cond (ltb 7 (length payload)) (Err PayloadTooLong)
    (coded_field (length (field_of payload)) (number 0 (unpacked 8 (field_of payload))))

-- in the document's numbers: the field's bytes, and the number of its bits [7.3]
abbrev pub coded_numbers : Result Coded Refusal → Numbers
coded_numbers = numbers (λ c. given c.n c.number)

-- the n bytes whose bits are the lowest of a number [3.6]
unfoldable pub field_from : ℕ → ℕ → List ℕ
field_from n v = packed 8 n (bits (8 * n) v)

-- the number of a padding; 0 where its first is no bit, or they are more than 8, as in no field [3.4]
unfoldable pub padding_number : ℕ → ℕ → ℕ
padding_number first count = cond (ltb 1 first || ltb 8 count) 0 (number 0 (padding first count))
