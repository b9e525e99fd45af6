-- The answer of decoding a field, and its payload. Assumes nothing.
use Rattle.std.specs.Prelude.{ℕ, ◌+◌, Bool, cond, not, ◌||◌, List, [], ◌∷◌, map, eqb, ltb, length, Result, Ok, Err, Option, Some, None}
use Rattle.bits.specs.Same.{same}
use Rattle.refusals.specs.declared.Refusal.{Refusal}
use Rattle.refusals.specs.declared.Refusal.TheVariants as refusal
use Rattle.words.specs.declared.Symbol.{Symbol}
use Rattle.words.specs.declared.Symbol.TheVariants.{Byte, Escape}
use Rattle.field.specs.Sizes.{break_bit, padding_bits}
use Rattle.field.specs.Padding.{padding}
use Rattle.decoding.specs.Parts.{size_of, break_part, padding_part, symbols_of}

-- 5 or 6 for the first symbol from the left that is no byte, its place the number of the word; where all are bytes, what is next [10.8]
abbrev pub words_answer : ℕ → List (Option Symbol) → Result ℕ Refusal → Result ℕ Refusal
words_answer word [] next = next
words_answer word (Some (Byte x) ∷ l) next = words_answer (word + 1) l next
words_answer word (Some Escape ∷ l) next = Err (refusal.Escape word)
words_answer word (None ∷ l) next = Err (refusal.NoWord word)

-- the payload's length, or 7 where the padding is not right [10.9, 10.10]
abbrev pub padding_answer : Bool → ℕ → Result ℕ Refusal
padding_answer right size = cond right (Ok size) (Err refusal.Padding)

-- 3, then 2, then 4, then the words from the left, 5 or 6, then 7 [10.5, 10.6, 10.7, 10.8, 10.9]
unfoldable pub decode_answer : List ℕ → ℕ → Result ℕ Refusal
decode_answer field room =
    cond (eqb (length field) 1 || ltb 8 (length field)) (Err (refusal.FieldLength 0))
    (cond (ltb room (size_of field)) (Err refusal.RoomShort)
    (cond (not (same (break_part field) (break_bit (length field)))) (Err refusal.BreakBit)
    (words_answer 0 (symbols_of field)
    (padding_answer (same (padding_part field) (padding 0 (padding_bits (size_of field)))) (size_of field)))))

-- the byte of a symbol; of no matter for one that is no byte, since its field is refused [10.10]
abbrev pub byte_of : Option Symbol → ℕ
byte_of (Some (Byte x)) = x
byte_of (Some Escape) = 0
byte_of None = 0

-- the bytes that the words carry [10.10]
unfoldable pub payload_of : List ℕ → List ℕ
payload_of field = map byte_of (symbols_of field)
