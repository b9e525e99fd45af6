-- What reading a field says before anything is written; no public contract cites it. Assumes nothing.
use Rattle.std.specs.Prelude.{◌≡◌, ℕ, ◌+◌, ◌*◌, ◌%◌, ◌^◌, Bool, cond, List, map, eqb, length, Result, Ok, Err, Option}
use Rattle.bits.specs.Rows.{bits, number}
use Rattle.bits.specs.Packing.{unpacked, packed}
use Rattle.refusals.specs.declared.Refusal.{Refusal}
use Rattle.refusals.specs.declared.Refusal.TheVariants as refusal
use Rattle.words.specs.Symbols.{symbol_of}
use Rattle.words.specs.Lists.{is_escape}
use Rattle.words.specs.declared.Symbol.{Symbol}
use Rattle.field.specs.Padding.{padding}
use Rattle.decoding.specs.Decode.{byte_of, words_answer, padding_answer}

-- 5 or 6, for a symbol that is no byte in the place of word i
abbrev pub no_byte : ℕ → Option Symbol → Refusal
no_byte i y = cond (is_escape y) (refusal.Escape i) (refusal.NoWord i)

-- what the words stand for in the number of a field with `count` bits of padding
abbrev pub symbols_in : ℕ → ℕ → ℕ → List (Option Symbol)
symbols_in size count field = map symbol_of (packed 9 size (bits (9 * size + count) field))

-- the lowest `count` bits of a field's number are its padding
abbrev pub padded : ℕ → ℕ → Bool
padded count field = eqb (field % 2 ^ count) (number 0 (padding 0 count))

-- the answer to a field whose break bit is right, from its number, and the bytes that its words carry
abbrev pub body_answer : ℕ → ℕ → ℕ → Result ℕ Refusal
body_answer size count field = words_answer 0 (symbols_in size count field) (padding_answer (padded count field) size)

abbrev pub body_bytes : ℕ → ℕ → ℕ → List ℕ
body_bytes size count field = map byte_of (symbols_in size count field)

-- the answer is the refusal; or it is the payload's length, and the number that of its bytes
abbrev pub Says : Result ℕ Refusal → Result ℕ Refusal → List ℕ → Type 0
Says (Ok bytes) a payload = (a ≡ Ok (length payload)) × (bytes ≡ number 0 (unpacked 8 payload))
Says (Err r) a payload = a ≡ Err r
