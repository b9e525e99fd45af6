-- How large the numbers of decoding's answer are: refusal's number, and length or place. Assumes nothing.
--     decode-small    at most 7: a place is the number of one of at most seven words
use mathlib.Core.Path.{◌≡◌, refl}
use mathlib.Core.Bool.{Bool, true, false, cond, not, ◌||◌}
use mathlib.Core.List.{List, [], ◌∷◌}
use Prim.Native.Nat.{ℕ, ◌+◌, ◌≤◌, ◌<◌}
use native.Mathlib.Omega.{arith}
use lib.Dec.{eqb, ltb, lit<}
use lib.ListN.{length, length-map}
use borrow.Author.Tests.{ltb-false}
use Rattle.std.proofs.Common.{Result, Err, Option, Some, None}
use Rattle.bits.specs.Same.{same}
use Rattle.bits.proofs.Packing.{packed-length}
use Rattle.refusals.specs.declared.Refusal.{Refusal}
use Rattle.refusals.specs.Table.{answer_numbers}
use Rattle.refusals.specs.declared.Refusal.TheVariants as refusal
use Rattle.words.specs.Symbols.{symbol_of}
use Rattle.words.specs.declared.Symbol.{Symbol}
use Rattle.words.specs.declared.Symbol.TheVariants.{Byte, Escape}
use Rattle.field.specs.Sizes.{break_bit, padding_bits}
use Rattle.field.specs.Padding.{padding}
use Rattle.decoding.specs.Parts.{size_of, break_part, words_part, padding_part, symbols_of}
use Rattle.decoding.specs.Decode.{words_answer, padding_answer, decode_answer}

words_small : (word : ℕ) (l : List (Option Symbol)) (next : Result ℕ Refusal) → word + length l ≤ 7 → (answer_numbers next).low < 8
    → (answer_numbers (words_answer word l next)).low < 8
words_small word [] next h small = small
words_small word (Some (Byte x) ∷ l) next h small = words_small (word + 1) l next (omega arith) small
words_small word (Some Escape ∷ l) next h small = omega arith
words_small word (None ∷ l) next h small = omega arith

symbols-count : (field : List ℕ) → length (symbols_of field) ≡ size_of field
unfolding words_part
symbols-count field = rw (length-map (words_part field) symbol_of) (packed-length 9 (size_of field) _)

pub decode-small : (field : List ℕ) (room : ℕ) → (answer_numbers (decode_answer field room)).low < 8
unfolding decode_answer
decode-small field room =
    go (eqb (length field) 1) (ltb 8 (length field)) refl (ltb room size) (not (same (break_part field) (break_bit (length field))))
  where
    size : ℕ
    size = size_of field

    right : Bool
    right = same (padding_part field) (padding 0 (padding_bits size))

    body : Result ℕ Refusal
    body = words_answer 0 (symbols_of field) (padding_answer right size)

    padded : (t : Bool) → size ≤ 7 → (answer_numbers (padding_answer t size)).low < 8
    padded true few = omega arith
    padded false few = lit< tt

    go : (one long : Bool) → ltb 8 (length field) ≡ long → (short broken : Bool)
        → (answer_numbers (cond (one || long) (Err (refusal.FieldLength 0)) (cond short (Err refusal.RoomShort)
        (cond broken (Err refusal.BreakBit) body)))).low < 8
    go true long e short broken = lit< tt
    go false true e short broken = lit< tt
    go false false e true broken = lit< tt
    go false false e false true = lit< tt
    go false false e false false =
        let few : size ≤ 7 = omega (arith, ltb-false 8 (length field) e) in
        words_small 0 (symbols_of field) (padding_answer right size) (omega (arith, symbols-count field)) (padded right few)
