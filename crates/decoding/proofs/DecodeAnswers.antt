-- The answers of decoding, one law for each. Assumes nothing.
--     decode-long, decode-one    3, a field of more than 8 bytes or of 1
--     decode-empty      the empty field has the empty payload
--     decode-short      2, room short
--     decode-broken     4, another bit in the break bit's place
--     Begun, decode-body    a field whose length, room and break bit are right: its words and its padding decide
--     decode-escape     5, an escape behind bytes; the place is how many they are
--     decode-no-word    6, the same of nine bits that are no word
--     decode-padding    7, bytes, but behind them another padding
--     decode-accepts    the payload's length, where all is right
use mathlib.Core.Path.{◌≡◌, refl, sym, ap, ◌∙◌}
use mathlib.Core.Bool.{Bool}
use mathlib.Core.List.{List, [], ◌∷◌, ◌++◌, map, append-nil}
use Prim.Native.Nat.{ℕ, ◌+◌, ◌≤◌, ◌<◌}
use native.Mathlib.Nat.{add-zero, zero-add}
use native.Mathlib.Omega.{arith}
use lib.ListN.{length}
use borrow.Author.Tests.{eq-eqb, ne_eqb, lt-ltb, le-ltb}
use Rattle.std.proofs.Common.{Result, Ok, Err, Option, Some, None}
use Rattle.bits.specs.Packing.{unpacked, packed}
use Rattle.bits.specs.Same.{same}
use Rattle.bits.proofs.Same.{eq-same, ne_same}
use Rattle.refusals.specs.declared.Refusal.{Refusal}
use Rattle.refusals.specs.declared.Refusal.TheVariants as refusal
use Rattle.words.specs.declared.Symbol.{Symbol}
use Rattle.words.specs.declared.Symbol.TheVariants.{Escape}
use Rattle.field.specs.Sizes.{break_bit, padding_bits}
use Rattle.field.specs.Padding.{padding}
use Rattle.decoding.specs.Parts.{size_of, break_part, words_part, padding_part, symbols_of}
use Rattle.decoding.specs.Decode.{words_answer, padding_answer, decode_answer, payload_of}
use Rattle.decoding.proofs.FieldParts.{LengthAllowed}
use Rattle.words.specs.Symbols.{byte}

pub decode-long : (field : List ℕ) (room : ℕ) → 8 < length field → decode_answer field room ≡ Err (refusal.FieldLength 0)
unfolding decode_answer
decode-long field room h = simp (ne_eqb (length field) 1 (λ e. omega arith), lt-ltb _ _ h)

pub decode-one : (field : List ℕ) (room : ℕ) → length field ≡ 1 → decode_answer field room ≡ Err (refusal.FieldLength 0)
unfolding decode_answer
decode-one field room h = simp (eq-eqb _ _ h)

pub decode-empty : (field : List ℕ) (room : ℕ) → length field ≡ 0 → (decode_answer field room ≡ Ok 0) × (payload_of field ≡ [])
unfolding decode_answer payload_of unpacked break_part words_part padding_part packed padding
decode-empty [] room h = (rw (le-ltb room 0 (omega arith)), refl)
decode-empty (x ∷ field) room h = absurd (omega arith)

pub decode-short : (field : List ℕ) (room : ℕ) → LengthAllowed field → room < size_of field
    → decode_answer field room ≡ Err refusal.RoomShort
unfolding decode_answer
decode-short field room allowed h = simp (ne_eqb _ _ allowed.not-one, le-ltb _ _ allowed.at_most, lt-ltb _ _ h)

pub decode-broken : (field : List ℕ) (room : ℕ) → LengthAllowed field → size_of field ≤ room
    → (break_part field ≡ break_bit (length field) → ⊥) → decode_answer field room ≡ Err refusal.BreakBit
unfolding decode_answer
decode-broken field room allowed h ne =
    simp (ne_eqb _ _ allowed.not-one, le-ltb _ _ allowed.at_most, le-ltb _ _ h, ne_same _ _ ne)

-- a field whose length, room and break bit are right
pub record Begun (field : List ℕ) (room : ℕ) : Type 0 where
  pub allowed : LengthAllowed field
  pub fits : size_of field ≤ room
  pub break-is : break_part field ≡ break_bit (length field)

pub decode-body : (field : List ℕ) (room : ℕ) → Begun field room
    → decode_answer field room
    ≡ words_answer 0 (symbols_of field) (padding_answer (same (padding_part field) (padding 0 (padding_bits (size_of field)))) (size_of field))
unfolding decode_answer
decode-body field room begun =
    simp (ne_eqb _ _ begun.allowed.not-one, le-ltb _ _ begun.allowed.at_most, le-ltb _ _ begun.fits)
    (rw (begun.break-is, eq-same (break_bit (length field))))

-- bytes are passed over, and counted
passed : (word : ℕ) (bytes : List ℕ) (l : List (Option Symbol)) (next : Result ℕ Refusal)
    → words_answer word (map byte bytes ++ l) next ≡ words_answer (word + length bytes) l next
passed word [] l next = ap (λ (n : ℕ). words_answer n l next) (sym (add-zero word))
passed word (x ∷ bytes) l next =
    let more : word + 1 + length bytes ≡ word + length (x ∷ bytes) = omega arith in
    passed (word + 1) bytes l next ∙ ap (λ (n : ℕ). words_answer n l next) more

stops : (field bytes : List ℕ) (rest : List (Option Symbol)) (room : ℕ) → Begun field room → symbols_of field ≡ map byte bytes ++ rest
    → decode_answer field room
    ≡ words_answer (length bytes) rest (padding_answer (same (padding_part field) (padding 0 (padding_bits (size_of field)))) (size_of field))
stops field bytes rest room begun e =
    let next = padding_answer (same (padding_part field) (padding 0 (padding_bits (size_of field)))) (size_of field) in
    decode-body field room begun
    ∙ ap (λ (l : List (Option Symbol)). words_answer 0 l next) e
    ∙ passed 0 bytes rest next
    ∙ ap (λ (n : ℕ). words_answer n rest next) (zero-add (length bytes))

pub decode-escape : (field bytes : List ℕ) (rest : List (Option Symbol)) (room : ℕ) → Begun field room
    → symbols_of field ≡ map byte bytes ++ (Some Escape ∷ rest) → decode_answer field room ≡ Err (refusal.Escape (length bytes))
decode-escape field bytes rest room begun e = stops field bytes (Some Escape ∷ rest) room begun e

pub decode-no-word : (field bytes : List ℕ) (rest : List (Option Symbol)) (room : ℕ) → Begun field room
    → symbols_of field ≡ map byte bytes ++ (None ∷ rest) → decode_answer field room ≡ Err (refusal.NoWord (length bytes))
decode-no-word field bytes rest room begun e = stops field bytes (None ∷ rest) room begun e

pub decode-padding : (field bytes : List ℕ) (room : ℕ) → Begun field room → symbols_of field ≡ map byte bytes
    → (padding_part field ≡ padding 0 (padding_bits (size_of field)) → ⊥)
    → decode_answer field room ≡ Err refusal.Padding
decode-padding field bytes room begun e ne =
    stops field bytes [] room begun (e ∙ sym (append-nil (map byte bytes)))
    ∙ ap (λ (t : Bool). padding_answer t (size_of field)) (ne_same _ _ ne)

pub decode-accepts : (field bytes : List ℕ) (room : ℕ) → Begun field room → symbols_of field ≡ map byte bytes
    → padding_part field ≡ padding 0 (padding_bits (size_of field))
    → decode_answer field room ≡ Ok (size_of field)
decode-accepts field bytes room begun e p =
    let right = padding 0 (padding_bits (size_of field)) in
    stops field bytes [] room begun (e ∙ sym (append-nil (map byte bytes)))
    ∙ ap (λ (t : Bool). padding_answer t (size_of field)) (ap (λ (l : List ℕ). same l right) p ∙ eq-same right)
