-- Where each answer of decoding is given; no other is. Assumes nothing.
--     LengthRight, Started    what is right where the room is looked at, and where the words are
--     FirstAt         the words before this one stand for bytes, and it for something that is no byte
--     decode_order, Decoded    what holds where an answer is given, in document 01's order
--     decode-given    that holds of the answer of decoding
--     decode-numbers    a field whose length is right has no other refusals than 2 and 4 to 7
use mathlib.Core.Path.{◌≡◌, refl, sym, ap, ◌∙◌, subst}
use mathlib.Core.Bool.{Bool, true, false}
use mathlib.Core.List.{List, [], ◌∷◌, ◌++◌, map}
use mathlib.Core.Logic.{◌≢◌, ◌⊎◌, inl, inr}
use Prim.Native.Nat.{ℕ, ◌≤◌, ◌<◌}
use native.Mathlib.Omega.{arith}
use lib.Dec.{T, eqb, ltb}
use lib.ListN.{length}
use borrow.Author.Tests.{eqb-true, eqb-false, ltb-true, ltb-false}
use Rattle.std.proofs.Common.{Result, Err, Option, Some, None}
use Rattle.bits.specs.Same.{same}
use Rattle.bits.proofs.Same.{same-eq, eq-same}
use Rattle.refusals.specs.declared.Refusal.{Refusal}
use Rattle.refusals.specs.Table.{number_of, place_of}
use Rattle.refusals.specs.Among.{Among}
use Rattle.refusals.proofs.Given.{Order, GivenAt, Answers, number-among}
use Rattle.words.specs.declared.Symbol.{Symbol}
use Rattle.words.specs.declared.Symbol.TheVariants.{Byte, Escape}
use Rattle.field.specs.Sizes.{break_bit, padding_bits}
use Rattle.field.specs.Padding.{padding}
use Rattle.decoding.specs.Parts.{size_of, break_part, padding_part, symbols_of}
use Rattle.decoding.specs.Decode.{decode_answer, byte_of, payload_of}
use Rattle.decoding.proofs.FieldParts.{LengthAllowed}
use Rattle.decoding.proofs.DecodeAnswers.{Begun, decode-long, decode-one, decode-short, decode-broken, decode-escape, decode-no-word, decode-padding, decode-accepts}
use Rattle.words.specs.Symbols.{byte}

-- lists that do not pass the test are not equal
differ : (l m : List ℕ) → same l m ≡ false → l ≢ m
differ l m d e = let z : true ≡ false = sym (eq-same l) ∙ ap (same l) e ∙ d in let n : ◌≡◌ {A = ℕ} 0 1 = cc in omega arith

-- ---- the words

-- of what words stand for
abbrev pub FirstAt : List (Option Symbol) → Option Symbol → ℕ → Type 0
FirstAt l y word = (bytes : List ℕ) × (rest : List (Option Symbol)) × (l ≡ map byte bytes ++ (y ∷ rest)) × (length bytes ≡ word)

-- the first that is no byte, or all are
data Words (l : List (Option Symbol)) : Type 0 where
  first-escape : (bytes : List ℕ) (rest : List (Option Symbol)) → l ≡ map byte bytes ++ (Some Escape ∷ rest) → Words l
  first-nothing : (bytes : List ℕ) (rest : List (Option Symbol)) → l ≡ map byte bytes ++ (None ∷ rest) → Words l
  all-bytes : l ≡ map byte (map byte_of l) → Words l

words : (l : List (Option Symbol)) → Words l
words [] = all-bytes refl
words (Some Escape ∷ l) = first-escape [] l refl
words (None ∷ l) = first-nothing [] l refl
words (Some (Byte x) ∷ l) = behind (words l)
  where
    behind : Words l → Words (byte x ∷ l)
    behind (first-escape bytes rest e) = first-escape (x ∷ bytes) rest (ap (byte x ∷◌) e)
    behind (first-nothing bytes rest e) = first-nothing (x ∷ bytes) rest (ap (byte x ∷◌) e)
    behind (all-bytes e) = all-bytes (ap (byte x ∷◌) e)

-- ---- the answers

module _ (field : List ℕ) (room : ℕ) where
  abbrev pub LengthRight : Type 0
  LengthRight = (length field ≢ 1) × (length field ≤ 8)

  abbrev pub Started : Type 0
  Started = LengthRight × (size_of field ≤ room) × (break_part field ≡ break_bit (length field))

  pub allowed : LengthRight → LengthAllowed field
  allowed h = record { not-one = h.0; at_most = h.1 }

  pub begun : Started → Begun field room
  begun h = record { allowed = allowed h.0; fits = h.1; break-is = h.2 }

  abbrev pub WordsBytes : Type 0
  WordsBytes = symbols_of field ≡ map byte (payload_of field)

  abbrev right_padding : List ℕ
  right_padding = padding 0 (padding_bits (size_of field))

  -- 3, 2, 4, then 5 or 6, then 7; else a length
  abbrev pub decode_order : Order
  decode_order =
      (3, λ place. ((length field ≡ 1) ⊎ (8 < length field)) × (place ≡ 0))
      ∷ (2, λ place. LengthRight × (room < size_of field))
      ∷ (4, λ place. LengthRight × (size_of field ≤ room) × (break_part field ≢ break_bit (length field)))
      ∷ (5, λ word. Started × FirstAt (symbols_of field) (Some Escape) word)
      ∷ (6, λ word. Started × FirstAt (symbols_of field) None word)
      ∷ (7, λ place. Started × WordsBytes × (padding_part field ≢ right_padding))
      ∷ []

  abbrev pub Decoded : Result ℕ Refusal → Type 0
  Decoded = Answers decode_order (λ n. Started × WordsBytes × (padding_part field ≡ right_padding) × (n ≡ size_of field))

  given : {a : Result ℕ Refusal} → decode_answer field room ≡ a → Decoded a → Decoded (decode_answer field room)
  given e h = subst Decoded (sym e) h

  by-padding : Started → WordsBytes → (right : Bool) → same (padding_part field) right_padding ≡ right → Decoded (decode_answer field room)
  by-padding h w true d =
      let e = same-eq _ _ (subst T (sym d) tt) in
      given (decode-accepts field (payload_of field) room (begun h) w e) (h, w, e, refl)
  by-padding h w false d = let e = differ _ _ d in given (decode-padding field (payload_of field) room (begun h) w e) (h, w, e)

  by-words : Started → Words (symbols_of field) → Decoded (decode_answer field room)
  unfolding payload_of
  by-words h (first-escape bytes rest e) = given (decode-escape field bytes rest room (begun h) e) (h, (bytes, rest, e, refl))
  by-words h (first-nothing bytes rest e) = given (decode-no-word field bytes rest room (begun h) e) (h, (bytes, rest, e, refl))
  by-words h (all-bytes e) = by-padding h e (same (padding_part field) right_padding) refl

  by-break : LengthRight → size_of field ≤ room → (right : Bool) → same (break_part field) (break_bit (length field)) ≡ right
      → Decoded (decode_answer field room)
  by-break h g true d = by-words (h, g, same-eq _ _ (subst T (sym d) tt)) (words (symbols_of field))
  by-break h g false d = let e = differ _ _ d in given (decode-broken field room (allowed h) g e) (h, g, e)

  by-room : LengthRight → (little : Bool) → ltb room (size_of field) ≡ little → Decoded (decode_answer field room)
  by-room h true d = let g = ltb-true room (size_of field) d in given (decode-short field room (allowed h) g) (h, g)
  by-room h false d = by-break h (ltb-false room (size_of field) d) (same (break_part field) (break_bit (length field))) refl

  by_length : (one : Bool) → eqb (length field) 1 ≡ one → (long : Bool) → ltb 8 (length field) ≡ long → Decoded (decode_answer field room)
  by_length true c long d = let h = eqb-true (length field) 1 c in given (decode-one field room h) (inl h, refl)
  by_length false c true d = let h = ltb-true 8 (length field) d in given (decode-long field room h) (inr h, refl)
  by_length false c false d = by-room (eqb-false (length field) 1 c, ltb-false 8 (length field) d) (ltb room (size_of field)) refl

  pub decode-given : Decoded (decode_answer field room)
  decode-given = by_length (eqb (length field) 1) refl (ltb 8 (length field)) refl

  pub decode-numbers : LengthAllowed field → (r : Refusal) → decode_answer field room ≡ Err r
      → Among (2 ∷ 4 ∷ 5 ∷ 6 ∷ 7 ∷ []) (number_of r)
  decode-numbers right r e = go (number-among decode_order r given-here)
    where
      given-here : GivenAt decode_order (number_of r) (place_of r)
      given-here = subst Decoded e decode-given

      three : number_of r ≡ 3 → GivenAt decode_order 3 (place_of r)
      three is = subst (λ (n : ℕ). GivenAt decode_order n (place_of r)) is given-here

      length-right : (length field ≡ 1) ⊎ (8 < length field) → ⊥
      length-right (inl one) = right.not-one one
      length-right (inr long) = omega (arith, long, right.at_most)

      go : Among (3 ∷ 2 ∷ 4 ∷ 5 ∷ 6 ∷ 7 ∷ []) (number_of r) → Among (2 ∷ 4 ∷ 5 ∷ 6 ∷ 7 ∷ []) (number_of r)
      go (inl is) = absurd (length-right (three is).0)
      go (inr other) = other
