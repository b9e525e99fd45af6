-- Demand 1, document 01's table of refusals as it stands: each is given exactly when. Of each call and each refusal that it can give,
-- the condition right of ↔ is the document's, and before it what comes first in the call's order and must be right; the place is the
-- refusal's own, else 0 (`place_of`). Of each call too what it accepts, and with which length, and that it has no other refusals: the
-- numbers are in the call's order. Which identifiers are allowed is in Forms, reading a line in LineRefusals, the records of a trace in
-- RecordsExactly. Assumes nothing.
--     encode-payload-long 1, encode-room-short 2, encode-accepted, encode-no-other
--     decode-length-wrong 3, decode-room-short 2, decode-break-wrong 4, decode-escape 5, decode-no-word 6, decode-padding-wrong 7,
--         decode-accepted, decode-no-other
--     make-identifier-high 8, make-payload-long 1, make-room-short 2, make-accepted, make-no-other
--     length-identifier-high 8, length-payload-long 1, length-accepted, length-no-other
--     bounds-identifier-high 8, bounds-size-high 1, bounds-accepted, bounds-no-other
use mathlib.Core.Path.{◌≡◌, sym, ap, ap₂, ◌∙◌, subst}
use mathlib.Core.List.{List, [], ◌∷◌, ◌++◌, map}
use mathlib.Core.Logic.{◌↔◌, ◌≢◌, ◌⊎◌, inl, inr}
use Prim.Native.Nat.{ℕ, ◌+◌, ◌*◌, ◌≤◌, ◌<◌}
use lib.ListN.{length}
use Rattle.std.proofs.Common.{Result, Ok, Err, Option, Some, None}
use Rattle.refusals.specs.Table.{number_of}
use Rattle.refusals.specs.Among.{Among}
use Rattle.refusals.specs.declared.Refusal.{Refusal}
use Rattle.refusals.specs.declared.Refusal.TheVariants as refusal
use Rattle.refusals.proofs.Given.{number-among}
use Rattle.words.specs.declared.Symbol.{Symbol}
use Rattle.words.specs.declared.Symbol.TheVariants.{Escape}
use Rattle.field.specs.Sizes.{field_bytes, break_bit, padding_bits}
use Rattle.field.specs.Padding.{padding}
use Rattle.field.specs.Encode.{encode_answer}
use Rattle.field.proofs.EncodeAnswers as encoding
use Rattle.decoding.specs.Parts.{size_of, break_part, padding_part, symbols_of}
use Rattle.decoding.specs.Decode.{decode_answer, payload_of}
use Rattle.decoding.proofs.DecodeAnswers as decoding
use Rattle.decoding.proofs.DecodeGiven as decoded
use Rattle.wire.specs.declared.Identifier.{Identifier}
use Rattle.wire.specs.Identifier.{number_in, greatest, Allowed, room_for}
use Rattle.wire.specs.Header.{header}
use Rattle.wire.specs.StuffBits.{header_stuff_bits}
use Rattle.wire.specs.Answers.{payload_line, make_answer, length_answer, bounds_answer, between}
use Rattle.wire.specs.declared.Bounds.{Bounds}
use Rattle.wire.proofs.FrameAnswers as frame
use Rattle.wire.proofs.BoundsAnswers as bounding
use Rattle.words.specs.Symbols.{byte}

-- ---- encoding a payload into so much room: 1, 2

module _ (payload : List ℕ) (room : ℕ) where
  encoded : {a : Result ℕ Refusal} → encode_answer payload room ≡ a → encoding.Encoded payload room a
  encoded e = subst (encoding.Encoded payload room) e (encoding.encode-given payload room)

  pub encode-payload-long : encode_answer payload room ≡ Err refusal.PayloadTooLong ↔ 7 < length payload
  encode-payload-long = (encoded, encoding.encode-long payload room)

  pub encode-room-short : encode_answer payload room ≡ Err refusal.RoomShort ↔ (length payload ≤ 7) × (room < field_bytes (length payload))
  encode-room-short = (encoded, λ h. encoding.encode-short payload room h.0 h.1)

  pub encode-accepted : (n : ℕ)
      → encode_answer payload room ≡ Ok n ↔ (length payload ≤ 7) × (field_bytes (length payload) ≤ room) × (n ≡ field_bytes (length payload))
  encode-accepted n = (encoded, λ h. encoding.encode-accepts payload room h.0 h.1 ∙ ap Ok (sym h.2))

  pub encode-no-other : (r : Refusal) → encode_answer payload room ≡ Err r → Among (1 ∷ 2 ∷ []) (number_of r)
  encode-no-other r e = number-among (encoding.encode_order payload room) r (encoded e)

-- ---- decoding a field into so much room: 3, 2, 4, then the words from the left, 5 or 6, then 7

module _ (field : List ℕ) (room : ℕ) where
  -- a field may have that length
  abbrev LengthRight : Type 0
  LengthRight = (length field ≢ 1) × (length field ≤ 8)

  -- and there is room for its payload, and its break bit is right
  abbrev Started : Type 0
  Started = LengthRight × (size_of field ≤ room) × (break_part field ≡ break_bit (length field))

  -- what its words stand for: bytes before this one, and y
  abbrev FirstAt : Option Symbol → ℕ → Type 0
  FirstAt y word = (bytes : List ℕ) × (rest : List (Option Symbol)) × (symbols_of field ≡ map byte bytes ++ (y ∷ rest)) × (length bytes ≡ word)

  -- bytes alone: its payload's
  abbrev WordsBytes : Type 0
  WordsBytes = symbols_of field ≡ map byte (payload_of field)

  abbrev right_padding : List ℕ
  right_padding = padding 0 (padding_bits (size_of field))

  answered : {a : Result ℕ Refusal} → decode_answer field room ≡ a → decoded.Decoded field room a
  answered e = subst (decoded.Decoded field room) e (decoded.decode-given field room)

  pub decode-length-wrong : (place : ℕ)
      → decode_answer field room ≡ Err (refusal.FieldLength place) ↔ ((length field ≡ 1) ⊎ (8 < length field)) × (place ≡ 0)
  decode-length-wrong place = (answered, λ h. either h.0 ∙ ap (λ (p : ℕ). Err (refusal.FieldLength p)) (sym h.1))
    where
      either : (length field ≡ 1) ⊎ (8 < length field) → decode_answer field room ≡ Err (refusal.FieldLength 0)
      either (inl one) = decoding.decode-one field room one
      either (inr long) = decoding.decode-long field room long

  pub decode-room-short : decode_answer field room ≡ Err refusal.RoomShort ↔ LengthRight × (room < size_of field)
  decode-room-short = (answered, λ h. decoding.decode-short field room (decoded.allowed field room h.0) h.1)

  pub decode-break-wrong :
      decode_answer field room ≡ Err refusal.BreakBit
      ↔ LengthRight × (size_of field ≤ room) × (break_part field ≢ break_bit (length field))
  decode-break-wrong = (answered, λ h. decoding.decode-broken field room (decoded.allowed field room h.0) h.1 h.2)

  pub decode-escape : (word : ℕ) → decode_answer field room ≡ Err (refusal.Escape word) ↔ Started × FirstAt (Some Escape) word
  decode-escape word = (
    answered,
    λ (h, (bytes, rest, words, count)).
        decoding.decode-escape field bytes rest room (decoded.begun field room h) words ∙ ap (λ (w : ℕ). Err (refusal.Escape w)) count,
  )

  pub decode-no-word : (word : ℕ) → decode_answer field room ≡ Err (refusal.NoWord word) ↔ Started × FirstAt None word
  decode-no-word word = (
    answered,
    λ (h, (bytes, rest, words, count)).
        decoding.decode-no-word field bytes rest room (decoded.begun field room h) words ∙ ap (λ (w : ℕ). Err (refusal.NoWord w)) count,
  )

  pub decode-padding-wrong :
      decode_answer field room ≡ Err refusal.Padding ↔ Started × WordsBytes × (padding_part field ≢ right_padding)
  decode-padding-wrong = (answered, λ h. decoding.decode-padding field (payload_of field) room (decoded.begun field room h.0) h.1 h.2)

  pub decode-accepted : (n : ℕ)
      → decode_answer field room ≡ Ok n ↔ Started × WordsBytes × (padding_part field ≡ right_padding) × (n ≡ size_of field)
  decode-accepted n = (
    answered,
    λ h.
        decoding.decode-accepts field (payload_of field) room (decoded.begun field room h.0) h.1 h.2 ∙ ap Ok (sym h.3),
  )

  pub decode-no-other : (r : Refusal) → decode_answer field room ≡ Err r → Among (3 ∷ 2 ∷ 4 ∷ 5 ∷ 6 ∷ 7 ∷ []) (number_of r)
  decode-no-other r e = number-among (decoded.decode_order field room) r (answered e)

-- ---- making a frame: 8, 1, 2; its length: 8, 1

module _ (identifier : Identifier) (payload : List ℕ) where
  -- how many bits are on the wire
  abbrev n : ℕ
  n = length (payload_line identifier payload)

  module _ (room : ℕ) where
    made : {a : Result ℕ Refusal} → make_answer identifier payload room ≡ a → frame.Made identifier payload room a
    made e = subst (frame.Made identifier payload room) e (frame.make-given identifier payload room)

    pub make-identifier-high : make_answer identifier payload room ≡ Err refusal.Identifier ↔ greatest identifier < number_in identifier
    make-identifier-high = (made, frame.make-identifier identifier payload room)

    pub make-payload-long :
        make_answer identifier payload room ≡ Err refusal.PayloadTooLong ↔ Allowed identifier × (7 < length payload)
    make-payload-long = (made, λ h. frame.make-payload-long identifier payload room h.0 h.1)

    pub make-room-short :
        make_answer identifier payload room ≡ Err refusal.RoomShort ↔ Allowed identifier × (length payload ≤ 7) × (room < room_for identifier)
    make-room-short = (made, λ h. frame.make-short identifier payload room h.0 h.1 h.2)

    pub make-accepted : (k : ℕ)
        → make_answer identifier payload room ≡ Ok k ↔ Allowed identifier × (length payload ≤ 7) × (room_for identifier ≤ room) × (k ≡ n)
    make-accepted k = (made, λ h. frame.make-accepts identifier payload room h.0 h.1 h.2 ∙ ap Ok (sym h.3))

    pub make-no-other : (r : Refusal) → make_answer identifier payload room ≡ Err r → Among (8 ∷ 1 ∷ 2 ∷ []) (number_of r)
    make-no-other r e = number-among (frame.make_order identifier payload room) r (made e)

  reported : {a : Result ℕ Refusal} → length_answer identifier payload ≡ a → frame.LengthAnswered identifier payload a
  reported e = subst (frame.LengthAnswered identifier payload) e (frame.length-given identifier payload)

  pub length-identifier-high : length_answer identifier payload ≡ Err refusal.Identifier ↔ greatest identifier < number_in identifier
  length-identifier-high = (reported, frame.length-identifier identifier payload)

  pub length-payload-long :
      length_answer identifier payload ≡ Err refusal.PayloadTooLong ↔ Allowed identifier × (7 < length payload)
  length-payload-long = (reported, λ h. frame.length-payload-long identifier payload h.0 h.1)

  pub length-accepted : (k : ℕ) → length_answer identifier payload ≡ Ok k ↔ Allowed identifier × (length payload ≤ 7) × (k ≡ n)
  length-accepted k = (reported, λ h. frame.length-accepts identifier payload h.0 h.1 ∙ ap Ok (sym h.2))

  pub length-no-other : (r : Refusal) → length_answer identifier payload ≡ Err r → Among (8 ∷ 1 ∷ []) (number_of r)
  length-no-other r e = number-among (frame.length_order identifier payload) r (reported e)

-- ---- asking for the bounds of an identifier and a size: 8, 1

module _ (identifier : Identifier) (size : ℕ) where
  bounded : {b : Result Bounds Refusal} → bounds_answer identifier size ≡ b → bounding.Bounded identifier size b
  bounded e = subst (bounding.Bounded identifier size) e (bounding.bounds-given identifier size)

  pub bounds-identifier-high : bounds_answer identifier size ≡ Err refusal.Identifier ↔ greatest identifier < number_in identifier
  bounds-identifier-high = (bounded, bounding.bounds-identifier identifier size)

  pub bounds-size-high : bounds_answer identifier size ≡ Err refusal.PayloadTooLong ↔ Allowed identifier × (7 < size)
  bounds-size-high = (bounded, λ h. bounding.bounds-size-high identifier size h.0 h.1)

  pub bounds-accepted : (least most : ℕ) →
      let n = field_bytes size in
      let beside = length (header identifier n) + 25 in
      let h = header_stuff_bits identifier n in
      bounds_answer identifier size ≡ between least most
      ↔ Allowed identifier × (size ≤ 7) × (least ≡ beside + 8 * n + h) × (most ≡ beside + 4 + 8 * n + h)
  bounds-accepted least most = (
    bounded,
    λ h.
        bounding.bounds-accepts identifier size h.0 h.1 ∙ ap₂ between (sym h.2) (sym h.3),
  )

  pub bounds-no-other : (r : Refusal) → bounds_answer identifier size ≡ Err r → Among (8 ∷ 1 ∷ []) (number_of r)
  bounds-no-other r e = number-among (bounding.bounds_order identifier size) r (bounded e)
