-- The answers of encoding, one law for each. Assumes nothing.
--     encode-long       1, a payload of more than 7 bytes
--     encode-empty      the empty payload has the empty field
--     encode-short      2, room short
--     encode-accepts    a payload of at most 7 bytes is accepted where its field has room
--     encode-refused, encode-little, encode-stores    the same by what coding it into one number gives
--     Encoded, encode-given    what holds where each of them is given; no other is
use mathlib.Core.Path.{◌≡◌, refl, sym, ap, ◌∙◌}
use mathlib.Core.Bool.{Bool, true, false, cond}
use mathlib.Core.List.{List, [], ◌∷◌, ◌++◌}
use Prim.Native.Nat.{ℕ, ◌≤◌, ◌<◌}
use native.Mathlib.Omega.{arith}
use lib.Dec.{ltb}
use lib.ListN.{length, drop}
use borrow.Author.Tests.{lt-ltb, le-ltb, ltb-true, ltb-false}
use Rattle.std.proofs.Common.{Result, Ok, Err}
use Rattle.bits.specs.Packing.{packed}
use Rattle.bits.specs.Loading.{stored}
use Rattle.bits.proofs.Loading.{store-result}
use Rattle.refusals.specs.declared.Refusal.{Refusal}
use Rattle.refusals.specs.declared.Refusal.TheVariants.{PayloadTooLong, RoomShort}
use Rattle.refusals.proofs.Given.{Order, Answers}
use Rattle.field.specs.Sizes.{field_bytes}
use Rattle.field.specs.Field.{field_of}
use Rattle.field.specs.Coded.{coded}
use Rattle.field.specs.Encode.{encode_answer}
use Rattle.field.specs.declared.encoding.Coded.{Coded}
use Rattle.field.proofs.Sizes.{field_bytes-few}
use Rattle.field.proofs.FieldBits.{field-length, field_below}
use Rattle.field.proofs.Coded.{IsField, coded-field, coded-refused}

pub encode-long : (payload : List ℕ) (room : ℕ) → 7 < length payload → encode_answer payload room ≡ Err PayloadTooLong
unfolding encode_answer
encode-long payload room h = simp (lt-ltb _ _ h)

pub encode-empty : (payload : List ℕ) (room : ℕ) → length payload ≡ 0 → (encode_answer payload room ≡ Ok 0) × (field_of payload ≡ [])
unfolding encode_answer field_of packed
encode-empty [] room h = (rw (le-ltb room 0 (omega arith)), refl)
encode-empty (x ∷ payload) room h = absurd (omega arith)

pub encode-short : (payload : List ℕ) (room : ℕ) → length payload ≤ 7 → room < field_bytes (length payload)
    → encode_answer payload room ≡ Err RoomShort
unfolding encode_answer
encode-short payload room h g = simp (le-ltb _ _ h, lt-ltb _ _ g)

pub encode-accepts : (payload : List ℕ) (room : ℕ) → length payload ≤ 7 → field_bytes (length payload) ≤ room
    → encode_answer payload room ≡ Ok (field_bytes (length payload))
unfolding encode_answer
encode-accepts payload room h g = simp (le-ltb _ _ h, le-ltb _ _ g)

pub encode-refused : (payload : List ℕ) (room : ℕ) (r : Refusal) → coded payload ≡ Err r → Err r ≡ encode_answer payload room
encode-refused payload room r e =
    let h = coded-refused payload r e in
    ap Err h.1 ∙ sym (encode-long payload room h.0)

module _ (payload : List ℕ) (room : ℕ) (c : Coded) (e : coded payload ≡ Ok c) where
  is_field : IsField payload c.n c.number
  is_field = coded-field payload c.n c.number e

  bytes : c.n ≡ field_bytes (length payload)
  bytes = is_field.bytes ∙ field-length payload

  pub encode-little : room < c.n → Err RoomShort ≡ encode_answer payload room
  encode-little h = sym (encode-short payload room is_field.short (rw bytes at h))

  pub encode-stores : (field : List ℕ) → length field ≡ room → c.n ≤ room
      → (Ok c.n ≡ encode_answer payload room) × (stored c.number c.n field ≡ field_of payload ++ drop (length (field_of payload)) field)
  encode-stores field long h = (
    ap Ok bytes ∙ sym (encode-accepts payload room is_field.short (rw bytes at h)),
    store-result (field_of payload) field c.number c.n (field_below payload) is_field.number_is is_field.bytes (rw (← long) at h)
        (rw bytes (field_bytes-few (length payload) is_field.short)),
  )

-- 1, then 2; else a length
abbrev pub encode_order : List ℕ → ℕ → Order
encode_order payload room =
    (1, λ place. 7 < length payload)
    ∷ (2, λ place. (length payload ≤ 7) × (room < field_bytes (length payload)))
    ∷ []

abbrev pub Encoded : List ℕ → ℕ → Result ℕ Refusal → Type 0
Encoded payload room =
    let n = field_bytes (length payload) in
    Answers (encode_order payload room) (λ k. (length payload ≤ 7) × (n ≤ room) × (k ≡ n))

pub encode-given : (payload : List ℕ) (room : ℕ) → Encoded payload room (encode_answer payload room)
unfolding encode_answer
encode-given payload room = go (ltb 7 (length payload)) refl (ltb room n) refl
  where
    n : ℕ
    n = field_bytes (length payload)

    go : (long : Bool) → ltb 7 (length payload) ≡ long → (little : Bool) → ltb room n ≡ little
        → Encoded payload room (cond long (Err PayloadTooLong) (cond little (Err RoomShort) (Ok n)))
    go true d little e = ltb-true 7 (length payload) d
    go false d true e = (ltb-false 7 (length payload) d, ltb-true room n e)
    go false d false e = (ltb-false 7 (length payload) d, ltb-false room n e, refl)
