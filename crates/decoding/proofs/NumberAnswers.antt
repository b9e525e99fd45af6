-- The answers of decoding a field that is one number. Assumes nothing.
--     number_fits    a number of n bytes: that of decoding their field
--     number-wide    3, a number with more bits
--     number-none    3, a length that no field has
--     empty-wide, empty-fits    of no bytes: 3, or the empty payload
--     loaded-answer, loaded-payload    of a field's bytes, loaded: that of decoding them, and their payload where it is accepted
--     wide, narrow   which it is, by the bits above the lowest bytes but one
use mathlib.Core.Path.{◌≡◌, refl, sym, ap, ◌∙◌}
use mathlib.Core.Bool.{Bool, true, false, cond}
use mathlib.Core.List.{List, []}
use Prim.Native.Nat.{ℕ, ◌+◌, ◌*◌, ◌/◌, ◌^◌, ◌≤◌, ◌<◌}
use native.Mathlib.Nat.{div-lt_iff_lt-mul, le-div_iff_mul-le}
use native.Mathlib.Omega.{arith}
use lib.Dec.{ltb}
use lib.ListN.{length}
use lib.Pow.{pow_pos, pow-add}
use borrow.Author.Tests.{lt-ltb, le-ltb, ltb-true, ltb-false}
use Rattle.std.proofs.Common.{Ok, Err}
use Rattle.bits.specs.Below.{Below}
use Rattle.bits.specs.Packing.{unpacked}
use Rattle.bits.specs.Loading.{loaded}
use Rattle.bits.proofs.Rows.{number-below}
use Rattle.bits.proofs.Packing.{unpacked-length, unpacked-below}
use Rattle.bits.proofs.Loading.{load-all}
use Rattle.refusals.specs.Table.{answer_numbers}
use Rattle.refusals.specs.After.{after}
use Rattle.refusals.specs.declared.Refusal.TheVariants.{FieldLength}
use Rattle.field.specs.Coded.{field_from}
use Rattle.field.proofs.Coded.{from-length, from-number}
use Rattle.decoding.specs.Decode.{decode_answer, payload_of}
use Rattle.decoding.specs.Number.{number_answer}
use Rattle.decoding.proofs.DecodeAnswers.{decode-one, decode-long, decode-empty}

module _ (n v room : ℕ) where
  pub number_fits : v < 2 ^ (8 * n) → number_answer n v room ≡ decode_answer (field_from n v) room
  unfolding number_answer
  number_fits h = simp (lt-ltb v _ h)

  pub number-wide : 2 ^ (8 * n) ≤ v → number_answer n v room ≡ Err (FieldLength 0)
  unfolding number_answer
  number-wide h = simp (le-ltb v _ h)

  pub number-none : (n ≤ 8 → n ≡ 1) → number_answer n v room ≡ Err (FieldLength 0)
  unfolding number_answer
  number-none one = go (ltb v (2 ^ (8 * n)))
    where
      no_field : (t : Bool) → ltb 8 n ≡ t → decode_answer (field_from n v) room ≡ Err (FieldLength 0)
      no_field true e = decode-long (field_from n v) room (omega (arith, from-length n v, ltb-true 8 n e))
      no_field false e = decode-one (field_from n v) room (from-length n v ∙ one (ltb-false 8 n e))

      go : (t : Bool) → cond t (decode_answer (field_from n v) room) (Err (FieldLength 0)) ≡ Err (FieldLength 0)
      go true = no_field (ltb 8 n) refl
      go false = refl

  module _ (empty : n ≡ 0) where
    pub empty-wide : (v ≡ 0 → ⊥) → number_answer n v room ≡ Err (FieldLength 0)
    empty-wide some = number-wide (rw empty (omega arith))

    pub empty-fits : v ≡ 0 → (number_answer n v room ≡ Ok 0) × (payload_of (field_from n v) ≡ [])
    empty-fits zero =
        let none = decode-empty (field_from n v) room (from-length n v ∙ empty) in
        (number_fits (rw (empty, zero) (omega arith)) ∙ none.0, none.1)

module _ (field : List ℕ) (room : ℕ) (below : Below 256 field) where
  abbrev v : ℕ
  v = loaded (length field) field

  held : length field ≤ 8 → field_from (length field) v ≡ field
  held few = from-number (length field) v field below refl (load-all (length field) field refl few)

  pub loaded-answer : number_answer (length field) v room ≡ decode_answer field room
  loaded-answer = go (ltb 8 (length field)) refl
    where
      go : (t : Bool) → ltb 8 (length field) ≡ t → number_answer (length field) v room ≡ decode_answer field room
      go true e =
          let long = ltb-true 8 (length field) e in
          number-none (length field) v room (λ few. absurd (omega arith)) ∙ sym (decode-long field room long)
      go false e =
          let few = ltb-false 8 (length field) e in
          let bits = number-below (unpacked 8 field) (unpacked-below 8 field) in
          let small : v < 2 ^ (8 * length field) = rw (load-all (length field) field refl few, ← unpacked-length 8 field) bits in
          number_fits (length field) v room small ∙ ap (λ (l : List ℕ). decode_answer l room) (held few)

  pub loaded-payload : (old : List ℕ) →
      let answer = answer_numbers (decode_answer field room) in
      after answer (payload_of (field_from (length field) v)) old ≡ after answer (payload_of field) old
  loaded-payload old = go (ltb 8 (length field)) refl
    where
      go : (t : Bool) → ltb 8 (length field) ≡ t →
          let answer = answer_numbers (decode_answer field room) in
          after answer (payload_of (field_from (length field) v)) old ≡ after answer (payload_of field) old
      go true e = rw (decode-long field room (ltb-true 8 (length field) e)) refl
      go false e = ap (λ (l : List ℕ). after (answer_numbers (decode_answer field room)) (payload_of l) old) (held (ltb-false 8 (length field) e))

-- the bits of one byte more
byte_more : (size : ℕ) → 2 ^ (8 * (size + 1)) ≡ 256 * 2 ^ (8 * size)
byte_more size =
    let sum : 8 * (size + 1) ≡ 8 * size + 8 = omega arith in
    rw (sum, pow-add 2 (8 * size) 8) (omega arith)

pub wide : (size v : ℕ) → 255 < v / 2 ^ (8 * size) → 2 ^ (8 * (size + 1)) ≤ v
wide size v h = rw (byte_more size) ((le-div_iff_mul-le (pow_pos (8 * size))).0 h)

pub narrow : (size v : ℕ) → v / 2 ^ (8 * size) ≤ 255 → v < 2 ^ (8 * (size + 1))
narrow size v h = rw (byte_more size) ((div-lt_iff_lt-mul (pow_pos (8 * size))).0 (omega arith))
