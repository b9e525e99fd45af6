-- What is read out of a field's number is said of the field. Assumes nothing.
--     body-says    where the break bit is right, its words and its padding decide the field's answer and its payload
use mathlib.Core.Path.{◌≡◌, sym, ap, ◌∙◌, subst₂}
use mathlib.Core.List.{List, map}
use Prim.Native.Nat.{ℕ}
use Rattle.std.proofs.Common.{Result}
use Rattle.refusals.specs.declared.Refusal.{Refusal}
use Rattle.words.specs.Symbols.{symbol_of}
use Rattle.field.specs.Sizes.{padding_bits}
use Rattle.decoding.specs.Parts.{size_of}
use Rattle.decoding.specs.Decode.{byte_of, decode_answer, payload_of}
use Rattle.decoding.specs.Reading.{body_answer, body_bytes, Says}
use Rattle.decoding.proofs.FieldParts.{HeldIn, words-part, padding-test}
use Rattle.decoding.proofs.DecodeAnswers.{Begun, decode-body}

pub body-says : (field : List ℕ) (room size count v : ℕ) (r : Result ℕ Refusal) → Begun field room
    → HeldIn v field → size ≡ size_of field → count ≡ padding_bits (size_of field)
    → Says r (body_answer size count v) (body_bytes size count v) → Says r (decode_answer field room) (payload_of field)
unfolding payload_of
body-says field room size count v r begun held es ec says =
    let allowed = begun.allowed in
    let answer : body_answer size count v ≡ decode_answer field room
    = rw (es, ec) (sym (decode-body field room begun ∙ rw (padding-test field v allowed held, words-part field v allowed held))) in
    let bytes : body_bytes size count v ≡ payload_of field
    = rw (es, ec) (ap (λ (l : List ℕ). map byte_of (map symbol_of l)) (sym (words-part field v allowed held))) in
    subst₂ (λ (a : Result ℕ Refusal) (p : List ℕ). Says r a p) answer bytes says
