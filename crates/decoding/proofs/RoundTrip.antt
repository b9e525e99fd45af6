-- Coding and decoding undo each other, of the definitions. Assumes nothing.
--     decode-encode       the field of a payload of at most 7 bytes is accepted where the payload has room
--     payload-of-field    and gives the payload back
--     field-of-payload    whatever decoding accepts is the field of its payload
--     one-payload         payloads with one field are one
--     one_field           accepted fields with one payload are one
use mathlib.Core.Path.{◌≡◌, refl, sym, ap, ap₂, ◌∙◌}
use mathlib.Core.List.{List, [], ◌∷◌, ◌++◌, map, append-nil}
use Prim.Native.Nat.{ℕ, ◌-◌, ◌*◌, ◌≤◌}
use native.Mathlib.Omega.{arith}
use lib.ListN.{length, take, drop, length-map, length-drop, take-append-drop}
use lib.Seq.{take_at, drop_at, drop-drop}
use Rattle.std.proofs.Common.{Ok}
use Rattle.bits.specs.Below.{Below}
use Rattle.bits.specs.Packing.{unpacked, packed}
use Rattle.bits.proofs.Below.{below-drop}
use Rattle.bits.proofs.Packing.{unpacked-below, packed-unpacked, unpacked-packed}
use Rattle.words.specs.Words.{word_of}
use Rattle.words.specs.Symbols.{symbol_of, byte}
use Rattle.words.proofs.Words.{word_below}
use Rattle.words.proofs.Symbols.{word_back, word-only}
use Rattle.field.specs.Sizes.{field_bytes, break_bit, padding_bits}
use Rattle.field.specs.Padding.{padding}
use Rattle.field.specs.Field.{word_bits, field_bits, field_of}
use Rattle.field.proofs.Sizes.{field_bytes-few, field_bytes-back, size_back, field_bytes-not-one}
use Rattle.field.proofs.FieldBits.{word_bits-length, field-length, bits-of-field}
use Rattle.decoding.specs.Parts.{size_of, words_start, break_part, words_part, padding_part, symbols_of}
use Rattle.decoding.specs.Decode.{decode_answer, byte_of, payload_of}
use Rattle.decoding.proofs.FieldParts.{field-bits, payload-below, payload-length}
use Rattle.decoding.proofs.DecodeAnswers.{Begun, decode-accepts}
use Rattle.decoding.proofs.Accepted.{Accepted, accepted}

-- ---- encode, then decode

field-size : (payload : List ℕ) → size_of (field_of payload) ≡ length payload
field-size payload = ap (λ (n : ℕ). n - 1) (field-length payload) ∙ size_back (length payload)

words-of-bytes-below : (payload : List ℕ) → Below 256 payload → Below 512 (map word_of payload)
words-of-bytes-below [] h = tt
words-of-bytes-below (x ∷ l) h = (word_below x h.0, words-of-bytes-below l h.1)

words_back : (payload : List ℕ) → Below 256 payload → map symbol_of (map word_of payload) ≡ map byte payload
words_back [] h = refl
words_back (x ∷ l) h = ap₂ ◌∷◌ (word_back x h.0) (words_back l h.1)

bytes_back : (payload : List ℕ) → map byte_of (map byte payload) ≡ payload
bytes_back [] = refl
bytes_back (x ∷ l) = ap (x ∷◌) (bytes_back l)

-- a field's bits, and those behind its break bit
row : (payload : List ℕ) → length payload ≤ 7
    → unpacked 8 (field_of payload) ≡ break_bit (length (field_of payload)) ++ (word_bits payload ++ padding 0 (padding_bits (length payload)))
unfolding field_bits
row payload h =
    bits-of-field payload h
    ∙ ap (λ (n : ℕ). break_bit n ++ (word_bits payload ++ padding 0 (padding_bits (length payload)))) (sym (field-length payload))

behind : (payload : List ℕ) → length payload ≤ 7
    → drop (words_start (field_of payload)) (unpacked 8 (field_of payload)) ≡ word_bits payload ++ padding 0 (padding_bits (length payload))
behind payload h =
    let start = words_start (field_of payload) in
    let rest = word_bits payload ++ padding 0 (padding_bits (length payload)) in
    ap (drop start) (row payload h) ∙ drop_at (break_bit (length (field_of payload))) rest start refl

break-of-field : (payload : List ℕ) → length payload ≤ 7 → break_part (field_of payload) ≡ break_bit (length (field_of payload))
unfolding break_part
break-of-field payload h =
    ap (take (words_start (field_of payload))) (row payload h) ∙ take_at _ _ (words_start (field_of payload)) refl

words-of-field : (payload : List ℕ) → Below 256 payload → length payload ≤ 7 → words_part (field_of payload) ≡ map word_of payload
unfolding words_part
words-of-field payload b h =
    ap₂ (packed 9) (field-size payload ∙ sym (length-map payload word_of)) (behind payload h)
    ∙ packed-unpacked 9 (map word_of payload) (padding 0 (padding_bits (length payload))) (words-of-bytes-below payload b)

padding-of-field : (payload : List ℕ) → length payload ≤ 7
    → padding_part (field_of payload) ≡ padding 0 (padding_bits (size_of (field_of payload)))
unfolding padding_part
padding-of-field payload h =
    let words = 9 * size_of (field_of payload) in
    sym (drop-drop words (words_start (field_of payload)) (unpacked 8 (field_of payload)))
    ∙ ap (drop words) (behind payload h)
    ∙ drop_at (word_bits payload) (padding 0 (padding_bits (length payload))) words (word_bits-length payload ∙ ap (9 *◌) (sym (field-size payload)))
    ∙ ap (λ (n : ℕ). padding 0 (padding_bits n)) (sym (field-size payload))

symbols-of-field : (payload : List ℕ) → Below 256 payload → length payload ≤ 7 → symbols_of (field_of payload) ≡ map byte payload
symbols-of-field payload b h = ap (map symbol_of) (words-of-field payload b h) ∙ words_back payload b

pub payload-of-field : (payload : List ℕ) → Below 256 payload → length payload ≤ 7 → payload_of (field_of payload) ≡ payload
unfolding payload_of
payload-of-field payload b h = ap (map byte_of) (symbols-of-field payload b h) ∙ bytes_back payload

pub decode-encode : (payload : List ℕ) (room : ℕ) → Below 256 payload → length payload ≤ 7 → length payload ≤ room
    → decode_answer (field_of payload) room ≡ Ok (length payload)
decode-encode payload room b h g =
    let n = field-length payload in
    let size = field-size payload in
    let begun : Begun (field_of payload) room
    = record {
      allowed =
          record {
            not-one = λ e. field_bytes-not-one (length payload) (sym n ∙ e);
            at_most = omega (arith, n, field_bytes-few (length payload) h);
          };
      fits = omega arith;
      break-is = break-of-field payload h;
    } in
    decode-accepts (field_of payload) payload room begun (symbols-of-field payload b h) (padding-of-field payload h) ∙ ap Ok size

-- ---- decode, then encode

-- nine bits that stand for bytes are the words of those bytes
words-only : (nines payload : List ℕ) → map symbol_of nines ≡ map byte payload → nines ≡ map word_of payload
words-only [] [] e = refl
words-only [] (x ∷ l) e = absurd (omega (arith, ap length e))
words-only (nine ∷ nines) [] e = absurd (omega (arith, ap length e))
words-only (nine ∷ nines) (x ∷ l) e =
    let first : symbol_of nine ≡ byte x = cc in
    let rest : map symbol_of nines ≡ map byte l = cc in
    ap₂ ◌∷◌ (word-only nine x first).0 (words-only nines l rest)

-- the bits of an accepted field are those of the field of its payload
accepted-bits : (field : List ℕ) (room n : ℕ) → Accepted field room n → unpacked 8 field ≡ field_bits (payload_of field)
unfolding break_part words_part padding_part field_bits
accepted-bits field room n a =
    let size = size_of field in
    let start = words_start field in
    let rest = drop start (unpacked 8 field) in
    let allowed = a.begun.allowed in
    let enough : 9 * size ≤ length rest = omega (arith, length-drop start (unpacked 8 field), field-bits field allowed) in
    let words : take (9 * size) rest ≡ word_bits (payload_of field)
    = sym (unpacked-packed 9 size rest (below-drop 2 start (unpacked 8 field) (unpacked-below 8 field)) enough)
    ∙ ap (unpacked 9) (words-only (words_part field) (payload_of field) a.words_are) in
    let last : drop (9 * size) rest ≡ padding 0 (padding_bits size) = drop-drop (9 * size) start (unpacked 8 field) ∙ a.padding-is in
    sym (take-append-drop start (unpacked 8 field))
    ∙ ap₂ ◌++◌ (a.begun.break-is ∙ ap break_bit (sym (field_bytes-back (length field) allowed.not-one)))
    (sym (take-append-drop (9 * size) rest) ∙ ap₂ ◌++◌ words last)
    ∙ ap (λ (k : ℕ). break_bit (field_bytes k) ++ (word_bits (payload_of field) ++ padding 0 (padding_bits k))) (sym (payload-length field))

pub field-of-payload : (field : List ℕ) (room n : ℕ) → Below 256 field → decode_answer field room ≡ Ok n
    → (field_of (payload_of field) ≡ field) × (length (payload_of field) ≡ n) × (n ≤ 7) × Below 256 (payload_of field)
unfolding field_of
field-of-payload field room n b e =
    let a = accepted field room n e in
    let allowed = a.begun.allowed in
    let bytes : field_bytes (length (payload_of field)) ≡ length field
    = ap field_bytes (payload-length field) ∙ field_bytes-back (length field) allowed.not-one in (
      ap₂ (packed 8) bytes (sym (accepted-bits field room n a) ∙ sym (append-nil (unpacked 8 field))) ∙ packed-unpacked 8 field [] b,
      payload-length field ∙ sym a.size_is,
      omega (arith, a.size_is, allowed.at_most),
      payload-below field,
    )

-- ---- one payload, one field

pub one-payload : (p q : List ℕ) → Below 256 p → Below 256 q → length p ≤ 7 → length q ≤ 7 → field_of p ≡ field_of q → p ≡ q
one-payload p q b c h g e = sym (payload-of-field p b h) ∙ ap payload_of e ∙ payload-of-field q c g

pub one_field : (f g : List ℕ) (room room' n n' : ℕ) → Below 256 f → Below 256 g
    → decode_answer f room ≡ Ok n → decode_answer g room' ≡ Ok n' → payload_of f ≡ payload_of g → f ≡ g
one_field f g room room' n n' b c e e' same =
    sym (field-of-payload f room n b e).0 ∙ ap field_of same ∙ (field-of-payload g room' n' c e').0
