-- The parts of a field, cut out of a number that holds its bits. Assumes nothing.
--     LengthAllowed    a length that a field may have
--     HeldIn, body_bits    its bits are the lowest of a number, and how many of them are words and padding
--     field-bits       how many bits a field has
--     words-part       the words are cut out of the number
--     break-right, break-wrong    the break bit is right exactly when the code's numbers for it are equal
--     padding-test     the padding is right exactly when the number's lowest bits are
--     payload-below, payload-length    what the words carry are bytes, as many as there are words
use mathlib.Core.Path.{◌≡◌, refl, sym, ap, ◌∙◌}
use mathlib.Core.List.{List, [], ◌∷◌, ◌++◌, map}
use Prim.Native.Nat.{ℕ, ◌+◌, ◌*◌, ◌/◌, ◌%◌, ◌^◌, ◌≤◌, ◌<◌}
use native.Mathlib.Omega.{arith}
use lib.Dec.{lit<, eqb}
use lib.ListN.{length, take, drop, length-map}
use lib.Seq.{take_at, drop_at, drop-drop}
use Rattle.std.proofs.Common.{Option, Some, None}
use Rattle.bits.specs.Below.{Below}
use Rattle.bits.specs.Rows.{bits, number}
use Rattle.bits.specs.Packing.{unpacked, packed}
use Rattle.bits.specs.Same.{same}
use Rattle.bits.proofs.Rows.{bits-length, bits_below, bits-split, number-low, number-only}
use Rattle.bits.proofs.Packing.{unpacked-length, packed-length}
use Rattle.bits.proofs.Same.{same_number}
use Rattle.words.specs.Symbols.{symbol_of}
use Rattle.words.specs.declared.Symbol.{Symbol}
use Rattle.words.specs.declared.Symbol.TheVariants.{Byte, Escape}
use Rattle.words.proofs.Symbols.{word-only}
use Rattle.field.specs.Sizes.{field_bytes, break_bit, padding_bits}
use Rattle.field.specs.Padding.{padding}
use Rattle.field.proofs.Sizes.{sizes-fill, field_bytes-back, break_bit-below}
use Rattle.field.proofs.PaddingBits.{padding-length, padding-below}
use Rattle.decoding.specs.Parts.{size_of, words_start, break_part, words_part, padding_part, symbols_of}
use Rattle.decoding.specs.Decode.{byte_of, payload_of}
use Rattle.decoding.specs.Reading.{padded}

-- a length that a field may have
pub record LengthAllowed (field : List ℕ) : Type 0 where
  pub not-one : length field ≡ 1 → ⊥
  pub at_most : length field ≤ 8

-- a field's bits are the lowest of a number; and how many of them the words and the padding have
abbrev pub HeldIn : ℕ → List ℕ → Type 0
HeldIn v field = unpacked 8 field ≡ bits (8 * length field) v

abbrev pub body_bits : List ℕ → ℕ
body_bits field = 9 * size_of field + padding_bits (size_of field)

pub field-bits : (field : List ℕ) → LengthAllowed field → length (unpacked 8 field) ≡ words_start field + body_bits field
field-bits field allowed =
    let back = field_bytes-back (length field) allowed.not-one in
    let start : length (break_bit (field_bytes (size_of field))) ≡ words_start field = ap (λ (n : ℕ). length (break_bit n)) back in
    unpacked-length 8 field ∙ omega (arith, sizes-fill (size_of field) (omega (arith, allowed.at_most)), back, start)

-- the break bit before the rest
split : (field : List ℕ) (v : ℕ) → LengthAllowed field → HeldIn v field
    → unpacked 8 field ≡ bits (words_start field) (v / 2 ^ body_bits field) ++ bits (body_bits field) v
split field v allowed held =
    held
    ∙ ap (λ (n : ℕ). bits n v) (sym (unpacked-length 8 field) ∙ field-bits field allowed)
    ∙ bits-split (words_start field) (body_bits field) v

behind-break : (field : List ℕ) (v : ℕ) → LengthAllowed field → HeldIn v field → drop (words_start field) (unpacked 8 field) ≡ bits (body_bits field) v
behind-break field v allowed held =
    let start = words_start field in
    let high = v / 2 ^ body_bits field in
    ap (drop start) (split field v allowed held) ∙ drop_at (bits start high) (bits (body_bits field) v) start (bits-length start high)

pub words-part : (field : List ℕ) (v : ℕ) → LengthAllowed field → HeldIn v field
    → words_part field ≡ packed 9 (size_of field) (bits (body_bits field) v)
unfolding words_part
words-part field v allowed held = ap (packed 9 (size_of field)) (behind-break field v allowed held)

-- ---- the break bit

-- the number of what stands in its place, as the code cuts it out
abbrev pub highest : List ℕ → ℕ → ℕ
highest field v = v / 2 ^ body_bits field % 2 ^ words_start field

break-part : (field : List ℕ) (v : ℕ) → LengthAllowed field → HeldIn v field → break_part field ≡ bits (words_start field) (v / 2 ^ body_bits field)
unfolding break_part
break-part field v allowed held =
    ap (take (words_start field)) (split field v allowed held) ∙ take_at _ _ (words_start field) (bits-length (words_start field) _)

break-number : (field : List ℕ) (v : ℕ) → LengthAllowed field → HeldIn v field → number 0 (break_part field) ≡ highest field v
break-number field v allowed held =
    ap (number 0) (break-part field v allowed held) ∙ number-low (words_start field) (v / 2 ^ body_bits field)

pub break-right : (field : List ℕ) (v high bit : ℕ) → LengthAllowed field → HeldIn v field
    → high ≡ highest field v → bit ≡ number 0 (break_bit (length field)) → high ≡ bit → break_part field ≡ break_bit (length field)
break-right field v high bit allowed held eh eb e =
    let found = v / 2 ^ body_bits field in
    let long = ap length (break-part field v allowed held) ∙ bits-length (words_start field) found in
    let below : Below 2 (break_part field) = rw (break-part field v allowed held) (bits_below (words_start field) found) in
    number-only (break_part field) (break_bit (length field)) below (break_bit-below (length field)) long
    (break-number field v allowed held ∙ sym eh ∙ e ∙ eb)

pub break-wrong : (field : List ℕ) (v high bit : ℕ) → LengthAllowed field → HeldIn v field
    → high ≡ highest field v → bit ≡ number 0 (break_bit (length field)) → (high ≡ bit → ⊥) → break_part field ≡ break_bit (length field) → ⊥
break-wrong field v high bit allowed held eh eb ne e = ne (eh ∙ sym (break-number field v allowed held) ∙ ap (number 0) e ∙ sym eb)

-- ---- the padding

padding-part : (field : List ℕ) (v : ℕ) → LengthAllowed field → HeldIn v field → padding_part field ≡ bits (padding_bits (size_of field)) v
unfolding padding_part
padding-part field v allowed held =
    let words = 9 * size_of field in
    let count = padding_bits (size_of field) in
    let high = v / 2 ^ count in
    sym (drop-drop words (words_start field) (unpacked 8 field))
    ∙ ap (drop words) (behind-break field v allowed held ∙ bits-split words count v)
    ∙ drop_at (bits words high) (bits count v) words (bits-length words high)

pub padding-test : (field : List ℕ) (v : ℕ) → LengthAllowed field → HeldIn v field
    → same (padding_part field) (padding 0 (padding_bits (size_of field))) ≡ padded (padding_bits (size_of field)) v
padding-test field v allowed held =
    let count = padding_bits (size_of field) in
    let row = bits count v in
    let long = bits-length count v ∙ sym (padding-length 0 count) in
    ap (λ (l : List ℕ). same l (padding 0 count)) (padding-part field v allowed held)
    ∙ same_number row (padding 0 count) (bits_below count v) (padding-below 0 count (lit< tt)) long
    ∙ ap (λ (n : ℕ). eqb n (number 0 (padding 0 count))) (number-low count v)

-- ---- the payload

byte-below : (nine : ℕ) → byte_of (symbol_of nine) < 256
byte-below nine = go (symbol_of nine) refl
  where
    go : (y : Option Symbol) → symbol_of nine ≡ y → byte_of y < 256
    go (Some (Byte x)) e = (word-only nine x e).1
    go (Some Escape) e = lit< tt
    go None e = lit< tt

bytes_below : (nines : List ℕ) → Below 256 (map byte_of (map symbol_of nines))
bytes_below [] = tt
bytes_below (nine ∷ l) = (byte-below nine, bytes_below l)

pub payload-below : (field : List ℕ) → Below 256 (payload_of field)
unfolding payload_of
payload-below field = bytes_below (words_part field)

pub payload-length : (field : List ℕ) → length (payload_of field) ≡ size_of field
unfolding payload_of words_part
payload-length field =
    length-map (symbols_of field) byte_of ∙ length-map (words_part field) symbol_of
    ∙ packed-length 9 (size_of field) (drop (words_start field) (unpacked 8 field))
