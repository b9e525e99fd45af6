-- The laws of a field's bits and bytes. Assumes nothing.
--     word_bits-length      nine bits for each byte
--     field_bits-length, field_bits-below    the bits fill the field's bytes, and are bits
--     field-number         their number, from the parts that the code puts together
--     field-number-below   it has no more than 64 bits
--     field-length, field_below    the field has the bytes that the table says, and they are bytes
--     bits-of-field        the bits of the field's bytes are the field's bits
use mathlib.Core.Path.{◌≡◌, sym, ap, ◌∙◌}
use mathlib.Core.List.{List, ◌++◌, map}
use Prim.Native.Nat.{ℕ, ◌+◌, ◌*◌, ◌^◌, ◌≤◌, ◌<◌}
use native.Mathlib.Nat.{lt_of_lt_of_le}
use native.Mathlib.Omega.{arith}
use lib.Dec.{lit<}
use lib.ListN.{length, length-append, length-map}
use lib.Pow.{pow_mono}
use lib.Seq.{take_all}
use Rattle.bits.specs.Below.{Below}
use Rattle.bits.specs.Rows.{number}
use Rattle.bits.specs.Packing.{unpacked}
use Rattle.bits.proofs.Below.{below-append}
use Rattle.bits.proofs.Rows.{number_append, number-from, number-below}
use Rattle.bits.proofs.Packing.{unpacked-length, unpacked-below, packed-length, packed-below, unpacked-packed}
use Rattle.words.specs.Words.{word_of}
use Rattle.field.specs.Sizes.{field_bytes, break_bit, padding_bits}
use Rattle.field.specs.Padding.{padding}
use Rattle.field.specs.Field.{word_bits, field_bits, field_of}
use Rattle.field.proofs.Sizes.{sizes-fill, field_bytes-few, break_bit-below}
use Rattle.field.proofs.PaddingBits.{padding-length, padding-below}

pub word_bits-length : (payload : List ℕ) → length (word_bits payload) ≡ 9 * length payload
word_bits-length payload = unpacked-length 9 (map word_of payload) ∙ ap (9 *◌) (length-map payload word_of)

pub field_bits-length : (payload : List ℕ) → length payload ≤ 7 → length (field_bits payload) ≡ 8 * field_bytes (length payload)
unfolding field_bits
field_bits-length payload h =
    simp (length-append, word_bits-length, padding-length) (omega (arith, sizes-fill (length payload) h))

pub field_bits-below : (payload : List ℕ) → Below 2 (field_bits payload)
unfolding field_bits
field_bits-below payload =
    let size = length payload in
    let words = word_bits payload in
    let pad = padding 0 (padding_bits size) in
    below-append 2 (break_bit (field_bytes size)) (words ++ pad) (break_bit-below (field_bytes size))
    (below-append 2 words pad (unpacked-below 9 (map word_of payload)) (padding-below 0 (padding_bits size) (lit< tt)))

pub field-number : (payload : List ℕ) →
    let size = length payload in
    let count = padding_bits size in
    number (number 0 (break_bit (field_bytes size))) (word_bits payload) * 2 ^ count + number 0 (padding 0 count) ≡ number 0 (field_bits payload)
unfolding field_bits
field-number payload =
    let size = length payload in
    let words = word_bits payload in
    let pad = padding 0 (padding_bits size) in
    let before = number (number 0 (break_bit (field_bytes size))) words in
    sym
    (number_append 0 (break_bit (field_bytes size)) (words ++ pad)
    ∙ number_append (number 0 (break_bit (field_bytes size))) words pad
    ∙ number-from before pad
    ∙ ap (λ (n : ℕ). before * 2 ^ n + number 0 pad) (padding-length 0 (padding_bits size)))

pub field-number-below : (payload : List ℕ) → length payload ≤ 7 → number 0 (field_bits payload) < 2 ^ 64
field-number-below payload h =
    lt_of_lt_of_le (number-below (field_bits payload) (field_bits-below payload))
    (pow_mono {j = 64} (omega (arith, field_bits-length payload h, field_bytes-few (length payload) h)))

pub field-length : (payload : List ℕ) → length (field_of payload) ≡ field_bytes (length payload)
unfolding field_of
field-length payload = packed-length 8 (field_bytes (length payload)) (field_bits payload)

pub field_below : (payload : List ℕ) → Below 256 (field_of payload)
unfolding field_of
field_below payload = packed-below 8 (field_bytes (length payload)) (field_bits payload) (field_bits-below payload)

pub bits-of-field : (payload : List ℕ) → length payload ≤ 7 → unpacked 8 (field_of payload) ≡ field_bits payload
unfolding field_of
bits-of-field payload h =
    let n = field_bytes (length payload) in
    unpacked-packed 8 n (field_bits payload) (field_bits-below payload) (omega (arith, field_bits-length payload h))
    ∙ take_all (8 * n) (field_bits payload) (omega (arith, field_bits-length payload h))
