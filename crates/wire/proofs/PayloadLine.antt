-- The line of a payload's frame. Assumes nothing.
--     frame_is      said anew, from the sizes, the field's bits and the CRC's number: all is stuffed to the last CRC bit, and the ten
--                   bits 1 behind it are not
--     ack-in-place  where the ACK slot stands among these
--     line-below    each of its bytes is 0 or 1
--     coded-few     a coded field has at most eight bytes
--     coded-quiet   its bits draw no stuff bit behind a header's
--     coded-line    its number behind a header's bits gives that line
use mathlib.Core.Path.{◌≡◌, refl, sym, ap, ap₂, ◌∙◌, subst}
use mathlib.Core.List.{List, [], ◌∷◌, ◌++◌}
use Prim.Native.Nat.{ℕ, ◌*◌, ◌≤◌}
use lib.ListN.{length, take, drop, replicate}
use Rattle.bits.specs.Below.{Below}
use Rattle.bits.specs.Rows.{bits}
use Rattle.bits.specs.Packing.{unpacked}
use Rattle.bits.specs.Stuffing.{nothing_sent, stuffed, stuff_count}
use Rattle.bits.proofs.Below.{below-append}
use Rattle.bits.proofs.Rows.{bits_below}
use Rattle.bits.proofs.Packing.{unpacked-below, bits-unpacked}
use Rattle.bits.proofs.Stuffing.{stuffed-below}
use Rattle.field.specs.Sizes.{field_bytes}
use Rattle.field.specs.Field.{field_bits, field_of}
use Rattle.field.proofs.Coded.{IsField}
use Rattle.field.proofs.FieldBits.{field-length, bits-of-field}
use Rattle.field.proofs.Sizes.{field_bytes-few}
use Rattle.crc.specs.Crc.{crc}
use Rattle.wire.specs.declared.Identifier.{Identifier}
use Rattle.wire.specs.Header.{header}
use Rattle.wire.specs.Line.{crc_bits, stuffed_row, ending, line_of, frame_line}
use Rattle.wire.specs.Answers.{payload_line}
use Rattle.wire.proofs.HeaderBits.{header-below}
use Rattle.wire.proofs.LineParts.{header_run, after-data}
use Rattle.wire.proofs.Demand3.{data-none}

pub frame_is : (identifier : Identifier) (payload : List ℕ) → length payload ≤ 7 →
    let header_bits = header identifier (field_bytes (length payload)) in
    let check = crc (header_bits ++ field_bits payload) in
    payload_line identifier payload
    ≡ stuffed nothing_sent (header_bits ++ (field_bits payload ++ bits 15 check)) ++ replicate 10 1
unfolding frame_line line_of stuffed_row crc_bits
frame_is identifier payload short = rw (field-length payload, bits-of-field payload short) refl

pub ack-in-place : (ack : ℕ) → (take 1 (ending ack) ≡ 1 ∷ []) × (take 1 (drop 1 (ending ack)) ≡ ack ∷ []) × (drop 2 (ending ack) ≡ replicate 8 1)
ack-in-place ack = (refl, refl, refl)

pub line-below : (identifier : Identifier) (payload : List ℕ) → Below 2 (payload_line identifier payload)
unfolding bits frame_line line_of stuffed_row crc_bits
line-below identifier payload =
    let n = length (field_of payload) in
    let header_bits = header identifier n in
    let data_bits = unpacked 8 (field_of payload) in
    let check = bits 15 (crc (header_bits ++ data_bits)) in
    below-append 2 (stuffed nothing_sent (header_bits ++ (data_bits ++ check))) (ending 1)
    (stuffed-below nothing_sent _
    (below-append 2 header_bits _ (header-below identifier n)
    (below-append 2 data_bits _ (unpacked-below 8 (field_of payload)) (bits_below 15 _))))
    (bits_below 10 1023)

pub coded-few : (payload : List ℕ) (n v : ℕ) → IsField payload n v → n ≤ 8
coded-few payload n v coded =
    subst (λ (m : ℕ). m ≤ 8) (sym (coded.bytes ∙ field-length payload)) (field_bytes-few (length payload) coded.short)

pub coded-quiet : (identifier : Identifier) (payload header_bits : List ℕ) (n v : ℕ) → IsField payload n v → header_bits ≡ header identifier n
    → Below 256 payload → stuff_count (header_run header_bits) (bits (8 * n) v) ≡ 0
coded-quiet identifier payload header_bits n v coded e bytes =
    let field = field_of payload in
    let headers = e ∙ ap (header identifier) coded.bytes in
    ap₂ (λ (l m : List ℕ). stuff_count (header_run l) m) headers (bits-unpacked 8 n v field coded.bytes coded.number_is)
    ∙ sym (after-data (header identifier (length field)) (unpacked 8 field)) ∙ data-none identifier payload bytes coded.short

pub coded-line : (identifier : Identifier) (payload header_bits : List ℕ) (n v : ℕ) → IsField payload n v → header_bits ≡ header identifier n
    → line_of header_bits (bits (8 * n) v) ≡ payload_line identifier payload
unfolding frame_line
coded-line identifier payload header_bits n v coded e =
    ap₂ line_of (e ∙ ap (header identifier) coded.bytes) (bits-unpacked 8 n v (field_of payload) coded.bytes coded.number_is)
