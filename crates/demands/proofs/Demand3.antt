-- Demand 3, over both forms (change request #110): for any allowed identifier and any payload, no stuff bit follows a data-field bit,
-- at most four follow CRC bits; with n field bytes and h stuff bits after header bits the frame has 44 + 8n + h to 48 + 8n + h bits, in the
-- long form 64 + 8n + h to 68 + 8n + h, h hanging on identifier, with its form, and size alone. The length we report is the count of bits
-- on that wire. Assumes nothing.
--     bits-counted         the line has the bits of its parts and the stuff bits that follow header, data and CRC bits
--     none-after-data      of these none follows a bit of the data field
--     four-after-crc       at most four follow bits of the CRC
--     header-alone         those that follow header bits are h, of identifier and size alone
--     base-between, long-between    so the line has 44 + 8n + h to 48 + 8n + h bits, or 64 + 8n + h to 68 + 8n + h in the long form
--     base-longest, long-longest    and never more than 115 bits, or 140
--     room-enough          so that the room that making asks for is always enough: 116 bits, or 141
--     length-reported      the length reported is the number of bits of the line, which making leaves (`line-left`, Demand2)
--     base-reported, long-reported    the bounds reported of an identifier and a size are these two numbers
--     bounds-hold          and the length reported lies between them
use mathlib.Core.Path.{◌≡◌, sym, ap, ◌∙◌}
use mathlib.Core.List.{List}
use Prim.Native.Nat.{ℕ, ◌+◌, ◌*◌, ◌≤◌}
use native.Mathlib.Omega.{arith}
use lib.ListN.{length}
use Rattle.std.proofs.Common.{Ok}
use Rattle.bits.specs.Below.{Below}
use Rattle.bits.specs.Packing.{unpacked}
use Rattle.bits.proofs.Packing.{unpacked-length}
use Rattle.field.specs.Sizes.{field_bytes}
use Rattle.field.specs.Field.{field_of}
use Rattle.field.proofs.FieldBits.{field-length}
use Rattle.wire.specs.declared.Identifier.{Identifier}
use Rattle.wire.specs.Identifier.{Allowed, room_for}
use Rattle.wire.specs.declared.Identifier.TheVariants.{Base, Long}
use Rattle.wire.specs.Header.{header}
use Rattle.wire.specs.Line.{line_of, frame_line}
use Rattle.wire.specs.StuffBits.{after_header, after_data, after_crc, header_stuff_bits}
use Rattle.wire.specs.Answers.{payload_line, length_answer, bounds_answer, between}
use Rattle.wire.proofs.Identifiers.{base-room, long-room}
use Rattle.wire.proofs.Demand3 as frame
use Rattle.wire.proofs.FrameAnswers.{length-accepts}
use Rattle.wire.proofs.BoundsAnswers.{base-bounds, long-bounds}
use Rattle.wire.proofs.Reported as reported

module _ (identifier : Identifier) (payload : List ℕ) (bytes : Below 256 payload) (short : length payload ≤ 7) where
  -- how many bytes the field has, and the bits of header and data field
  abbrev n : ℕ
  n = field_bytes (length payload)

  abbrev header_bits : List ℕ
  header_bits = header identifier n

  abbrev data_bits : List ℕ
  data_bits = unpacked 8 (field_of payload)

  pub bits-counted :
      length (payload_line identifier payload)
      ≡ length header_bits + 25 + 8 * n + (after_header header_bits data_bits + (after_data header_bits data_bits + after_crc header_bits data_bits))
  unfolding frame_line
  bits-counted =
      let counted = frame.line-counts header_bits data_bits in
      let long = unpacked-length 8 (field_of payload) in
      ap (λ (k : ℕ). length (line_of (header identifier k) data_bits)) (field-length payload)
      ∙ omega (arith, counted, long, field-length payload)

  pub none-after-data : after_data header_bits data_bits ≡ 0
  none-after-data =
      ap (λ (k : ℕ). after_data (header identifier k) data_bits) (sym (field-length payload)) ∙ frame.data-none identifier payload bytes short

  pub four-after-crc : after_crc header_bits data_bits ≤ 4
  four-after-crc = frame.crc-four header_bits data_bits

  pub header-alone : after_header header_bits data_bits ≡ header_stuff_bits identifier n
  header-alone = frame.header-alone identifier n data_bits

  pub room-enough : (length (payload_line identifier payload) ≤ room_for identifier)
      × ((number : ℕ) → (room_for (Base number) ≡ 116) × (room_for (Long number) ≡ 141))
  room-enough = (frame.room-enough identifier payload bytes short, λ number. (base-room number, long-room number))

  pub length-reported : Allowed identifier → length_answer identifier payload ≡ Ok (length (payload_line identifier payload))
  length-reported known = length-accepts identifier payload known short

-- the two pairs of bounds
module _ (number : ℕ) (payload : List ℕ) (bytes : Below 256 payload) (short : length payload ≤ 7) where
  pub base-between :
      let n = field_bytes (length payload) in
      let h = header_stuff_bits (Base number) n in
      (44 + 8 * n + h ≤ length (payload_line (Base number) payload)) × (length (payload_line (Base number) payload) ≤ 48 + 8 * n + h)
  base-between = frame.base-between number payload bytes short

  pub base-longest : length (payload_line (Base number) payload) ≤ 115
  base-longest = frame.base-at-most number payload bytes short

  pub long-longest : length (payload_line (Long number) payload) ≤ 140
  long-longest = frame.long-at-most number payload bytes short

  pub long-between :
      let n = field_bytes (length payload) in
      let h = header_stuff_bits (Long number) n in
      (64 + 8 * n + h ≤ length (payload_line (Long number) payload)) × (length (payload_line (Long number) payload) ≤ 68 + 8 * n + h)
  long-between = frame.long-between number payload bytes short

pub base-reported : (number size : ℕ) → number ≤ 2047 → size ≤ 7 →
    let n = field_bytes size in
    let h = header_stuff_bits (Base number) n in
    bounds_answer (Base number) size ≡ between (44 + 8 * n + h) (48 + 8 * n + h)
base-reported = base-bounds

pub long-reported : (number size : ℕ) → number ≤ 536870911 → size ≤ 7 →
    let n = field_bytes size in
    let h = header_stuff_bits (Long number) n in
    bounds_answer (Long number) size ≡ between (64 + 8 * n + h) (68 + 8 * n + h)
long-reported = long-bounds

pub bounds-hold : (identifier : Identifier) (payload : List ℕ) (least most k : ℕ) → Below 256 payload
    → bounds_answer identifier (length payload) ≡ between least most → length_answer identifier payload ≡ Ok k
    → (least ≤ k) × (k ≤ most)
bounds-hold = reported.bounds-hold
