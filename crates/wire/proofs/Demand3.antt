-- Demand 3. First over any header and any data field, then for each identifier and each payload of 0 to 7 bytes. Assumes nothing.
--     crc-four          at most four stuff bits follow CRC bits
--     line-counts       the line's bits are those of its parts and the stuff bits that follow header, data and CRC bits
--     line-between      where none follows a data bit, the line has the bits of its parts, h, and at most four more
--     line-few          whatever header and data field, a line of at most 39 and 64 bits has at most 157
--     header-alone      the stuff bits that follow header bits on the whole line hang on identifier and DLC alone: they are h
--     data-none         no stuff bit follows a bit of the data field
--     frame-between     the line has the header's bits, 25 more, 8n and h, and at most four more
--     base-between, long-between    in numbers: 44 + 8n + h to 48 + 8n + h bits in the base form, and 64 and 68 in the long one
--     base-at-most, long-at-most    and never more than 115, or 140
--     frame-at-most, room-enough    so that 116 are always enough, or 141
use mathlib.Core.Path.{◌≡◌, ap, ap₂, ◌∙◌}
use mathlib.Core.List.{List, [], ◌∷◌, ◌++◌}
use Prim.Native.Nat.{ℕ, zero, suc, ◌+◌, ◌-◌, ◌*◌, ◌/◌, ◌%◌, ◌^◌, ◌≤◌, ◌<◌}
use native.Mathlib.Omega.{arith}
use lib.ListN.{length, take}
use Rattle.bits.specs.Below.{Below}
use Rattle.bits.specs.Rows.{bits}
use Rattle.bits.specs.Packing.{unpacked}
use Rattle.bits.specs.Stuffing.{nothing_sent, run_after, stuff_count, run_after_row}
use Rattle.bits.proofs.Packing.{unpacked-length}
use Rattle.bits.proofs.Stuffing.{stuff-weight, run_after_row-append}
use Rattle.field.specs.Sizes.{field_bytes}
use Rattle.field.specs.Field.{field_of}
use Rattle.field.proofs.FieldBits.{field-length, bits-of-field}
use Rattle.field.proofs.FieldCalm.{quiet-behind-dlc}
use Rattle.wire.specs.declared.Identifier.{Identifier}
use Rattle.wire.specs.declared.Identifier.TheVariants.{Base, Long}
use Rattle.wire.specs.Identifier.{room_for}
use Rattle.wire.specs.Header.{header}
use Rattle.wire.specs.Line.{crc_bits, line_of, frame_line}
use Rattle.wire.specs.StuffBits.{after_header, after_data, after_crc, header_stuff_bits}
use Rattle.wire.specs.Answers.{payload_line}
use Rattle.wire.proofs.HeaderBits.{header_length, header-length}
use Rattle.wire.proofs.HeaderStuff.{header-four, header-three, header-nine, header-eight}
use Rattle.wire.proofs.LineParts.{header_run, data_run, crc-length, line-length, after-header, after-data, after-crc}

module _ (header_bits data_bits : List ℕ) where
  run-few : (data_run header_bits data_bits).count ≤ 4
  run-few =
      let before = stuff-weight nothing_sent header_bits (omega arith) in
      (stuff-weight (header_run header_bits) data_bits before.1).1

  pub crc-four : after_crc header_bits data_bits ≤ 4
  crc-four =
      omega (
        arith,
        after-crc header_bits data_bits,
        run-few,
        (stuff-weight (data_run header_bits data_bits) (crc_bits header_bits data_bits) run-few).0,
        crc-length header_bits data_bits,
      )

  pub line-counts : length (line_of header_bits data_bits)
      ≡ length header_bits + length data_bits + 25
      + (after_header header_bits data_bits + (after_data header_bits data_bits + after_crc header_bits data_bits))
  line-counts =
      line-length header_bits data_bits
      ∙ rw (after-header header_bits data_bits, after-data header_bits data_bits, after-crc header_bits data_bits)

  pub line-between : after_data header_bits data_bits ≡ 0 →
      let least = length header_bits + length data_bits + 25 + after_header header_bits data_bits in
      (least ≤ length (line_of header_bits data_bits)) × (length (line_of header_bits data_bits) ≤ least + 4)
  line-between none =
      let bits = line-counts in
      let four = crc-four in
      (omega arith, omega arith)

  pub line-few : length header_bits ≤ 39 → length data_bits ≤ 64 → length (line_of header_bits data_bits) ≤ 157
  line-few front few =
      let before = stuff-weight nothing_sent header_bits (omega arith) in
      let within = stuff-weight (header_run header_bits) data_bits before.1 in
      omega (arith, line-counts, after-header header_bits data_bits, after-data header_bits data_bits, crc-four, before.0, within.0)

-- the header's last bit is the DLC's lowest
front : Identifier → ℕ → List ℕ
front identifier n = take (header_length identifier - 1) (header identifier n)

header-front : (identifier : Identifier) (n : ℕ) → header identifier n ≡ front identifier n ++ ((n % 2) ∷ [])
unfolding header bits front
header-front (Base number) n = let lowest : n / 2 ^ 0 % 2 ≡ n % 2 = omega arith in rw lowest
header-front (Long number) n = let lowest : n / 2 ^ 0 % 2 ≡ n % 2 = omega arith in rw lowest

header-run : (identifier : Identifier) (n : ℕ) → header_run (header identifier n) ≡ run_after (header_run (front identifier n)) (n % 2)
unfolding run_after_row
header-run identifier n =
    ap header_run (header-front identifier n) ∙ run_after_row-append nothing_sent (front identifier n) ((n % 2) ∷ [])

pub header-alone : (identifier : Identifier) (n : ℕ) (data_bits : List ℕ) → after_header (header identifier n) data_bits ≡ header_stuff_bits identifier n
unfolding header_stuff_bits
header-alone identifier n data_bits = after-header (header identifier n) data_bits

module _ (identifier : Identifier) (payload : List ℕ) (bytes : Below 256 payload) (short : length payload ≤ 7) where
  pub data-none : after_data (header identifier (length (field_of payload))) (unpacked 8 (field_of payload)) ≡ 0
  data-none =
      let field = field_of payload in
      let n = length field in
      let before = header_run (front identifier n) in
      let dlc : n ≡ field_bytes (length payload) = field-length payload in
      after-data (header identifier n) (unpacked 8 field)
      ∙ ap₂ stuff_count (header-run identifier n ∙ ap (λ (m : ℕ). run_after before (m % 2)) dlc) (bits-of-field payload short)
      ∙ quiet-behind-dlc before payload bytes

  pub frame-between :
      let n = field_bytes (length payload) in
      let beside = length (header identifier n) + 25 in
      let h = header_stuff_bits identifier n in
      (beside + 8 * n + h ≤ length (payload_line identifier payload)) × (length (payload_line identifier payload) ≤ beside + 4 + 8 * n + h)
  unfolding frame_line
  frame-between =
      let field = field_of payload in
      let line = line-between (header identifier (length field)) (unpacked 8 field) data-none in
      let head = header-alone identifier (length field) (unpacked 8 field) in
      let dlc = field-length payload in
      let h = ap (header_stuff_bits identifier) dlc in
      let long = unpacked-length 8 field in
      let before = header-length identifier (length field) in
      let same = header-length identifier (field_bytes (length payload)) in
      (omega arith, omega arith)

module _ (number : ℕ) (payload : List ℕ) (bytes : Below 256 payload) (short : length payload ≤ 7) where
  abbrev n : ℕ
  n = field_bytes (length payload)

  -- the same in numbers, for each form
  pub base-between :
      let n = field_bytes (length payload) in
      let h = header_stuff_bits (Base number) n in
      (44 + 8 * n + h ≤ length (payload_line (Base number) payload)) × (length (payload_line (Base number) payload) ≤ 48 + 8 * n + h)
  base-between =
      let between = frame-between (Base number) payload bytes short in
      let before = header-length (Base number) n in
      (omega (arith, between.0), omega (arith, between.1))

  pub long-between :
      let n = field_bytes (length payload) in
      let h = header_stuff_bits (Long number) n in
      (64 + 8 * n + h ≤ length (payload_line (Long number) payload)) × (length (payload_line (Long number) payload) ≤ 68 + 8 * n + h)
  long-between =
      let between = frame-between (Long number) payload bytes short in
      let before = header-length (Long number) n in
      (omega (arith, between.0), omega (arith, between.1))

  pub base-at-most : length (payload_line (Base number) payload) ≤ 115
  base-at-most = go (length payload) short base-between.1
    where
      line : ℕ
      line = length (payload_line (Base number) payload)

      go : (size : ℕ) → size ≤ 7 → line ≤ 48 + 8 * field_bytes size + header_stuff_bits (Base number) (field_bytes size) → line ≤ 115
      go zero few most = omega (arith, header-four number 0)
      go (suc size) few most = omega (arith, header-three number (suc (suc size)) (omega arith) (omega arith))

  pub long-at-most : length (payload_line (Long number) payload) ≤ 140
  long-at-most = go (length payload) short long-between.1
    where
      line : ℕ
      line = length (payload_line (Long number) payload)

      go : (size : ℕ) → size ≤ 7 → line ≤ 68 + 8 * field_bytes size + header_stuff_bits (Long number) (field_bytes size) → line ≤ 140
      go zero few most = omega (arith, header-nine (Long number) 0)
      go (suc size) few most = omega (arith, header-eight number (suc (suc size)) (omega arith) (omega arith))

pub frame-at-most : (identifier : Identifier) (payload : List ℕ) → Below 256 payload → length payload ≤ 7
    → length (payload_line identifier payload) < room_for identifier
frame-at-most (Base number) payload bytes short = omega (arith, base-at-most number payload bytes short)
frame-at-most (Long number) payload bytes short = omega (arith, long-at-most number payload bytes short)

pub room-enough : (identifier : Identifier) (payload : List ℕ) → Below 256 payload → length payload ≤ 7
    → length (payload_line identifier payload) ≤ room_for identifier
room-enough identifier payload bytes short = omega (arith, frame-at-most identifier payload bytes short)
