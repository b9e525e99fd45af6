-- The bits of a frame: of an identifier, the bytes of a data field and a bit in the ACK slot. Assumes nothing.
--     frame_bits      these bits, in the order they are sent, without stuff bits
--     front_length, frame-start    the CRC stands behind header and data bits
--     frame-slot     the bit in the ACK slot
--     frame_right    they are right, for a reading that takes that bit
--     identifier-back, field_back    identifier and data field are found in them again
use mathlib.Core.Path.{◌≡◌, refl, sym, ap, ap₂, ◌∙◌}
use mathlib.Core.List.{List, [], ◌∷◌, ◌++◌, append_assoc}
use Prim.Native.Nat.{ℕ, ◌+◌, ◌-◌, ◌*◌, ◌≤◌, ◌<◌}
use native.Mathlib.Nat.{mod-eq_of_lt}
use native.Mathlib.Omega.{arith}
use lib.Dec.{lit<}
use lib.ListN.{length, get_or, take, drop, replicate, length-append, length-replicate}
use lib.Seq.{take_all, take_at, drop_at, get_or-append-add}
use Rattle.bits.specs.Below.{Below}
use Rattle.bits.specs.Rows.{bits, number}
use Rattle.bits.specs.Packing.{unpacked, packed}
use Rattle.bits.proofs.Below.{below-append}
use Rattle.bits.proofs.Rows.{bits-length, bits_below, number-low}
use Rattle.bits.proofs.Packing.{unpacked-length, unpacked-below, packed-unpacked}
use Rattle.crc.specs.Crc.{crc}
use Rattle.crc.proofs.Division.{crc-below}
use Rattle.wire.specs.declared.Identifier.{Identifier}
use Rattle.wire.specs.Identifier.{Allowed}
use Rattle.wire.specs.Header.{header}
use Rattle.wire.specs.Line.{crc_bits, ending}
use Rattle.wire.proofs.HeaderBits.{header_length, header-length, header-many, header-below, dlc-in-place}
use Rattle.wire.proofs.LineParts.{crc-length}
use Rattle.reading.specs.Form.{either, header_form, form}
use Rattle.reading.specs.Scan.{long_in, header_width, data_start, identifier_in, dlc_in, crc_start, slot_most}
use Rattle.reading.specs.declared.Reading.{Reading}
use Rattle.reading.proofs.Partial.{data_form, crc_form, form-is, header-form-length, long-stays, dlc-there, dlc-stays}
use Rattle.reading.proofs.Fits.{Fits, fits-append, fits-free, fits-same}
use Rattle.reading.proofs.Right.{Right}
use Rattle.scanning.proofs.Rows.{slot-bit}
use Rattle.line.specs.Read.{field_in}
use Rattle.line.proofs.HeaderBits.{long_of, header-long, width_is, header-start, header-same, header-fits, header-back}

module _ (identifier : Identifier) (field : List ℕ) where
  abbrev pub header_bits : List ℕ
  header_bits = header identifier (length field)

  abbrev pub data_bits : List ℕ
  data_bits = unpacked 8 field

  abbrev check_bits : List ℕ
  check_bits = crc_bits header_bits data_bits

  unfoldable pub frame_bits : ℕ → List ℕ
  frame_bits ack = header_bits ++ (data_bits ++ (check_bits ++ ending ack))

  parts : (ack : ℕ) → frame_bits ack ≡ (header_bits ++ data_bits) ++ (check_bits ++ ending ack)
  unfolding frame_bits
  parts ack = sym (append_assoc header_bits data_bits (check_bits ++ ending ack))

  header_read : data_start header_bits ≤ length header_bits
  header_read = omega (arith, header-start identifier (length field), header-length identifier (length field))

  frame-long-is : (ack : ℕ) → long_in (frame_bits ack) ≡ long_of identifier
  unfolding frame_bits
  frame-long-is ack =
      long-stays header_bits (data_bits ++ (check_bits ++ ending ack)) (omega (arith, header-many identifier, header-length identifier (length field)))
      ∙ header-long identifier (length field)

  frame-data : (ack : ℕ) → data_start (frame_bits ack) ≡ header_length identifier
  frame-data ack = ap header_width (frame-long-is ack) ∙ width_is identifier

  frame-dlc : (ack : ℕ) → length field ≤ 8 → dlc_in (frame_bits ack) ≡ length field
  unfolding frame_bits
  frame-dlc ack few =
      dlc-stays header_bits (data_bits ++ (check_bits ++ ending ack)) header_read
      ∙ dlc-there header_bits header_read
      ∙ ap (λ (k : ℕ). number 0 (take 4 (drop (k - 4) header_bits))) (header-start identifier (length field))
      ∙ ap (λ (l : List ℕ). number 0 (take 4 l)) (dlc-in-place identifier (length field))
      ∙ ap (number 0) (take_all 4 (bits 4 (length field)) (omega (arith, bits-length 4 (length field))))
      ∙ number-low 4 (length field) ∙ mod-eq_of_lt (omega arith)

  pub front_length : length (header_bits ++ data_bits) ≡ header_length identifier + 8 * length field
  front_length = simp length-append (omega (arith, header-length identifier (length field), unpacked-length 8 field))

  pub frame-start : (ack : ℕ) → length field ≤ 8 → crc_start (frame_bits ack) ≡ length (header_bits ++ data_bits)
  unfolding crc_start
  frame-start ack few = ap₂ (λ (w n : ℕ). w + 8 * n) (frame-data ack) (frame-dlc ack few) ∙ sym front_length

  -- ---- they are right

  frame_below : (ack : ℕ) → ack < 2 → Below 2 (frame_bits ack)
  unfolding frame_bits crc_bits bits
  frame_below ack h =
      below-append 2 header_bits _ (header-below identifier (length field))
      (below-append 2 data_bits _ (unpacked-below 8 field)
      (below-append 2 check_bits (ending ack) (bits_below 15 _) (lit< tt, (h, bits_below 8 255))))

  frame-long : (ack : ℕ) → length field ≤ 8 → length (frame_bits ack) ≡ crc_start (frame_bits ack) + 25
  frame-long ack few =
      let check = crc-length header_bits data_bits in
      rw (frame-start ack few, parts ack)
      (omega (arith, length-append (header_bits ++ data_bits) (check_bits ++ ending ack), length-append check_bits (ending ack)))

  frame-fits : (ack : ℕ) → Fits (form (long_of identifier) (length field)) (frame_bits ack)
  unfolding frame_bits
  frame-fits ack =
      let must = header_form (long_of identifier) in
      let front : length must ≡ length header_bits
      = header-form-length (long_of identifier) ∙ width_is identifier ∙ sym (header-length identifier (length field)) in
      let n = length field in
      let size : length (data_form n) ≡ length data_bits = length-replicate (8 * n) either ∙ sym (unpacked-length 8 field) in
      let check = sym (crc-length header_bits data_bits) in
      let last : Fits (ending either) (ending ack) = (refl, ((fits-free 1 (ack ∷ [])).0, fits-same (replicate 8 1))) in
      rw (form-is (long_of identifier) n)
      (fits-append must (data_form n ++ (crc_form ++ ending either)) header_bits (data_bits ++ (check_bits ++ ending ack))
      front (header-fits identifier n)
      (fits-append (data_form n) (crc_form ++ ending either) data_bits (check_bits ++ ending ack) size (fits-free (8 * n) data_bits)
      (fits-append crc_form (ending either) check_bits (ending ack) check (fits-free 15 check_bits) last)))

  frame_same : (ack : ℕ) → get_or (frame_bits ack) 12 0 ≡ get_or (frame_bits ack) 13 0
  unfolding frame_bits
  frame_same ack = header-same identifier (length field) (data_bits ++ (check_bits ++ ending ack))

  frame-check : (ack : ℕ) → length field ≤ 8 →
      let all = frame_bits ack in
      number 0 (take 15 (drop (crc_start all) all)) ≡ crc (take (crc_start all) all)
  unfolding crc_bits
  frame-check ack few =
      let front = header_bits ++ data_bits in
      let behind = check_bits ++ ending ack in
      let start = frame-start ack few in
      ap (λ (l : List ℕ). number 0 (take 15 l)) (ap₂ drop start (parts ack) ∙ drop_at front behind (length front) refl)
      ∙ ap (number 0) (take_at check_bits (ending ack) 15 (crc-length header_bits data_bits))
      ∙ number-low 15 (crc front) ∙ mod-eq_of_lt (crc-below front)
      ∙ sym (ap crc (ap₂ take start (parts ack) ∙ take_at front behind (length front) refl))

  -- the bit in the ACK slot
  pub frame-slot : (ack : ℕ) → length field ≤ 8 → get_or (frame_bits ack) (crc_start (frame_bits ack) + 16) 0 ≡ ack
  frame-slot ack few =
      let front = header_bits ++ data_bits in
      let joined : (front ++ (check_bits ++ (1 ∷ []))) ++ (ack ∷ replicate 8 1) ≡ frame_bits ack
      = append_assoc front (check_bits ++ (1 ∷ [])) (ack ∷ replicate 8 1)
      ∙ ap (front ++◌) (append_assoc check_bits (1 ∷ []) (ack ∷ replicate 8 1)) ∙ sym (parts ack) in
      let long : length (front ++ (check_bits ++ (1 ∷ []))) + 0 ≡ crc_start (frame_bits ack) + 16
      = simp length-append (omega (arith, frame-start ack few, length-append header_bits data_bits, crc-length header_bits data_bits)) in
      ap₂ (λ (l : List ℕ) (k : ℕ). get_or l k 0) (sym joined) (sym long)
      ∙ get_or-append-add (front ++ (check_bits ++ (1 ∷ []))) (ack ∷ replicate 8 1) 0 0

  pub frame_right : (reading : Reading) (ack : ℕ) → length field ≤ 8 → (length field ≡ 1 → ⊥) → ack ≤ slot_most reading.slot
      → Right reading (frame_bits ack)
  frame_right reading ack few not-one h =
      let dlc = frame-dlc ack few in
      record {
        below = frame_below ack (omega (arith, slot-bit reading.slot));
        long = frame-long ack few;
        fits = rw (frame-long-is ack, dlc) (frame-fits ack);
        same = frame_same ack;
        not-one = λ e. not-one (sym dlc ∙ e);
        at_most = omega arith;
        check = frame-check ack few;
        slot = omega (arith, frame-slot ack few);
      }

  -- ---- what is found in them

  pub identifier-back : (ack : ℕ) → Allowed identifier → identifier_in (frame_bits ack) ≡ identifier
  unfolding frame_bits
  identifier-back ack known = header-back identifier (length field) (data_bits ++ (check_bits ++ ending ack)) known

  pub field_back : (ack : ℕ) → Below 256 field → length field ≤ 8 → field_in (frame_bits ack) ≡ field
  unfolding frame_bits field_in
  field_back ack h few =
      let rest = check_bits ++ ending ack in
      let size = header-length identifier (length field) ∙ sym (frame-data ack) in
      ap₂ (packed 8) (frame-dlc ack few) (drop_at header_bits (data_bits ++ rest) (data_start (frame_bits ack)) size)
      ∙ packed-unpacked 8 field rest h
