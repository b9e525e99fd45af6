-- Bits that are right are those of a frame. Assumes nothing.
--     right-frame     of the identifier and the data field that are found in them, and of a bit in the ACK slot that may stand there
--     field-bytes, bytes_below    which has as many bytes as the DLC says
--     field-there, data-fits    the bytes whose bits, as one number, are the data bits; it has no bits more
use mathlib.Core.Path.{◌≡◌, sym, ap, ap₂, ◌∙◌}
use mathlib.Core.List.{List, [], ◌∷◌, ◌++◌, append_assoc}
use Prim.Native.Nat.{ℕ, ◌+◌, ◌*◌, ◌^◌, ◌≤◌, ◌<◌}
use native.Mathlib.Omega.{arith}
use lib.Dec.{lit<}
use lib.ListN.{length, get_or, take, drop, length-append, length-drop, length-replicate}
use lib.Seq.{take_all, take_at, drop_at, length-take-le}
use borrow.Author.Tests.{eqb-true}
use Rattle.bits.specs.Below.{Below}
use Rattle.bits.specs.Rows.{bits, number}
use Rattle.bits.specs.Packing.{unpacked}
use Rattle.bits.proofs.Below.{below-take}
use Rattle.bits.proofs.Rows.{number-below}
use Rattle.bits.proofs.Packing.{packed-length, packed-below, unpacked-packed}
use Rattle.field.specs.Coded.{field_from}
use Rattle.field.proofs.Coded.{from-number}
use Rattle.crc.specs.Crc.{crc}
use Rattle.wire.specs.Header.{header}
use Rattle.wire.specs.Line.{crc_bits, ending}
use Rattle.reading.specs.Form.{either, header_form, form}
use Rattle.reading.specs.Scan.{long_in, data_start, identifier_in, dlc_in, crc_start, slot_most}
use Rattle.reading.specs.declared.Reading.{Reading}
use Rattle.reading.proofs.Partial.{data_form, crc_form, form-is, header-form-length}
use Rattle.reading.proofs.Fits.{Fits, fits-fixed}
use Rattle.reading.proofs.Right.{Right}
use Rattle.scanning.specs.Held.{data_in}
use Rattle.line.specs.Read.{field_in}
use Rattle.line.proofs.FrameBits.{header_bits, data_bits, frame_bits, front_length, frame-slot}
use Rattle.line.proofs.Parts.{long, cut, below-from, fits-from, number-part}
use Rattle.line.proofs.HeaderOf.{identifier-width, header-part}

ending-only : (l : List ℕ) → length l ≡ 10 → Below 2 l → Fits (ending either) l → (ack : ℕ) × (l ≡ ending ack)
ending-only [] e below fits = absurd (omega arith)
ending-only (a ∷ []) e below fits = absurd (omega arith)
ending-only (a ∷ b ∷ l) e below fits =
    let one : a ≡ 1 = sym (eqb-true 1 a fits.0) in
    let ones = fits-fixed 8 1 [] l (lit< tt) below.1.1 (omega arith) fits.1.1 in
    (b, ap₂ (λ (x : ℕ) (m : List ℕ). x ∷ b ∷ m) one (sym (take_all 8 l (omega arith)) ∙ ones))

module _ {reading : Reading} {frame : List ℕ} (right : Right reading frame) where
  pub field-bytes : length (field_in frame) ≡ dlc_in frame
  unfolding field_in
  field-bytes = packed-length 8 (dlc_in frame) (drop (data_start frame) frame)

  pub bytes_below : Below 256 (field_in frame)
  unfolding field_in
  bytes_below = packed-below 8 (dlc_in frame) (drop (data_start frame) frame) (below-from right (data_start frame))

  data-bits : unpacked 8 (field_in frame) ≡ take (8 * dlc_in frame) (drop (data_start frame) frame)
  unfolding field_in
  data-bits = unpacked-packed 8 (dlc_in frame) (drop (data_start frame) frame) (below-from right (data_start frame)) (omega (arith, length-drop (data_start frame) frame, long right))

  pub field-there : field_from (dlc_in frame) (data_in frame) ≡ field_in frame
  unfolding data_in
  field-there = from-number (dlc_in frame) (data_in frame) (field_in frame) bytes_below (sym field-bytes) (ap (number 0) (sym data-bits))

  pub data-fits : data_in frame < 2 ^ (8 * dlc_in frame)
  unfolding data_in
  data-fits =
      let part = take (8 * dlc_in frame) (drop (data_start frame) frame) in
      let size : length part ≡ 8 * dlc_in frame = length-take-le _ (drop (data_start frame) frame) (omega (arith, length-drop (data_start frame) frame, long right)) in
      rw size at (number-below part (below-take 2 (8 * dlc_in frame) (drop (data_start frame) frame) (below-from right (data_start frame))))

  data-part : drop (data_start frame) frame ≡ unpacked 8 (field_in frame) ++ drop (crc_start frame) frame
  unfolding crc_start
  data-part = cut right (data_start frame) (8 * dlc_in frame) ∙ ap (◌++ drop (data_start frame + 8 * dlc_in frame) frame) (sym data-bits)

  -- header and data bits of the frame
  abbrev H : List ℕ
  H = header_bits (identifier_in frame) (field_in frame)

  abbrev D : List ℕ
  D = data_bits (identifier_in frame) (field_in frame)

  front-part : frame ≡ H ++ (D ++ drop (crc_start frame) frame)
  front-part = header-part right ∙ ap₂ (λ (n : ℕ) (l : List ℕ). header (identifier_in frame) n ++ l) (sym field-bytes) data-part

  front-is : take (crc_start frame) frame ≡ H ++ D
  unfolding crc_start
  front-is =
      let start = crc_start frame in
      let rest = drop start frame in
      let size : length (H ++ D) ≡ start
      = front_length (identifier_in frame) (field_in frame) ∙ ap₂ (λ (w n : ℕ). w + 8 * n) (identifier-width right) field-bytes in
      ap (take start) (front-part ∙ sym (append_assoc H D rest)) ∙ take_at (H ++ D) rest start size

  crc-part : drop (crc_start frame) frame ≡ crc_bits H D ++ drop (crc_start frame + 15) frame
  unfolding crc_bits
  crc-part =
      let start = crc_start frame in
      cut right start 15
      ∙ ap (◌++ drop (start + 15) frame)
      (number-part right start 15 (omega (arith, right.long)) ∙ ap (bits 15) (right.check ∙ ap crc front-is))

  ending-form : drop (crc_start frame + 15) (form (long_in frame) (dlc_in frame)) ≡ ending either
  unfolding crc_start
  ending-form =
      let n = dlc_in frame in
      let t = long_in frame in
      let before = header_form t ++ (data_form n ++ crc_form) in
      let joined : form t n ≡ before ++ ending either
      = form-is t n ∙ ap (header_form t ++◌) (sym (append_assoc (data_form n) crc_form (ending either)))
      ∙ sym (append_assoc (header_form t) (data_form n ++ crc_form) (ending either)) in
      let size : length before ≡ crc_start frame + 15 = simp (length-append, length-replicate) (omega (arith, header-form-length t)) in
      ap (drop (crc_start frame + 15)) joined ∙ drop_at before (ending either) (crc_start frame + 15) size

  pub right-frame : (ack : ℕ) × (ack ≤ slot_most reading.slot) × (frame ≡ frame_bits (identifier_in frame) (field_in frame) ack)
  unfolding frame_bits
  right-frame =
      let k = crc_start frame + 15 in
      let size : length (drop k frame) ≡ 10 = length-drop k frame ∙ omega (arith, right.long) in
      let last = ending-only (drop k frame) size (below-from right k) (fits-from right k (ending either) ending-form) in
      let is = front-part ∙ ap (λ (l : List ℕ). H ++ (D ++ l)) (crc-part ∙ ap (crc_bits H D ++◌) last.1) in
      let few : length (field_in frame) ≤ 8 = omega (arith, field-bytes, right.at_most) in
      let slot = ap (λ (l : List ℕ). get_or l (crc_start l + 16) 0) is ∙ frame-slot (identifier_in frame) (field_in frame) last.0 few in
      (last.0, omega (arith, slot, right.slot), is)
