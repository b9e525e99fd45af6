-- Making and reading a frame undo each other, of the definitions, for every reading and each bit that it takes in the ACK slot. Assumes
-- nothing.
--     read-frame      the line of a frame with any data field that its DLC may count is read as decoding the field answers
--     read_made       a made line is accepted where the payload has room, and gives identifier and payload back
--     own-ack         the maker's own bit in the ACK slot is 1
--     slot_apart, slot-holds    set to 1 again, the made line is as it was; and a bit that is set there stands there
--     Coded           a line is that of an identifier and a payload, with a bit in the ACK slot that the reading takes
--     line-scanned    a line whose bits are all right is that of a frame, with such a bit
--     accepted-is-coded    whatever reading accepts is that of the identifier and the payload that it gives
--     coded-is-accepted    and each such line is accepted where the payload has room
--     coded-apart     of which it is the line, the ACK slot apart
--     one_line        accepted lines that give one identifier and one payload are one, but for the bit in the ACK slot
use mathlib.Core.Path.{◌≡◌, refl, sym, ap, ap₂, ◌∙◌, subst}
use mathlib.Core.List.{List, []}
use Prim.Native.Nat.{ℕ, ◌-◌, ◌≤◌}
use native.Mathlib.Omega.{arith}
use lib.Dec.{lit<}
use lib.ListN.{length, get_or}
use Rattle.std.proofs.Common.{Result, Ok, Err}
use Rattle.bits.specs.Below.{Below}
use Rattle.bits.specs.Stuffing.{nothing_sent}
use Rattle.refusals.specs.declared.Refusal.{Refusal}
use Rattle.field.specs.Field.{field_of}
use Rattle.field.proofs.Sizes.{field_bytes-few, field_bytes-not-one}
use Rattle.field.proofs.FieldBits.{field-length, field_below}
use Rattle.decoding.specs.Decode.{decode_answer}
use Rattle.decoding.proofs.Accepted.{accepted}
use Rattle.decoding.proofs.RoundTrip.{decode-encode, payload-of-field, field-of-payload}
use Rattle.wire.specs.declared.Identifier.{Identifier}
use Rattle.wire.specs.Identifier.{Allowed}
use Rattle.wire.specs.Line.{frame_line}
use Rattle.wire.specs.Answers.{payload_line}
use Rattle.reading.specs.Scan.{identifier_in, slot_most, Scanned, whole, stopped, scanned}
use Rattle.reading.specs.declared.Reading.{Reading}
use Rattle.reading.proofs.OnLine.{line_from, sound-whole, whole-sound}
use Rattle.reading.proofs.Right.{Right, right-sound}
use Rattle.reading.proofs.SoundRight.{sound-right}
use Rattle.line.specs.Read.{field_in, with_identifier, decoded, read_answer, payload_in, framed}
use Rattle.line.proofs.ReadAnswers.{framed-only}
use Rattle.line.specs.Ack.{with_ack}
use Rattle.line.proofs.AckSlot.{line-own, ack-again, ack-holds}
use Rattle.line.proofs.LineOf.{line-of}
use Rattle.line.proofs.FrameBits.{header_bits, data_bits, frame_bits, frame-start, frame_right, identifier-back, field_back}
use Rattle.line.proofs.FrameOf.{right-frame, field-bytes, bytes_below}
use Rattle.line.proofs.HeaderOf.{identifier-few}

-- the line of a frame's bits
frame-line : (identifier : Identifier) (field : List ℕ) (ack : ℕ) → length field ≤ 8
    → line_from nothing_sent [] (frame_bits identifier field ack) ≡ with_ack ack (frame_line identifier field)
unfolding frame_bits frame_line
frame-line identifier field ack few =
    line-of (header_bits identifier field) (data_bits identifier field) ack (sym (frame-start identifier field ack few))

pub own-ack : (identifier : Identifier) (payload : List ℕ) → with_ack 1 (payload_line identifier payload) ≡ payload_line identifier payload
unfolding frame_line
own-ack identifier payload = let field = field_of payload in line-own (header_bits identifier field) (data_bits identifier field)

pub slot_apart : (identifier : Identifier) (field : List ℕ) (ack : ℕ) → with_ack 1 (with_ack ack (frame_line identifier field)) ≡ frame_line identifier field
unfolding frame_line
slot_apart identifier field ack = ack-again (header_bits identifier field) (data_bits identifier field) ack

pub slot-holds : (identifier : Identifier) (field : List ℕ) (ack : ℕ) →
    let line = with_ack ack (frame_line identifier field) in
    get_or line (length line - 9) 0 ≡ ack
unfolding frame_line
slot-holds identifier field ack = ack-holds (header_bits identifier field) (data_bits identifier field) ack

-- ---- made, then read

module _ (reading : Reading) where
  frame-scanned : (identifier : Identifier) (field : List ℕ) (ack : ℕ) → length field ≤ 8 → (length field ≡ 1 → ⊥) → ack ≤ slot_most reading.slot
      → scanned reading (with_ack ack (frame_line identifier field)) ≡ whole (frame_bits identifier field ack)
  unfolding scanned
  frame-scanned identifier field ack few not-one h =
      let all = frame_bits identifier field ack in
      rw (← frame-line identifier field ack few)
      (sound-whole reading nothing_sent [] all 0 (right-sound reading [] all (frame_right identifier field reading ack few not-one h)))

  pub read-frame : (identifier : Identifier) (field : List ℕ) (ack room : ℕ)
      → Allowed identifier → Below 256 field → length field ≤ 8 → (length field ≡ 1 → ⊥) → ack ≤ slot_most reading.slot
      → read_answer reading (with_ack ack (frame_line identifier field)) room ≡ with_identifier identifier (decode_answer field room)
  unfolding read_answer
  read-frame identifier field ack room known bytes few not-one h =
      rw (
        frame-scanned identifier field ack few not-one h,
        field_back identifier field ack bytes few,
        identifier-back identifier field ack known,
      )

  pub read_made : (identifier : Identifier) (payload : List ℕ) (ack room : ℕ)
      → Allowed identifier → Below 256 payload → length payload ≤ 7 → length payload ≤ room → ack ≤ slot_most reading.slot →
      let line = with_ack ack (payload_line identifier payload) in
      (read_answer reading line room ≡ framed (length payload) identifier) × (payload_in reading line ≡ payload)
  unfolding payload_in
  read_made identifier payload ack room known bytes short fits h =
      let field = field_of payload in
      let n = field-length payload in
      let few : length field ≤ 8 = omega (arith, field_bytes-few (length payload) short) in
      let not-one : length field ≡ 1 → ⊥ = λ e. field_bytes-not-one (length payload) (sym n ∙ e) in (
        read-frame identifier field ack room known (field_below payload) few not-one h
            ∙ ap (with_identifier identifier) (decode-encode payload room bytes short fits),
        rw (frame-scanned identifier field ack few not-one h, field_back identifier field ack (field_below payload) few)
            (payload-of-field payload bytes short),
      )

  pub coded-is-accepted : (line : List ℕ) (room : ℕ) (identifier : Identifier) (payload : List ℕ) (ack : ℕ) → line ≡ with_ack ack (payload_line identifier payload)
      → ack ≤ slot_most reading.slot → Allowed identifier → Below 256 payload → length payload ≤ 7 → length payload ≤ room
      → read_answer reading line room ≡ framed (length payload) identifier
  coded-is-accepted line room identifier payload ack is h known bytes short fits =
      ap (λ (l : List ℕ). read_answer reading l room) is ∙ (read_made identifier payload ack room known bytes short fits h).0

  -- ---- read, then made

  pub record Coded (line : List ℕ) (room : ℕ) (identifier : Identifier) (n : ℕ) : Type 0 where
    pub known : Allowed identifier
    pub length-is : length (payload_in reading line) ≡ n
    pub short : n ≤ 7
    pub fits : n ≤ room
    pub bytes : Below 256 (payload_in reading line)
    pub ack : ℕ
    pub slot : ack ≤ slot_most reading.slot
    pub line-is : line ≡ with_ack ack (payload_line identifier (payload_in reading line))
    pub line-below : Below 2 line

  pub line-scanned : (line frame : List ℕ) → scanned reading line ≡ whole frame
      → Right reading frame
      × ((ack : ℕ) × (ack ≤ slot_most reading.slot) × (line ≡ with_ack ack (frame_line (identifier_in frame) (field_in frame)))) × Below 2 line
  unfolding scanned
  line-scanned line frame e =
      let taken = whole-sound reading nothing_sent [] line frame 0 (lit< tt) e in
      let right : Right reading frame = rw taken.all-is at (sound-right reading taken.bits taken.sound) in
      let field = field_in frame in
      let few : length field ≤ 8 = omega (arith, field-bytes right, right.at_most) in
      let is = right-frame right in (
        right,
        (
          is.0,
          is.1,
          taken.line-is ∙ ap (line_from nothing_sent []) (taken.all-is ∙ is.2) ∙ frame-line (identifier_in frame) field is.0 few,
        ),
        taken.line-below,
      )

  whole-coded : (line frame : List ℕ) (room : ℕ) (identifier : Identifier) (n : ℕ) → scanned reading line ≡ whole frame
      → identifier_in frame ≡ identifier → decode_answer (field_in frame) room ≡ Ok n → Coded line room identifier n
  unfolding payload_in
  whole-coded line frame room identifier n e is d =
      let scan = line-scanned line frame e in
      let field = accepted (field_in frame) room n d in
      let back = field-of-payload (field_in frame) room n (bytes_below scan.0) d in
      record {
        known = subst (λ (i : Identifier). Allowed i) is (identifier-few scan.0);
        length-is = rw e back.1;
        short = back.2;
        fits = omega (arith, field.size_is, field.begun.fits);
        bytes = rw e back.3;
        ack = scan.1.0;
        slot = scan.1.1;
        line-is = scan.1.2 ∙ ap (with_ack scan.1.0) (ap₂ frame_line is (sym back.0 ∙ rw e));
        line-below = scan.2;
      }

  with-identifier : (i identifier : Identifier) (n : ℕ) (a : Result ℕ Refusal) → with_identifier i a ≡ framed n identifier
      → (i ≡ identifier) × (a ≡ Ok n)
  with-identifier i identifier n (Ok m) e = let same = framed-only m n i identifier e in (same.1, ap Ok same.0)
  with-identifier i identifier n (Err refusal) e = let z : ◌≡◌ {A = ℕ} 0 1 = cc in absurd (omega arith)

  pub accepted-is-coded : (line : List ℕ) (room : ℕ) (identifier : Identifier) (n : ℕ) → read_answer reading line room ≡ framed n identifier → Coded line room identifier n
  unfolding read_answer
  accepted-is-coded line room identifier n e = go (scanned reading line) refl e
    where
      go : (s : Scanned) → scanned reading line ≡ s → decoded s room ≡ framed n identifier → Coded line room identifier n
      go (stopped met refusal) p q = let z : ◌≡◌ {A = ℕ} 0 1 = cc in absurd (omega arith)
      go (whole frame) p q =
          let is = with-identifier (identifier_in frame) identifier n (decode_answer (field_in frame) room) q in
          whole-coded line frame room identifier n p is.0 is.1

-- the line of a frame, the ACK slot apart
pub coded-apart : (reading : Reading) (line : List ℕ) (room : ℕ) (identifier : Identifier) (n : ℕ) → Coded reading line room identifier n
    → with_ack 1 line ≡ payload_line identifier (payload_in reading line)
coded-apart reading line room identifier n coded =
    ap (with_ack 1) coded.line-is ∙ slot_apart identifier (field_of (payload_in reading line)) coded.ack

pub one_line : (reading other : Reading) (line line' : List ℕ) (room room' : ℕ) (identifier : Identifier) (n n' : ℕ)
    → read_answer reading line room ≡ framed n identifier → read_answer other line' room' ≡ framed n' identifier
    → payload_in reading line ≡ payload_in other line' → with_ack 1 line ≡ with_ack 1 line'
one_line reading other line line' room room' identifier n n' e e' same =
    coded-apart reading line room identifier n (accepted-is-coded reading line room identifier n e) ∙ ap (payload_line identifier) same
    ∙ sym (coded-apart other line' room' identifier n' (accepted-is-coded other line' room' identifier n' e'))
