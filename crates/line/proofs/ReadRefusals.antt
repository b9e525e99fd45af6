-- The refusals of a line. Assumes nothing.
--     field_numbers, read-numbers    2 and 4 to 7, or those of its bits
--     bits-refused     those of its bits come from these, whatever the room
--     refused-there    and but for 13 they are met where they stand
--     FieldRefused, field-refused    2 and 4 to 7 only where it is the line of a frame, with a bit in the ACK slot that the reading takes, whose
--                      data field is refused so
--     refused-field    and wherever it is
--     cut_line         an accepted line, cut anywhere, is refused with 11 at its length
--     longer-line      and with bits added, with 11 at the first of them
use mathlib.Core.Path.{◌≡◌, refl, sym, ap, ◌∙◌, subst}
use mathlib.Core.List.{List, [], ◌∷◌, ◌++◌}
use mathlib.Core.Logic.{◌≢◌, ◌⊎◌, inl, inr}
use Prim.Native.Nat.{ℕ, ◌≤◌, ◌<◌}
use native.Mathlib.Omega.{arith}
use lib.ListN.{length, take}
use Rattle.std.proofs.Common.{Result, Ok, Err}
use Rattle.bits.specs.Below.{Below}
use Rattle.refusals.specs.declared.Refusal.{Refusal}
use Rattle.refusals.specs.declared.Refusal.TheVariants.{LineLength}
use Rattle.refusals.specs.Among.{Among}
use Rattle.refusals.specs.Table.{number_of, place_of}
use Rattle.refusals.proofs.Among.{among-apart}
use Rattle.decoding.specs.Decode.{decode_answer}
use Rattle.decoding.proofs.FieldParts.{LengthAllowed}
use Rattle.decoding.proofs.DecodeGiven.{decode-numbers}
use Rattle.wire.specs.declared.Identifier.{Identifier}
use Rattle.wire.specs.Identifier.{Allowed}
use Rattle.wire.specs.Line.{frame_line}
use Rattle.reading.specs.Scan.{identifier_in, slot_most, Scanned, whole, stopped, scanned}
use Rattle.reading.specs.declared.Reading.{Reading}
use Rattle.reading.proofs.FirstProblem.{stopped-at}
use Rattle.reading.proofs.Stands.{bit_numbers, OfBits}
use Rattle.reading.proofs.OtherLength.{cut_short, made-longer}
use Rattle.line.specs.Ack.{with_ack}
use Rattle.line.specs.Read.{field_in, with_identifier, decoded, read_answer, framed}
use Rattle.line.proofs.ReadAnswers.{read-stopped}
use Rattle.line.proofs.FrameOf.{field-bytes, bytes_below}
use Rattle.line.proofs.HeaderOf.{identifier-few}
use Rattle.line.proofs.RoundTrip.{read-frame, line-scanned}

-- where the bits are right, what decoding refuses with
from_field : (identifier : Identifier) (a : Result ℕ Refusal) (refusal : Refusal) → with_identifier identifier a ≡ Err refusal → a ≡ Err refusal
from_field identifier (Ok n) refusal e = let z : ◌≡◌ {A = ℕ} 0 1 = cc in absurd (omega arith)
from_field identifier (Err r) refusal e = cc

-- 2, and 4 to 7
abbrev pub field_numbers : List ℕ
field_numbers = 2 ∷ 4 ∷ 5 ∷ 6 ∷ 7 ∷ []

-- of the two kinds a refusal is at most one
one-kind : (r : Refusal) → OfBits r → Among field_numbers (number_of r) → ⊥
one-kind r = among-apart bit_numbers field_numbers (number_of r) tt

-- ---- of one reading

module _ (reading : Reading) where
  -- the line of a frame whose data field decoding refuses so
  abbrev pub FieldRefused : List ℕ → ℕ → Refusal → Type 0
  FieldRefused line room refusal =
      (identifier : Identifier) × (field : List ℕ) × (ack : ℕ) × Allowed identifier × Below 256 field
      × (length field ≢ 1) × (length field ≤ 8) × (ack ≤ slot_most reading.slot) × (line ≡ with_ack ack (frame_line identifier field)) × (decode_answer field room ≡ Err refusal)

  pub refused-field : (line : List ℕ) (room : ℕ) (refusal : Refusal) → FieldRefused line room refusal → read_answer reading line room ≡ Err refusal
  refused-field line room refusal (identifier, field, ack, known, bytes, not-one, few, slot, is, refused) =
      ap (λ (l : List ℕ). read_answer reading l room) is ∙ read-frame reading identifier field ack room known bytes few not-one slot
      ∙ ap (with_identifier identifier) refused

  -- a data field that stands in a line has a length that a field may have
  allowed : (line frame : List ℕ) → scanned reading line ≡ whole frame → LengthAllowed (field_in frame)
  allowed line frame e =
      let right = (line-scanned reading line frame e).0 in
      let bytes = field-bytes right in
      record { not-one = λ one. right.not-one (sym bytes ∙ one); at_most = omega (arith, bytes, right.at_most) }

  module _ (line : List ℕ) (room : ℕ) (refusal : Refusal) (e : read_answer reading line room ≡ Err refusal) where
    decoding : (frame : List ℕ) → decoded (whole frame) room ≡ Err refusal → decode_answer (field_in frame) room ≡ Err refusal
    decoding frame q = from_field (identifier_in frame) (decode_answer (field_in frame) room) refusal q

    numbers : (frame : List ℕ) → scanned reading line ≡ whole frame → decoded (whole frame) room ≡ Err refusal
        → Among field_numbers (number_of refusal)
    numbers frame d q = decode-numbers (field_in frame) room (allowed line frame d) refusal (decoding frame q)

    pub read-numbers : OfBits refusal ⊎ Among field_numbers (number_of refusal)
    unfolding read_answer
    read-numbers = go (scanned reading line) refl e
      where
        go : (s : Scanned) → scanned reading line ≡ s → decoded s room ≡ Err refusal → OfBits refusal ⊎ Among field_numbers (number_of refusal)
        go (stopped met r) d q = let same : r ≡ refusal = cc in inl (subst OfBits same (stopped-at reading line met r d).stands.own)
        go (whole frame) d q = inr (numbers frame d q)

    pub bits-refused : OfBits refusal → (met : ℕ) × (scanned reading line ≡ stopped met refusal)
    unfolding read_answer
    bits-refused own = go (scanned reading line) refl e
      where
        go : (s : Scanned) → scanned reading line ≡ s → decoded s room ≡ Err refusal → (met : ℕ) × (s ≡ stopped met refusal)
        go (stopped met r) d q = (met, cc)
        go (whole frame) d q = absurd (one-kind refusal own (numbers frame d q))

    pub refused-there : OfBits refusal → (number_of refusal ≡ 13 → ⊥) → scanned reading line ≡ stopped (place_of refusal) refusal
    refused-there own other =
        let stop = bits-refused own in
        stop.1 ∙ ap (λ (k : ℕ). stopped k refusal) (sym ((stopped-at reading line stop.0 refusal stop.1).stands.there other))

    pub field-refused : (OfBits refusal → ⊥) → FieldRefused line room refusal
    unfolding read_answer
    field-refused other = go (scanned reading line) refl e
      where
        go : (s : Scanned) → scanned reading line ≡ s → decoded s room ≡ Err refusal → FieldRefused line room refusal
        go (stopped met r) d q =
            let same : r ≡ refusal = cc in
            absurd (other (subst OfBits same (stopped-at reading line met r d).stands.own))
        go (whole frame) d q =
            let scan = line-scanned reading line frame d in
            let may = allowed line frame d in (
              identifier_in frame,
              field_in frame,
              scan.1.0,
              identifier-few scan.0,
              bytes_below scan.0,
              may.not-one,
              may.at_most,
              scan.1.1,
              scan.1.2,
              decoding frame q,
            )

  -- ---- an accepted line

  accepted-whole : (line : List ℕ) (room : ℕ) (identifier : Identifier) (n : ℕ) → read_answer reading line room ≡ framed n identifier
      → (frame : List ℕ) × (scanned reading line ≡ whole frame)
  unfolding read_answer
  accepted-whole line room identifier n e = go (scanned reading line) refl e
    where
      go : (s : Scanned) → scanned reading line ≡ s → decoded s room ≡ framed n identifier → (frame : List ℕ) × (scanned reading line ≡ whole frame)
      go (stopped met r) d q = let z : ◌≡◌ {A = ℕ} 0 1 = cc in absurd (omega arith)
      go (whole frame) d q = (frame, d)

  pub cut_line : (line : List ℕ) (room room' : ℕ) (identifier : Identifier) (n k : ℕ) → read_answer reading line room ≡ framed n identifier → k < length line
      → read_answer reading (take k line) room' ≡ Err (LineLength k)
  cut_line line room room' identifier n k e h =
      let read = accepted-whole line room identifier n e in
      read-stopped reading (take k line) room' k (LineLength k) (cut_short reading line read.0 k read.1 h)

  pub longer-line : (line : List ℕ) (room room' : ℕ) (identifier : Identifier) (n bit : ℕ) (more : List ℕ) → read_answer reading line room ≡ framed n identifier
      → read_answer reading (line ++ (bit ∷ more)) room' ≡ Err (LineLength (length line))
  longer-line line room room' identifier n bit more e =
      let read = accepted-whole line room identifier n e in
      read-stopped reading (line ++ (bit ∷ more)) room' (length line) (LineLength (length line)) (made-longer reading line read.0 bit more read.1)
