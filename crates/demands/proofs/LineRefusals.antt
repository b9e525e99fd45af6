-- Demand 1, reading a line: its bits from the left, and the first problem met is the answer; only then 2 and the data field's 4 to 7. Of
-- every reading, so of both calls: `acknowledged` is that of read_line, `own` that of read_own_line. What is between these is in
-- Acknowledged. Assumes nothing.
--     line-bits        3, 9 to 13 and 20 are given exactly when the verdict on the bit at some place, from the bits to its left, is this
--                      refusal, or the line ends there and is no whole frame, 11; and the verdict on each bit to its left is right
--     line-place       that is the refusal's own place; but a 13 may be met one or two places further on,
--     line-before-ide  and then it is met at IDE, the frame's fourteenth bit, and its place is that of the thirteenth, which is not the same;
--     line-not-ide     at its own place it is met at neither of the two: for IDE itself 13 is never given
--     line-field       2 and 4 to 7 exactly when the line is that of a frame, with a bit in the ACK slot that the reading takes, whose data
--                      field decoding refuses so
--     line-no-other, own-no-other    no other refusals are given by the two calls: not 1, not 8, not 14; and 20 not by the second
--     line_first       cut before the problem, the line is only too short
--     line_stays       nothing to the right of where it is met is looked at
--     line-cut, line-longer    an accepted line, cut or with bits added: 11, place its length or the first bit too many
--     line-decoded     the line of a frame, with a bit in the ACK slot that the reading takes, is answered as decoding its data field
use mathlib.Core.Path.{◌≡◌, refl, ap, ◌∙◌}
use mathlib.Core.Bool.{false}
use mathlib.Core.List.{List, [], ◌∷◌, ◌++◌}
use mathlib.Core.Logic.{◌↔◌, ◌≢◌, ◌⊎◌, inl, inr}
use Prim.Native.Nat.{ℕ, ◌+◌, ◌≤◌, ◌<◌}
use lib.ListN.{length, get_or, take}
use Rattle.std.proofs.Common.{Err}
use Rattle.bits.specs.Below.{Below}
use Rattle.bits.specs.Stuffing.{nothing_sent}
use Rattle.refusals.specs.Among.{Among}
use Rattle.refusals.specs.Table.{number_of, place_of}
use Rattle.refusals.specs.declared.Refusal.{Refusal}
use Rattle.refusals.specs.declared.Refusal.TheVariants.{LineLength, FixedBit, NotAcknowledged}
use Rattle.refusals.proofs.Table.{refusal-only}
use Rattle.refusals.proofs.Among.{among_first, among-last, among-split}
use Rattle.decoding.specs.Decode.{decode_answer}
use Rattle.wire.specs.declared.Identifier.{Identifier}
use Rattle.wire.specs.Identifier.{Allowed}
use Rattle.wire.specs.Line.{frame_line}
use Rattle.reading.specs.Scan.{slot_most, right, wrong, verdict, complete, run_behind, frame_behind, Verdict}
use Rattle.reading.specs.declared.Reading.{Reading}
use Rattle.reading.proofs.BeforeIde.{before-ide}
use Rattle.reading.proofs.FixedBits.{fixed-elsewhere}
use Rattle.reading.proofs.FirstProblem.{stopped-at, stopped-stays}
use Rattle.reading.proofs.Stands.{bit_numbers}
use Rattle.reading.proofs.OtherLength.{cut-before}
use Rattle.reading.proofs.ProblemMet.{problem-met, right-before, problem-stops}
use Rattle.line.specs.Ack.{with_ack}
use Rattle.line.specs.Read.{acknowledged, own, with_identifier, read_answer, framed}
use Rattle.line.proofs.ReadAnswers.{read-stopped}
use Rattle.line.proofs.ReadRefusals.{field_numbers, read-numbers, bits-refused, field-refused, refused-field, cut_line, longer-line}
use Rattle.line.proofs.RoundTrip.{read-frame}
use Rattle.line.proofs.TwoReadings.{own-never-20}

-- 3, 9 to 13, 20
abbrev OfBits : Refusal → Type 0
OfBits refusal = Among (3 ∷ 9 ∷ 10 ∷ 11 ∷ 12 ∷ 13 ∷ 20 ∷ []) (number_of refusal)

module _ (reading : Reading) where
  module _ (line : List ℕ) (room : ℕ) (refusal : Refusal) where
    abbrev place : ℕ
    place = place_of refusal

    -- what is wrong with the bit at a place, from the bits to its left
    abbrev verdict_at : ℕ → Verdict
    verdict_at k = verdict reading (run_behind nothing_sent (take k line)) (frame_behind nothing_sent [] (take k line)) k (get_or line k 0)

    -- the bits of the frame that the line holds
    abbrev frame : List ℕ
    frame = frame_behind nothing_sent [] line

    -- the problem is met there: at one of the line's bits, or at its end
    abbrev MetAt : ℕ → Type 0
    MetAt met =
        (((met < length line) × (verdict_at met ≡ wrong refusal))
        ⊎ ((met ≡ length line) × (refusal ≡ LineLength (length line)) × (complete frame ≡ false)))
        × ((k : ℕ) → k < met → verdict_at k ≡ right)

    pub line-bits : OfBits refusal → (read_answer reading line room ≡ Err refusal ↔ (met : ℕ) × MetAt met)
    line-bits bits = (
      λ refused.
          let stop = bits-refused reading line room refusal refused bits in
          (stop.0, (problem-met reading line stop.0 refusal stop.1, right-before reading line stop.0 refusal stop.1)),
      λ (met, (h, before)). read-stopped reading line room met refusal (problem-stops reading line met refusal h before),
    )

    -- where it is met
    pub line-place : (met : ℕ) → MetAt met → (place ≤ met) × (met ≤ place + 2) × (number_of refusal ≢ 13 → place ≡ met)
    line-place met (h, before) =
        let stands = (stopped-at reading line met refusal (problem-stops reading line met refusal h before)).stands in
        (stands.not_behind, stands.near, stands.there)

    pub line-field : (OfBits refusal → ⊥)
        → (read_answer reading line room ≡ Err refusal
        ↔ (identifier : Identifier) × (field : List ℕ) × (ack : ℕ) × Allowed identifier × Below 256 field × (length field ≢ 1) × (length field ≤ 8)
        × (ack ≤ slot_most reading.slot) × (line ≡ with_ack ack (frame_line identifier field)) × (decode_answer field room ≡ Err refusal))
    line-field other = (λ refused. field-refused reading line room refusal refused other, refused-field reading line room refusal)

    pub line_first : (met : ℕ) → MetAt met → (k room' : ℕ) → k < met → read_answer reading (take k line) room' ≡ Err (LineLength k)
    line_first met (h, before) k room' early =
        read-stopped reading (take k line) room' k (LineLength k)
        (cut-before reading line met refusal k (problem-stops reading line met refusal h before) early)

    pub line_stays : (met : ℕ) → MetAt met → met < length line → (line' : List ℕ) (room' : ℕ) → take (met + 1) line ≡ take (met + 1) line'
        → read_answer reading line' room' ≡ Err refusal
    line_stays met (h, before) inside line' room' same =
        read-stopped reading line' room' met refusal
        (stopped-stays reading line line' met refusal (problem-stops reading line met refusal h before) inside same)

  -- 13, whose place may be another than that where it is met
  module _ (line : List ℕ) (room met : ℕ) where
    -- the frame's bits among the first of a line
    abbrev frame_to : ℕ → List ℕ
    frame_to k = frame_behind nothing_sent [] (take k line)

    pub line-before-ide : (place : ℕ) → MetAt line room (FixedBit place) met → place ≢ met
        → (place < met) × (met < length line) × (length (frame_to place) ≡ 12) × (length (frame_to (place + 1)) ≡ 13)
        × (length (frame_to met) ≡ 13) × (length (frame_to (met + 1)) ≡ 14) × (get_or line place 0 ≢ get_or line met 0)
    line-before-ide place (h, before) elsewhere =
        let found = before-ide reading line met place (problem-stops reading line met (FixedBit place) h before) elsewhere in
        (found.before, found.inside, found.bits-to, found.bits-with, found.ide-to, found.ide-with, found.differs)

    pub line-not-ide : MetAt line room (FixedBit met) met → (length (frame_to met) ≢ 12) × (length (frame_to met) ≢ 13)
    line-not-ide (h, before) =
        let stop = problem-stops reading line met (FixedBit met) h before in
        (λ e. fixed-elsewhere reading line met stop (inl e), λ e. fixed-elsewhere reading line met stop (inr e))

  module _ (line : List ℕ) (room room' : ℕ) (identifier : Identifier) (n : ℕ) (accepted : read_answer reading line room ≡ framed n identifier) where
    pub line-cut : (k : ℕ) → k < length line → read_answer reading (take k line) room' ≡ Err (LineLength k)
    line-cut k = cut_line reading line room room' identifier n k accepted

    pub line-longer : (bit : ℕ) (more : List ℕ) → read_answer reading (line ++ (bit ∷ more)) room' ≡ Err (LineLength (length line))
    line-longer bit more = longer-line reading line room room' identifier n bit more accepted

  pub line-decoded : (identifier : Identifier) (field : List ℕ) (ack room : ℕ) → Allowed identifier → Below 256 field → length field ≤ 8
      → (length field ≡ 1 → ⊥) → ack ≤ slot_most reading.slot
      → read_answer reading (with_ack ack (frame_line identifier field)) room ≡ with_identifier identifier (decode_answer field room)
  line-decoded = read-frame reading

-- ---- no other refusals

module _ (line : List ℕ) (room : ℕ) (refusal : Refusal) where
  pub line-no-other : read_answer acknowledged line room ≡ Err refusal
      → Among (3 ∷ 9 ∷ 10 ∷ 11 ∷ 12 ∷ 13 ∷ 20 ∷ 2 ∷ 4 ∷ 5 ∷ 6 ∷ 7 ∷ []) (number_of refusal)
  line-no-other refused = go (read-numbers acknowledged line room refusal refused)
    where
      go : OfBits refusal ⊎ Among field_numbers (number_of refusal) → Among (bit_numbers ++ field_numbers) (number_of refusal)
      go (inl bits) = among_first bit_numbers field_numbers (number_of refusal) bits
      go (inr field) = among-last bit_numbers field_numbers (number_of refusal) field

  pub own-no-other : read_answer own line room ≡ Err refusal
      → Among (3 ∷ 9 ∷ 10 ∷ 11 ∷ 12 ∷ 13 ∷ 2 ∷ 4 ∷ 5 ∷ 6 ∷ 7 ∷ []) (number_of refusal)
  own-no-other refused = go (read-numbers own line room refusal refused)
    where
      others : List ℕ
      others = 3 ∷ 9 ∷ 10 ∷ 11 ∷ 12 ∷ 13 ∷ []

      twenty : number_of refusal ≡ 20 → ⊥
      twenty is =
          own-never-20 line room (place_of refusal)
          (refused ∙ ap Err (refusal-only refusal (NotAcknowledged (place_of refusal)) is refl))

      bits : Among others (number_of refusal) ⊎ Among (20 ∷ []) (number_of refusal) → Among (others ++ field_numbers) (number_of refusal)
      bits (inl h) = among_first others field_numbers (number_of refusal) h
      bits (inr (inl is)) = absurd (twenty is)
      bits (inr (inr h)) = absurd h

      go : OfBits refusal ⊎ Among field_numbers (number_of refusal) → Among (others ++ field_numbers) (number_of refusal)
      go (inl h) = bits (among-split others (20 ∷ []) (number_of refusal) h)
      go (inr field) = among-last others field_numbers (number_of refusal) field
