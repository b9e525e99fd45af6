-- What is reported is what is on the wire. Assumes nothing.
--     length-accepted, make-accepted, bounds-accepted    what an answer that is no refusal tells
--     length-is-made    the reported length is that of the line that is made
--     line-is-made      that line is as long as the answer says and stands at the start of the buffer
--     bounds-hold       a frame of the size has at least and at most the bits that the bounds say
use mathlib.Core.Path.{◌≡◌, sym, ap, ◌∙◌, subst}
use mathlib.Core.List.{List}
use Prim.Native.Nat.{ℕ, ◌+◌, ◌*◌, ◌≤◌}
use native.Mathlib.Omega.{arith}
use lib.ListN.{length, take}
use Rattle.std.proofs.Common.{Result, Ok}
use Rattle.bits.specs.Below.{Below}
use Rattle.refusals.specs.declared.Refusal.{Refusal}
use Rattle.refusals.specs.After.{after}
use Rattle.refusals.specs.Table.{given, answer_numbers}
use Rattle.refusals.proofs.After.{accepted-result}
use Rattle.field.specs.Sizes.{field_bytes}
use Rattle.wire.specs.declared.Identifier.{Identifier}
use Rattle.wire.specs.Identifier.{Allowed, room_for}
use Rattle.wire.specs.Header.{header}
use Rattle.wire.specs.StuffBits.{header_stuff_bits}
use Rattle.wire.specs.Answers.{payload_line, length_answer, make_answer, bounds_answer, between}
use Rattle.wire.proofs.Demand3.{frame-between}
use Rattle.wire.proofs.FrameAnswers.{LengthAnswered, length-given, Made, make-given}
use Rattle.wire.proofs.BoundsAnswers.{Bounded, bounds-given}

module _ (identifier : Identifier) (payload : List ℕ) where
  -- identifier and payload are allowed, and the length is that of the line
  pub record OfLine (k : ℕ) : Type 0 where
    pub allowed : Allowed identifier
    pub short : length payload ≤ 7
    pub length-is : k ≡ length (payload_line identifier payload)

  pub length-accepted : (k : ℕ) → length_answer identifier payload ≡ Ok k → OfLine k
  length-accepted k e =
      let h = subst (LengthAnswered identifier payload) e (length-given identifier payload) in
      record { allowed = h.0; short = h.1; length-is = h.2 }

  pub make-accepted : (room k : ℕ) → make_answer identifier payload room ≡ Ok k → OfLine k × (room_for identifier ≤ room)
  make-accepted room k e =
      let h = subst (Made identifier payload room) e (make-given identifier payload room) in
      (record { allowed = h.0; short = h.1; length-is = h.3 }, h.2)

  pub length-is-made : (room k m : ℕ) → length_answer identifier payload ≡ Ok k → make_answer identifier payload room ≡ Ok m → k ≡ m
  length-is-made room k m reported made = (length-accepted k reported).length-is ∙ sym (make-accepted room m made).0.length-is

  pub line-is-made : (old : List ℕ) (m : ℕ) → make_answer identifier payload (length old) ≡ Ok m
      → (m ≡ length (payload_line identifier payload))
      × (take m (after (answer_numbers (make_answer identifier payload (length old))) (payload_line identifier payload) old) ≡ payload_line identifier payload)
  line-is-made old m made =
      let line = payload_line identifier payload in
      let long = (make-accepted (length old) m made).0.length-is in (
        long,
        ap (λ (a : Result ℕ Refusal). take m (after (answer_numbers a) line old)) made
            ∙ ap (λ (n : ℕ). take n (after (given m 0) line old)) long
            ∙ accepted-result line old m 0,
      )

-- the two bounds, where there is no refusal
pub bounds-accepted : (identifier : Identifier) (size least most : ℕ) → bounds_answer identifier size ≡ between least most →
    let n = field_bytes size in
    let beside = length (header identifier n) + 25 in
    let h = header_stuff_bits identifier n in
    (least ≡ beside + 8 * n + h) × (most ≡ beside + 4 + 8 * n + h)
bounds-accepted identifier size least most e =
    let h = subst (Bounded identifier size) e (bounds-given identifier size) in
    (h.2, h.3)

pub bounds-hold : (identifier : Identifier) (payload : List ℕ) (least most k : ℕ) → Below 256 payload
    → bounds_answer identifier (length payload) ≡ between least most → length_answer identifier payload ≡ Ok k
    → (least ≤ k) × (k ≤ most)
bounds-hold identifier payload least most k bytes bounded reported =
    let line = length-accepted identifier payload k reported in
    let formula = bounds-accepted identifier (length payload) least most bounded in
    let between = frame-between identifier payload bytes line.short in
    (omega (arith, line.length-is, formula.0, between.0), omega (arith, line.length-is, formula.1, between.1))
