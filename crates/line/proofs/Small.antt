-- How large a length or place reading a line answers. Between two of a frame's bits stands at most one stuff bit, and a frame has at
-- most 128 bits: no place is above 256, however long the line. Assumes nothing.
--     read_small    at most 256; and an identifier is a word of 32 bits
--     read-free     whose number leaves bit 31 to its form
use mathlib.Core.Path.{◌≡◌, refl, ap, ◌∙◌}
use mathlib.Core.Bool.{Bool, true, false, cond, ◌&&◌}
use mathlib.Core.List.{List, [], ◌∷◌, ◌++◌}
use mathlib.Core.Logic.{◌⊎◌, inl, inr}
use Prim.Native.Nat.{ℕ, ◌+◌, ◌*◌, ◌^◌, ◌≤◌, ◌<◌}
use native.Mathlib.Omega.{arith}
use lib.Dec.{eqb, ltb}
use lib.ListN.{length, length-append}
use borrow.Author.Tests.{eqb-true, eqb-false, ltb-true, ltb-false, ne_eqb}
use Rattle.std.proofs.Common.{Result, Ok, Err}
use Rattle.bits.specs.declared.Run.{Run}
use Rattle.bits.specs.Stuffing.{nothing_sent}
use Rattle.refusals.specs.declared.Refusal.{Refusal}
use Rattle.refusals.specs.declared.Refusal.TheVariants.{LineLength}
use Rattle.refusals.specs.Table.{place_of, answer_numbers}
use Rattle.refusals.proofs.Table.{high-none}
use Rattle.decoding.specs.Decode.{decode_answer}
use Rattle.decoding.proofs.Small.{decode-small}
use Rattle.wire.specs.declared.Identifier.{Identifier}
use Rattle.wire.proofs.Identifiers.{allowed-small, for-c-small}
use Rattle.reading.specs.Scan.{long_in, header_width, data_start, identifier_in, dlc_in, crc_start, complete, stuff_due, Verdict, right, wrong, verdict, run_with, frame_with, Scanned, whole, stopped, onward, scan, scanned}
use Rattle.reading.specs.declared.Reading.{Reading}
use Rattle.reading.proofs.Verdicts.{taken-dlc}
use Rattle.reading.proofs.Partial.{width-least, width-most, long-stays, data-stays, dlc-stays}
use Rattle.reading.proofs.Sound.{Next, bit-right, stuff-right}
use Rattle.reading.proofs.FirstProblem.{never, stopped-only}
use Rattle.reading.proofs.Stands.{At, verdict-at}
use Rattle.line.specs.Read.{field_in, with_identifier, decoded, read_answer, line_numbers}
use Rattle.line.specs.declared.Frame.{Frame}
use Rattle.line.proofs.ReadAnswers.{Bit31Free}
use Rattle.line.proofs.RoundTrip.{accepted-is-coded}

-- the frame's bits so far are no more than a frame has
abbrev Few : List ℕ → Type 0
Few frame = (length frame < data_start frame) ⊎ ((dlc_in frame ≤ 8) × (length frame ≤ crc_start frame + 25))

few-most : (frame : List ℕ) → Few frame → length frame ≤ 128
unfolding crc_start
few-most frame (inl h) = omega (arith, h, width-most (long_in frame))
few-most frame (inr h) = omega (arith, h.0, h.1, width-most (long_in frame))

few-next : (reading : Reading) (frame : List ℕ) (bit : ℕ) → Few frame → Next reading frame bit → Few (frame ++ (bit ∷ []))
unfolding crc_start complete
few-next reading frame bit few next = first (ltb (length with) (data_start with)) refl
  where
    with : List ℕ
    with = frame ++ (bit ∷ [])

    more : length with ≡ length frame + 1
    more = length-append frame (bit ∷ [])

    known : data_start frame ≤ length frame → Few frame → Few with
    known long (inl h) = absurd (omega (arith, long, h))
    known long (inr h) =
        let same = dlc-stays frame (bit ∷ []) long in
        let width = data-stays frame (bit ∷ []) long in
        let begun = eqb-false (length frame) (crc_start frame + 25) next.more in
        inr (omega (arith, same, h.0), omega (arith, same, width, more, h.1, begun))

    behind : data_start with ≤ length frame → Few with
    behind long =
        let form = long-stays frame (bit ∷ []) (omega (arith, long, width-least (long_in with))) in
        known (omega (arith, long, ap header_width form)) few

    second : (t : Bool) → eqb (length with) (data_start with) ≡ t → data_start with ≤ length with → Few with
    second true e long = inr ((taken-dlc with (rw e at next.dlc)).1, omega (arith, eqb-true (length with) (data_start with) e))
    second false e long = behind (omega (arith, eqb-false (length with) (data_start with) e, long, more))

    first : (t : Bool) → ltb (length with) (data_start with) ≡ t → Few with
    first true e = inl (ltb-true (length with) (data_start with) e)
    first false e = second (eqb (length with) (data_start with)) refl (ltb-false (length with) (data_start with) e)

-- each bit of the frame takes two places at most, and one where a stuff bit may follow
record Near (run : Run) (frame : List ℕ) (place : ℕ) : Type 0 where
  near : place ≤ 2 * length frame
  nearer : run.count ≡ 5 → place < 2 * length frame

-- behind a bit that is right both hold again
module _ (reading : Reading) (run : Run) (frame : List ℕ) (place bit : ℕ) (few : Few frame) (close : Near run frame place)
    (e : verdict reading run frame place bit ≡ right) where
  behind-few : Few (frame_with run frame bit)
  unfolding frame_with
  behind-few = go (stuff_due run frame) refl
    where
      go : (t : Bool) → stuff_due run frame ≡ t → Few (cond t frame (frame ++ (bit ∷ [])))
      go true d = few
      go false d = few-next reading frame bit few (bit-right reading run frame place bit d e)

  behind-near : Near (run_with run bit) (frame_with run frame bit) (place + 1)
  unfolding frame_with run_with stuff_due
  behind-near = go (stuff_due run frame) refl
    where
      due-five : (s t : Bool) → (s && t) ≡ true → s ≡ true
      due-five true t d = refl
      due-five false t d = d

      go : (t : Bool) → stuff_due run frame ≡ t → Near (run_with run bit) (cond t frame (frame ++ (bit ∷ []))) (place + 1)
      go true d =
          let five = eqb-true run.count 5 (due-five (eqb run.count 5) _ d) in
          let other = ne_eqb bit run.bit (stuff-right reading run frame place bit d e).1 in
          let step = close.nearer five in
          record { near = omega (arith, step); nearer = λ h. let one : ◌≡◌ {A = ℕ} 1 5 = rw other at h in absurd (omega arith) }
      go false d = let more = length-append frame (bit ∷ []) in record { near = omega (arith, more, close.near); nearer = λ h. omega (arith, more, close.near) }

stop-few : (reading : Reading) (run : Run) (frame : List ℕ) (place : ℕ) (line : List ℕ) (met : ℕ) (refusal : Refusal) → Few frame → Near run frame place
    → scan reading run frame place line ≡ stopped met refusal → place_of refusal ≤ 256
unfolding scan
stop-few reading run frame place [] met refusal few close e = go (complete frame) e
  where
    go : (t : Bool) → cond t (whole frame) (stopped place (LineLength place)) ≡ stopped met refusal → place_of refusal ≤ 256
    go true d = never d
    go false d = omega (arith, ap place_of (stopped-only d).1, few-most frame few, close.near)
stop-few reading run frame place (bit ∷ line) met refusal few close e =
    go (verdict reading run frame place bit) refl (verdict-at reading run frame place bit) e
    (stop-few reading (run_with run bit) (frame_with run frame bit) (place + 1) line met refusal)
  where
    next : Scanned
    next = scan reading (run_with run bit) (frame_with run frame bit) (place + 1) line

    go : (v : Verdict) → verdict reading run frame place bit ≡ v → At place v → onward place v next ≡ stopped met refusal
        → (Few (frame_with run frame bit) → Near (run_with run bit) (frame_with run frame bit) (place + 1) → next ≡ stopped met refusal
        → place_of refusal ≤ 256)
        → place_of refusal ≤ 256
    go right d at q later =
        later (behind-few reading run frame place bit few close d) (behind-near reading run frame place bit few close d) q
    go (wrong r) d at q later = omega (arith, ap place_of (stopped-only q).1, at.not_behind, few-most frame few, close.near)

-- out of the data field
field-few : (identifier : Identifier) (a : Result ℕ Refusal) (refusal : Refusal) → (answer_numbers a).low < 8 → with_identifier identifier a ≡ Err refusal
    → place_of refusal ≤ 256
field-few identifier (Ok n) refusal small e = let z : ◌≡◌ {A = ℕ} 0 1 = cc in absurd (omega arith)
field-few identifier (Err r) refusal small e =
    let same : r ≡ refusal = cc in
    omega (arith, ap place_of same, small)

place-few : (reading : Reading) (line : List ℕ) (room : ℕ) (refusal : Refusal) → read_answer reading line room ≡ Err refusal → place_of refusal ≤ 256
unfolding read_answer scanned
place-few reading line room refusal e = go (scanned reading line) refl e
  where
    go : (s : Scanned) → scanned reading line ≡ s → decoded s room ≡ Err refusal → place_of refusal ≤ 256
    go (stopped met r) d q =
        let same : r ≡ refusal = cc in
        let start : Near nothing_sent [] 0 = record { near = omega arith; nearer = λ h. absurd (omega arith) } in
        stop-few reading nothing_sent [] 0 line met refusal (inl (omega (arith, width-least (long_in [])))) start (d ∙ ap (stopped met) same)
    go (whole frame) d q = field-few (identifier_in frame) (decode_answer (field_in frame) room) refusal (decode-small (field_in frame) room) q

pub read_small : (reading : Reading) (line : List ℕ) (room : ℕ) →
    let numbers = line_numbers (read_answer reading line room) in
    (numbers.low < 257) × (numbers.high < 2 ^ 32)
read_small reading line room = go (read_answer reading line room) refl
  where
    go : (l : Result Frame Refusal) → read_answer reading line room ≡ l → ((line_numbers l).low < 257) × ((line_numbers l).high < 2 ^ 32)
    go (Ok f) e =
        let coded = accepted-is-coded reading line room f.identifier f.length e in
        (omega (arith, coded.short), for-c-small f.identifier coded.known)
    go (Err refusal) e = (omega (arith, place-few reading line room refusal e), omega (arith, high-none refusal))

pub read-free : (reading : Reading) (line : List ℕ) (room : ℕ) → Bit31Free (read_answer reading line room)
read-free reading line room = go (read_answer reading line room) refl
  where
    go : (l : Result Frame Refusal) → read_answer reading line room ≡ l → Bit31Free l
    go (Ok f) e = allowed-small f.identifier (accepted-is-coded reading line room f.identifier f.length e).known
    go (Err refusal) e = tt
