-- The two readings of a line, one that takes only a 0 in the ACK slot and one that takes either: they say the same, but for 20. Assumes
-- nothing.
--     verdict-same     of each bit both say the same, or one says 20
--     same_answer      where reading a line from a live bus is not answered with 20, reading it as our own is answered the same
--     not-acknowledged    where it is, the ACK slot is at that place and holds a 1, and every bit to its left is right, for both
--     own-never-20        reading it as our own is never answered with 20
use mathlib.Core.Path.{◌≡◌, refl, sym, ap, ◌∙◌}
use mathlib.Core.Bool.{Bool, true, false, cond, not}
use mathlib.Core.List.{List, [], ◌∷◌, ◌++◌}
use mathlib.Core.Logic.{◌⊎◌, inl, inr}
use Prim.Native.Nat.{ℕ, ◌+◌, ◌<◌}
use native.Mathlib.Omega.{arith}
use lib.Dec.{eqb, ltb}
use lib.ListN.{length, get_or, take}
use borrow.Author.Tests.{ltb-false}
use Rattle.std.proofs.Common.{Err}
use Rattle.bits.specs.declared.Run.{Run}
use Rattle.bits.specs.Stuffing.{nothing_sent}
use Rattle.refusals.specs.declared.Refusal.TheVariants.{FieldLength, LineByte, StuffBit, LineLength, Crc, FixedBit, NotAcknowledged}
use Rattle.reading.specs.Form.{fits}
use Rattle.reading.specs.Scan.{crc_start, complete, stuff_due, must_be, before_ide, Verdict, right, wrong, shown, verdict, run_with, frame_with, run_behind, frame_behind, Scanned, stopped, onward, scan, scanned}
use Rattle.reading.specs.declared.Reading.{Reading}
use Rattle.reading.proofs.Sound.{form_wrong, dlc_wrong, crc_wrong, slot_wrong}
use Rattle.reading.proofs.Stands.{twenty}
use Rattle.reading.proofs.ProblemMet.{problem-met, right-before}
use Rattle.reading.proofs.Twenty.{unheard, either-taken}
use Rattle.line.specs.Read.{acknowledged, own, decoded, read_answer, carried, payload_in}
use Rattle.line.proofs.ReadRefusals.{refused-there}

-- ---- a bit

-- with the bit b behind the frame's bits so far
module _ (run : Run) (frame : List ℕ) (place b : ℕ) where
  abbrev with : List ℕ
  with = frame ++ (b ∷ [])

  abbrev early : ℕ
  early = before_ide (run_with run b) place

  -- whichever way the other tests go
  tests_same : (t a c d e i f g h : Bool) →
      let v : Bool → Verdict = λ s. cond a (wrong (LineLength place)) (cond t (wrong (LineByte place)) (cond c (cond d (wrong (StuffBit place)) right)
      (cond e (wrong (FixedBit place)) (cond i (wrong (FixedBit early)) (cond f (wrong (FieldLength place)) (cond g (wrong (Crc place))
      (cond s (wrong (NotAcknowledged place)) right))))))) in
      (v h ≡ v false) ⊎ (v h ≡ wrong (NotAcknowledged place))
  tests_same t true c d e i f g h = inl refl
  tests_same true false c d e i f g h = inl refl
  tests_same false false true d e i f g h = inl refl
  tests_same false false false d true i f g h = inl refl
  tests_same false false false d false true f g h = inl refl
  tests_same false false false d false false true g h = inl refl
  tests_same false false false d false false false true h = inl refl
  tests_same false false false d false false false false true = inr refl
  tests_same false false false d false false false false false = inl refl

  pub verdict-same : (verdict acknowledged run frame place b ≡ verdict own run frame place b)
      ⊎ (verdict acknowledged run frame place b ≡ wrong (NotAcknowledged place))
  unfolding verdict shown
  verdict-same = byte (ltb 1 b) refl
    where
      tests : (t h : Bool) →
          let v : Bool → Verdict = λ s. cond (complete frame) (wrong (LineLength place)) (cond t (wrong (LineByte place))
          (cond (stuff_due run frame) (cond (eqb b run.bit) (wrong (StuffBit place)) right)
          (cond (not (fits (must_be frame) b)) (wrong (FixedBit place)) (cond (form_wrong with) (wrong (FixedBit early))
          (cond (dlc_wrong with) (wrong (FieldLength place)) (cond (crc_wrong with) (wrong (Crc place))
          (cond s (wrong (NotAcknowledged place)) right))))))) in
          (v h ≡ v false) ⊎ (v h ≡ wrong (NotAcknowledged place))
      tests t h =
          tests_same t (complete frame) (stuff_due run frame) (eqb b run.bit) (not (fits (must_be frame) b)) (form_wrong with) (dlc_wrong with)
          (crc_wrong with) h

      byte : (t : Bool) → ltb 1 b ≡ t
          → (verdict acknowledged run frame place b ≡ verdict own run frame place b)
          ⊎ (verdict acknowledged run frame place b ≡ wrong (NotAcknowledged place))
      byte true d = inl (rw d refl)
      byte false d = rw (either-taken run frame place b own refl (ltb-false 1 b d)) (tests (ltb 1 b) (slot_wrong acknowledged with))

-- ---- a line

-- both scans say the same, or the first stops with 20
Same : Run → List ℕ → ℕ → List ℕ → Type 0
Same run frame place line =
    (scan acknowledged run frame place line ≡ scan own run frame place line)
    ⊎ ((m : ℕ) × (p : ℕ) × (scan acknowledged run frame place line ≡ stopped m (NotAcknowledged p)))

scan-same : (run : Run) (frame : List ℕ) (place : ℕ) (line : List ℕ) → Same run frame place line
unfolding Same scan
scan-same run frame place [] = inl refl
scan-same run frame place (bit ∷ line) =
    bits (verdict-same run frame place bit) (scan-same (run_with run bit) (frame_with run frame bit) (place + 1) line)
  where
    next : Reading → Scanned
    next reading = scan reading (run_with run bit) (frame_with run frame bit) (place + 1) line

    on : (v : Verdict) → (next acknowledged ≡ next own) ⊎ ((m : ℕ) × (p : ℕ) × (next acknowledged ≡ stopped m (NotAcknowledged p)))
        → (onward place v (next acknowledged) ≡ onward place v (next own)) ⊎ ((m : ℕ) × (p : ℕ) × (onward place v (next acknowledged) ≡ stopped m (NotAcknowledged p)))
    on right later = later
    on (wrong refusal) later = inl refl

    bits : (verdict acknowledged run frame place bit ≡ verdict own run frame place bit)
        ⊎ (verdict acknowledged run frame place bit ≡ wrong (NotAcknowledged place))
        → (next acknowledged ≡ next own) ⊎ ((m : ℕ) × (p : ℕ) × (next acknowledged ≡ stopped m (NotAcknowledged p)))
        → (onward place (verdict acknowledged run frame place bit) (next acknowledged) ≡ onward place (verdict own run frame place bit) (next own))
        ⊎ ((m : ℕ) × (p : ℕ) × (onward place (verdict acknowledged run frame place bit) (next acknowledged) ≡ stopped m (NotAcknowledged p)))
    bits (inl e) later = rw e (on (verdict own run frame place bit) later)
    bits (inr e) later = inr (place, place, rw e refl)

pub same_answer : (line : List ℕ) (room : ℕ) → ((p : ℕ) → read_answer acknowledged line room ≡ Err (NotAcknowledged p) → ⊥)
    → (read_answer own line room ≡ read_answer acknowledged line room) × (payload_in own line ≡ payload_in acknowledged line)
unfolding read_answer payload_in scanned Same
same_answer line room heard = go (scan-same nothing_sent [] 0 line)
  where
    go : Same nothing_sent [] 0 line
        → (read_answer own line room ≡ read_answer acknowledged line room) × (payload_in own line ≡ payload_in acknowledged line)
    go (inl e) = (ap (λ (s : Scanned). decoded s room) (sym e), ap carried (sym e))
    go (inr (m, p, e)) = absurd (heard p (ap (λ (s : Scanned). decoded s room) e))

-- what is known at a place of the line
module _ (line : List ℕ) (k : ℕ) where
  abbrev run_to : Run
  run_to = run_behind nothing_sent (take k line)

  abbrev frame_to : List ℕ
  frame_to = frame_behind nothing_sent [] (take k line)

  abbrev verdict_at : Reading → Verdict
  verdict_at reading = verdict reading run_to frame_to k (get_or line k 0)

pub not-acknowledged : (line : List ℕ) (room p : ℕ) → read_answer acknowledged line room ≡ Err (NotAcknowledged p) →
    (p < length line) × (get_or line p 0 ≡ 1) × (length (frame_to line p) ≡ crc_start (frame_to line p) + 16)
    × ((k : ℕ) → k < p → verdict_at line k own ≡ right)
not-acknowledged line room p e = go (problem-met acknowledged line p (NotAcknowledged p) stop)
  where
    stop : scanned acknowledged line ≡ stopped p (NotAcknowledged p)
    stop = refused-there acknowledged line room (NotAcknowledged p) e (twenty p) (λ n. omega (arith, n))

    left : (k : ℕ) → k < p → verdict_at line k own ≡ right
    left k h = bit (verdict-same (run_to line k) (frame_to line k) k (get_or line k 0)) (right-before acknowledged line p (NotAcknowledged p) stop k h)
      where
        bit : {v w : Verdict} → (v ≡ w) ⊎ (v ≡ wrong (NotAcknowledged k)) → v ≡ right → w ≡ right
        bit (inl same) is = sym same ∙ is
        bit (inr refused) is = let z : ◌≡◌ {A = ℕ} 0 1 = cc in absurd (omega arith)

    go : ((p < length line) × (verdict_at line p acknowledged ≡ wrong (NotAcknowledged p)))
        ⊎ ((p ≡ length line) × (NotAcknowledged p ≡ LineLength (length line)) × (complete (frame_behind nothing_sent [] line) ≡ false))
        → (p < length line) × (get_or line p 0 ≡ 1) × (length (frame_to line p) ≡ crc_start (frame_to line p) + 16)
        × ((k : ℕ) → k < p → verdict_at line k own ≡ right)
    go (inl (inside, met)) =
        let told = unheard (run_to line p) (frame_to line p) p (get_or line p 0) p acknowledged met in
        (inside, told.1, told.3, left)
    go (inr (at-end, end, more)) = let z : ◌≡◌ {A = ℕ} 0 1 = cc in absurd (omega arith)

pub own-never-20 : (line : List ℕ) (room p : ℕ) → read_answer own line room ≡ Err (NotAcknowledged p) → ⊥
own-never-20 line room p e =
    go (problem-met own line p (NotAcknowledged p) (refused-there own line room (NotAcknowledged p) e (twenty p) (λ n. omega (arith, n))))
  where
    go : ((p < length line) × (verdict_at line p own ≡ wrong (NotAcknowledged p)))
        ⊎ ((p ≡ length line) × (NotAcknowledged p ≡ LineLength (length line)) × (complete (frame_behind nothing_sent [] line) ≡ false)) → ⊥
    go (inl (inside, met)) = let told = unheard (run_to line p) (frame_to line p) p (get_or line p 0) p own met in omega (arith, told.2)
    go (inr (at-end, end, more)) = let z : ◌≡◌ {A = ℕ} 0 1 = cc in omega arith
