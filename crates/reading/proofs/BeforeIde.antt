-- The one refusal that does not stand where it is met: 13 at the bit before IDE, RTR or SRR, met at IDE. Assumes nothing.
--     run_step, frame_step    what is known behind a bit, from what is known before it
--     before-ide     the place that is told is that of the frame's bit before IDE, whether or not a stuff bit stands between the two
use mathlib.Core.Path.{◌≡◌, refl, sym, ap, ◌∙◌}
use mathlib.Core.Bool.{Bool, true, false, ◌&&◌}
use mathlib.Core.List.{List, [], ◌∷◌, ◌++◌}
use mathlib.Core.Logic.{◌⊎◌, inl, inr}
use Prim.Native.Nat.{ℕ, zero, suc, ◌+◌, ◌-◌, ◌≤◌, ◌<◌}
use native.Mathlib.Omega.{arith}
use lib.Dec.{eqb}
use lib.ListN.{length, get_or, take, length-append}
use lib.Seq.{take-suc, get_or_at}
use borrow.Author.Tests.{eqb-true, eq-eqb, ne_eqb}
use Rattle.bits.specs.declared.Run.{Run}
use Rattle.bits.specs.Stuffing.{nothing_sent}
use Rattle.refusals.specs.declared.Refusal.TheVariants.{LineLength, FixedBit}
use Rattle.reading.specs.Scan.{complete, stuff_due, before_ide, right, wrong, verdict, run_with, frame_with, run_behind, frame_behind, stopped, scanned}
use Rattle.reading.specs.declared.Reading.{Reading}
use Rattle.reading.proofs.Sound.{bit-right, stuff-right}
use Rattle.reading.proofs.Thirteen.{Ide, Thirteen, at-bit, at-ide, verdict-13}
use Rattle.reading.proofs.ProblemMet.{problem-met, right-before}

run-last : (run : Run) (l : List ℕ) (b : ℕ) → run_behind run (l ++ (b ∷ [])) ≡ run_with (run_behind run l) b
unfolding run_behind
run-last run [] b = refl
run-last run (x ∷ l) b = run-last (run_with run x) l b

frame-last : (run : Run) (frame l : List ℕ) (b : ℕ) → frame_behind run frame (l ++ (b ∷ [])) ≡ frame_with (run_behind run l) (frame_behind run frame l) b
unfolding run_behind frame_behind
frame-last run frame [] b = refl
frame-last run frame (x ∷ l) b = frame-last (run_with run x) (frame_with run frame x) l b

module _ (line : List ℕ) where
  abbrev pub run_to : ℕ → Run
  run_to k = run_behind nothing_sent (take k line)

  abbrev pub frame_to : ℕ → List ℕ
  frame_to k = frame_behind nothing_sent [] (take k line)

  run_step : (k : ℕ) → k < length line → run_to (suc k) ≡ run_with (run_to k) (get_or line k 0)
  run_step k h = ap (run_behind nothing_sent) (take-suc line k 0 h) ∙ run-last nothing_sent (take k line) (get_or line k 0)

  frame_step : (k : ℕ) → k < length line → frame_to (suc k) ≡ frame_with (run_to k) (frame_to k) (get_or line k 0)
  frame_step k h = ap (frame_behind nothing_sent []) (take-suc line k 0 h) ∙ frame-last nothing_sent [] (take k line) (get_or line k 0)

-- ---- and so where that bit stands

early-one : (run : Run) (b place : ℕ) → (b ≡ run.bit → ⊥) → before_ide (run_with run b) place ≡ place - 1
unfolding run_with
early-one run b place n = simp (ne_eqb b run.bit n)

early-two : (run : Run) (b place : ℕ) → b ≡ run.bit → run.count ≡ 1 → before_ide (run_with run b) place ≡ place - 2
unfolding run_with
early-two run b place e one = simp (eq-eqb b run.bit e, one)

-- IDE is read where 13 is met, the frame's bit before it at this place, and they are not the same
pub record BitBeforeIde (line : List ℕ) (met p : ℕ) : Type 0 where
  pub inside : met < length line
  pub before : p < met
  pub bits-to : length (frame_to line p) ≡ 12
  pub bits-with : length (frame_to line (p + 1)) ≡ 13
  pub ide-to : length (frame_to line met) ≡ 13
  pub ide-with : length (frame_to line (met + 1)) ≡ 14
  pub differs : get_or line p 0 ≡ get_or line met 0 → ⊥

module _ (reading : Reading) (line : List ℕ) where
  abbrev bit_at : ℕ → ℕ
  bit_at k = get_or line k 0

  abbrev due_at : ℕ → Bool
  due_at k = stuff_due (run_to line k) (frame_to line k)

  module _ (k : ℕ) (h : k < length line) where
    bit-next : due_at k ≡ false → frame_to line (suc k) ≡ frame_to line k ++ (bit_at k ∷ [])
    unfolding frame_with
    bit-next due = frame_step line k h ∙ rw due

    stuff-next : due_at k ≡ true → frame_to line (suc k) ≡ frame_to line k
    unfolding frame_with
    stuff-next due = frame_step line k h ∙ rw due

    run-bit : (run_to line (suc k)).bit ≡ bit_at k
    unfolding run_with
    run-bit = ap (λ (r : Run). r.bit) (run_step line k h)

    run-anew : (bit_at k ≡ (run_to line k).bit → ⊥) → (run_to line (suc k)).count ≡ 1
    unfolding run_with
    run-anew n = ap (λ (r : Run). r.count) (run_step line k h) ∙ simp (ne_eqb (bit_at k) (run_to line k).bit n)

  -- the frame's bit before IDE is the one at k, and the place that is told is this
  module _ (met p k : ℕ) (inside : met < length line) (before : k < met)
      (ide : Ide (run_to line met) (frame_to line met) met (bit_at met) p)
      (due : due_at k ≡ false) (same : frame_to line met ≡ frame_to line (suc k)) where
    twelve : length (frame_to line k) ≡ 12
    twelve =
        omega (
          arith,
          ide.thirteen,
          ap length (same ∙ bit-next k (omega (arith, before, inside)) due),
          length-append (frame_to line k) (bit_at k ∷ []),
        )

    other-bit : bit_at k ≡ bit_at met → ⊥
    other-bit e =
        ide.differs
        (ap (λ (l : List ℕ). get_or l 12 0) (same ∙ bit-next k (omega (arith, before, inside)) due)
        ∙ get_or_at (frame_to line k) (bit_at k) [] 0 12 twelve ∙ e)

    placed : k ≡ p → BitBeforeIde line met p
    placed is =
        let one : suc k ≡ p + 1 = omega (arith, is) in
        let next : suc met ≡ met + 1 = omega arith in
        record {
          inside = inside;
          before = omega (arith, is, before);
          bits-to = ap (λ (i : ℕ). length (frame_to line i)) (sym is) ∙ twelve;
          bits-with = ap (λ (i : ℕ). length (frame_to line i)) (sym one) ∙ ap length (sym same) ∙ ide.thirteen;
          ide-to = ide.thirteen;
          ide-with =
              ap (λ (i : ℕ). length (frame_to line i)) (sym next) ∙ ap length (bit-next met inside ide.none-due)
              ∙ omega (arith, length-append (frame_to line met) (bit_at met ∷ []), ide.thirteen);
          differs = λ e. other-bit (ap bit_at is ∙ e);
        }

  due-five : (k : ℕ) → due_at k ≡ true → (run_to line k).count ≡ 5
  unfolding stuff_due
  due-five k due = eqb-true (run_to line k).count 5 (both (eqb (run_to line k).count 5) _ due)
    where
      both : (s t : Bool) → (s && t) ≡ true → s ≡ true
      both true t d = refl
      both false t d = d

  module _ (p : ℕ) where
    abbrev RightAt : ℕ → Type 0
    RightAt k = verdict reading (run_to line k) (frame_to line k) k (bit_at k) ≡ right

    -- IDE behind a bit of the frame
    one-back : (k : ℕ) → suc k < length line → Ide (run_to line (suc k)) (frame_to line (suc k)) (suc k) (bit_at (suc k)) p → due_at k ≡ false
        → BitBeforeIde line (suc k) p
    one-back k inside ide due =
        let differs = other-bit (suc k) p k inside (omega arith) ide due refl in
        let run = run-bit k (omega (arith, inside)) in
        let early = early-one (run_to line (suc k)) (bit_at (suc k)) (suc k) (λ e. differs (sym (e ∙ run))) in
        placed (suc k) p k inside (omega arith) ide due refl (omega (arith, early, ide.told))

    -- IDE behind a stuff bit
    two_back : (k : ℕ) → suc (suc k) < length line → Ide (run_to line (suc (suc k))) (frame_to line (suc (suc k))) (suc (suc k)) (bit_at (suc (suc k))) p
        → RightAt k → RightAt (suc k) → due_at (suc k) ≡ true → BitBeforeIde line (suc (suc k)) p
    two_back k inside ide first second due = go (due_at k) refl
      where
        here : k < length line
        here = omega (arith, inside)

        next : suc k < length line
        next = omega (arith, inside)

        go : (t : Bool) → due_at k ≡ t → BitBeforeIde line (suc (suc k)) p
        go true d =
            let anew = run-anew k here (stuff-right reading (run_to line k) (frame_to line k) k (bit_at k) d first).1 in
            absurd (omega (arith, anew, due-five (suc k) due))
        go false d =
            let same = stuff-next (suc k) next due in
            let differs = other-bit (suc (suc k)) p k inside (omega arith) ide d same in
            let low = (bit-right reading (run_to line k) (frame_to line k) k (bit_at k) d first).below in
            let stuff = stuff-right reading (run_to line (suc k)) (frame_to line (suc k)) (suc k) (bit_at (suc k)) due second in
            let apart : bit_at (suc k) ≡ bit_at k → ⊥ = λ e. stuff.1 (e ∙ sym (run-bit k here)) in
            let is : bit_at (suc (suc k)) ≡ bit_at (suc k) = binary (bit_at k) (bit_at (suc k)) (bit_at (suc (suc k))) low stuff.0 ide.bit apart differs in
            let early = early-two (run_to line (suc (suc k))) (bit_at (suc (suc k))) (suc (suc k)) (is ∙ sym (run-bit (suc k) next)) (run-anew (suc k) next stuff.1) in
            placed (suc (suc k)) p k inside (omega arith) ide d same (omega (arith, early, ide.told))
          where
            binary : (x y z : ℕ) → x < 2 → y < 2 → z ≤ 1 → (y ≡ x → ⊥) → (x ≡ z → ⊥) → z ≡ y
            binary x y z hx hy hz n m = omega arith

    back : (met : ℕ) → met < length line → Ide (run_to line met) (frame_to line met) met (bit_at met) p → ((k : ℕ) → k < met → RightAt k) → BitBeforeIde line met p
    unfolding run_behind frame_behind stuff_due
    back zero inside ide before = absurd (omega (arith, ide.thirteen))
    back (suc zero) inside ide before = one-back 0 inside ide refl
    back (suc (suc k)) inside ide before = go (due_at (suc k)) refl
      where
        go : (t : Bool) → due_at (suc k) ≡ t → BitBeforeIde line (suc (suc k)) p
        go true due = two_back k inside ide (before k (omega arith)) (before (suc k) (omega arith)) due
        go false due = one-back (suc k) inside ide due

  pub before-ide : (met p : ℕ) → scanned reading line ≡ stopped met (FixedBit p) → (p ≡ met → ⊥) → BitBeforeIde line met p
  before-ide met p e elsewhere = start (problem-met reading line met (FixedBit p) e)
    where
      read : met < length line → Thirteen (run_to line met) (frame_to line met) met (bit_at met) p → BitBeforeIde line met p
      read inside (at-bit here d) = absurd (elsewhere here)
      read inside (at-ide i) = back p met inside i (right-before reading line met (FixedBit p) e)

      start : ((met < length line) × (verdict reading (run_to line met) (frame_to line met) met (bit_at met) ≡ wrong (FixedBit p)))
          ⊎ ((met ≡ length line) × (FixedBit p ≡ LineLength (length line)) × (complete (frame_behind nothing_sent [] line) ≡ false))
          → BitBeforeIde line met p
      start (inl (inside, v)) =
          read inside (verdict-13 reading (run_to line met) (frame_to line met) met (bit_at met) p v)
      start (inr (at-end, end, more)) = let z : ◌≡◌ {A = ℕ} 0 1 = cc in absurd (omega arith)
