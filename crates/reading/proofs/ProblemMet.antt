-- What the first problem is: the verdict on the bit where it is met, from what is known there; or the line ends before the frame does.
-- Assumes nothing.
--     Met, problem-met    of a line that is refused for its bits
--     RightBefore, right-before    the verdict on each bit to the left of the place where it is met is right
--     problem-stops   where both hold, the line is refused so
use mathlib.Core.Path.{◌≡◌, refl, sym, ap, ap₂, ◌∙◌}
use mathlib.Core.Bool.{Bool, true, false, cond}
use mathlib.Core.List.{List, [], ◌∷◌}
use mathlib.Core.Logic.{◌⊎◌, inl, inr}
use Prim.Native.Nat.{ℕ, zero, suc, ◌+◌, ◌≤◌, ◌<◌}
use native.Mathlib.Omega.{arith}
use lib.ListN.{length, get_or, take}
use Rattle.bits.specs.declared.Run.{Run}
use Rattle.bits.specs.Stuffing.{nothing_sent}
use Rattle.refusals.specs.declared.Refusal.{Refusal}
use Rattle.refusals.specs.declared.Refusal.TheVariants.{LineLength}
use Rattle.reading.specs.Scan.{complete, Verdict, right, wrong, verdict, run_with, frame_with, run_behind, frame_behind, Scanned, whole, stopped, onward, scan, scanned}
use Rattle.reading.specs.declared.Reading.{Reading}
use Rattle.reading.proofs.FirstProblem.{never, stopped-only, stops}

module _ (reading : Reading) where
  -- of the bits from a place on, the k-th bit is the problem, or there is none where one must be
  abbrev Problem : Run → List ℕ → ℕ → List ℕ → Refusal → ℕ → Type 0
  Problem run frame place line refusal k =
      ((k < length line)
      × (verdict reading (run_behind run (take k line)) (frame_behind run frame (take k line)) (place + k) (get_or line k 0) ≡ wrong refusal))
      ⊎ ((k ≡ length line) × (refusal ≡ LineLength (place + length line)) × (complete (frame_behind run frame line) ≡ false))

  problem-next : (run : Run) (frame : List ℕ) (place bit : ℕ) (line : List ℕ) (refusal : Refusal) (k : ℕ)
      → Problem (run_with run bit) (frame_with run frame bit) (place + 1) line refusal k → Problem run frame place (bit ∷ line) refusal (suc k)
  unfolding run_behind frame_behind
  problem-next run frame place bit line refusal k (inl (inside, met)) =
      let count : place + 1 + k ≡ place + suc k = omega arith in
      inl (omega arith, rw count at met)
  problem-next run frame place bit line refusal k (inr (at-end, end, more)) =
      let count : place + 1 + length line ≡ place + suc (length line) = omega arith in
      inr (omega (arith, at-end), end ∙ ap LineLength count, more)

  problem : (run : Run) (frame : List ℕ) (place : ℕ) (line : List ℕ) (met : ℕ) (refusal : Refusal) (k : ℕ)
      → scan reading run frame place line ≡ stopped met refusal → met ≡ place + k → Problem run frame place line refusal k
  unfolding scan run_behind frame_behind
  problem run frame place [] met refusal k e p = ending (complete frame) refl e
    where
      ending : (t : Bool) → complete frame ≡ t → cond t (whole frame) (stopped place (LineLength place)) ≡ stopped met refusal
          → Problem run frame place [] refusal k
      ending true d q = never q
      ending false d q =
          let here : place ≡ place + 0 = omega arith in
          let same = stopped-only q in
          inr (omega (arith, p, same.0), sym same.1 ∙ ap LineLength here, d)
  problem run frame place (bit ∷ line) met refusal k e p =
      go (verdict reading run frame place bit) refl e k p
      (λ j. problem (run_with run bit) (frame_with run frame bit) (place + 1) line met refusal j)
      (λ q. (stops reading (run_with run bit) (frame_with run frame bit) (place + 1) line met refusal q).from)
    where
      next : Scanned
      next = scan reading (run_with run bit) (frame_with run frame bit) (place + 1) line

      go : (v : Verdict) → verdict reading run frame place bit ≡ v → onward place v next ≡ stopped met refusal
          → (k : ℕ) → met ≡ place + k
          → ((j : ℕ) → next ≡ stopped met refusal → met ≡ place + 1 + j → Problem (run_with run bit) (frame_with run frame bit) (place + 1) line refusal j)
          → (next ≡ stopped met refusal → place + 1 ≤ met) → Problem run frame place (bit ∷ line) refusal k
      go right d q zero p later from = absurd (omega (arith, p, from q))
      go right d q (suc j) p later from = problem-next run frame place bit line refusal j (later j q (omega (arith, p)))
      go (wrong r) d q zero p later from =
          let here : place ≡ place + 0 = omega arith in
          inl (omega arith, ap (λ (n : ℕ). verdict reading run frame n bit) (sym here) ∙ d ∙ ap wrong (stopped-only q).1)
      go (wrong r) d q (suc j) p later from = absurd (omega (arith, p, (stopped-only q).0))

  -- it is the verdict on the bit where it is met; and each bit to the left of that is right
  abbrev pub Met : List ℕ → ℕ → Refusal → Type 0
  Met line met refusal =
      let run = run_behind nothing_sent (take met line) in
      let frame = frame_behind nothing_sent [] (take met line) in
      ((met < length line) × (verdict reading run frame met (get_or line met 0) ≡ wrong refusal))
      ⊎ ((met ≡ length line) × (refusal ≡ LineLength (length line)) × (complete (frame_behind nothing_sent [] line) ≡ false))

  abbrev pub RightBefore : List ℕ → ℕ → Type 0
  RightBefore line met =
      (k : ℕ) → k < met →
      let run = run_behind nothing_sent (take k line) in
      let frame = frame_behind nothing_sent [] (take k line) in
      verdict reading run frame k (get_or line k 0) ≡ right

  pub problem-met : (line : List ℕ) (met : ℕ) (refusal : Refusal) → scanned reading line ≡ stopped met refusal → Met line met refusal
  unfolding scanned
  problem-met line met refusal e =
      let at : 0 + met ≡ met = omega arith in
      let end : 0 + length line ≡ length line = omega arith in
      rw (at, end) at (problem nothing_sent [] 0 line met refusal met e (omega arith))

  -- ---- and the verdict on each bit to its left is right

  abbrev RightAt : Run → List ℕ → ℕ → List ℕ → ℕ → Type 0
  RightAt run frame place line j =
      verdict reading (run_behind run (take j line)) (frame_behind run frame (take j line)) (place + j) (get_or line j 0) ≡ right

  right-next : (run : Run) (frame : List ℕ) (place bit : ℕ) (line : List ℕ) (j : ℕ)
      → RightAt (run_with run bit) (frame_with run frame bit) (place + 1) line j → RightAt run frame place (bit ∷ line) (suc j)
  unfolding run_behind frame_behind
  right-next run frame place bit line j met = let count : place + 1 + j ≡ place + suc j = omega arith in rw count at met

  rights : (run : Run) (frame : List ℕ) (place : ℕ) (line : List ℕ) (met : ℕ) (refusal : Refusal) (j : ℕ)
      → scan reading run frame place line ≡ stopped met refusal → place + j < met → RightAt run frame place line j
  unfolding scan run_behind frame_behind
  rights run frame place [] met refusal j e h = ending (complete frame) e
    where
      ending : (t : Bool) → cond t (whole frame) (stopped place (LineLength place)) ≡ stopped met refusal → RightAt run frame place [] j
      ending true q = never q
      ending false q = absurd (omega (arith, h, (stopped-only q).0))
  rights run frame place (bit ∷ line) met refusal j e h =
      go (verdict reading run frame place bit) refl e j h
      (λ i. rights (run_with run bit) (frame_with run frame bit) (place + 1) line met refusal i)
    where
      next : Scanned
      next = scan reading (run_with run bit) (frame_with run frame bit) (place + 1) line

      go : (v : Verdict) → verdict reading run frame place bit ≡ v → onward place v next ≡ stopped met refusal
          → (j : ℕ) → place + j < met
          → ((i : ℕ) → next ≡ stopped met refusal → place + 1 + i < met → RightAt (run_with run bit) (frame_with run frame bit) (place + 1) line i)
          → RightAt run frame place (bit ∷ line) j
      go right d q zero h later =
          let here : place ≡ place + 0 = omega arith in
          ap (λ (n : ℕ). verdict reading run frame n bit) (sym here) ∙ d
      go right d q (suc i) h later = right-next run frame place bit line i (later i q (omega (arith, h)))
      go (wrong r) d q j h later = absurd (omega (arith, h, (stopped-only q).0))

  pub right-before : (line : List ℕ) (met : ℕ) (refusal : Refusal) → scanned reading line ≡ stopped met refusal → RightBefore line met
  unfolding scanned
  right-before line met refusal e k h =
      let at : 0 + k ≡ k = omega arith in
      rw at at (rights nothing_sent [] 0 line met refusal k e (omega arith))

  -- ---- and where both hold, the line is refused so

  problem-later : (run : Run) (frame : List ℕ) (place bit : ℕ) (line : List ℕ) (refusal : Refusal) (k : ℕ)
      → Problem run frame place (bit ∷ line) refusal (suc k) → Problem (run_with run bit) (frame_with run frame bit) (place + 1) line refusal k
  unfolding run_behind frame_behind
  problem-later run frame place bit line refusal k (inl (inside, met)) =
      let count : place + suc k ≡ place + 1 + k = omega arith in
      inl (omega arith, rw count at met)
  problem-later run frame place bit line refusal k (inr (at-end, end, more)) =
      let count : place + suc (length line) ≡ place + 1 + length line = omega arith in
      inr (omega (arith, at-end), end ∙ ap LineLength count, more)

  right-later : (run : Run) (frame : List ℕ) (place bit : ℕ) (line : List ℕ) (j : ℕ)
      → RightAt run frame place (bit ∷ line) (suc j) → RightAt (run_with run bit) (frame_with run frame bit) (place + 1) line j
  unfolding run_behind frame_behind
  right-later run frame place bit line j met = let count : place + suc j ≡ place + 1 + j = omega arith in rw count at met

  met-stops : (run : Run) (frame : List ℕ) (place : ℕ) (line : List ℕ) (refusal : Refusal) (k : ℕ)
      → Problem run frame place line refusal k → ((j : ℕ) → j < k → RightAt run frame place line j)
      → scan reading run frame place line ≡ stopped (place + k) refusal
  unfolding scan run_behind frame_behind
  met-stops run frame place [] refusal k (inl (inside, met)) before = absurd (omega (arith, inside))
  met-stops run frame place [] refusal k (inr (at-end, end, more)) before =
      let here : place ≡ place + 0 = omega arith in
      let there : place ≡ place + k = omega (arith, at-end) in
      rw more (ap₂ stopped there (ap LineLength here ∙ sym end))
  met-stops run frame place (bit ∷ line) refusal zero (inl (inside, met)) before =
      let here : place ≡ place + 0 = omega arith in
      let wrong-is : verdict reading run frame place bit ≡ wrong refusal = ap (λ (n : ℕ). verdict reading run frame n bit) here ∙ met in
      rw wrong-is (ap (λ (n : ℕ). stopped n refusal) here)
  met-stops run frame place (bit ∷ line) refusal zero (inr (at-end, end, more)) before = absurd (omega (arith, at-end))
  met-stops run frame place (bit ∷ line) refusal (suc k) problem before =
      let here : place ≡ place + 0 = omega arith in
      let count : place + 1 + k ≡ place + suc k = omega arith in
      let right_is : verdict reading run frame place bit ≡ right = ap (λ (n : ℕ). verdict reading run frame n bit) here ∙ before 0 (omega arith) in
      rw (right_is, ← count)
      (met-stops (run_with run bit) (frame_with run frame bit) (place + 1) line refusal k
      (problem-later run frame place bit line refusal k problem) (λ j h. right-later run frame place bit line j (before (suc j) (omega arith))))

  pub problem-stops : (line : List ℕ) (met : ℕ) (refusal : Refusal) → Met line met refusal → RightBefore line met
      → scanned reading line ≡ stopped met refusal
  unfolding scanned
  problem-stops line met refusal problem before =
      let at : 0 + met ≡ met = omega arith in
      let end : 0 + length line ≡ length line = omega arith in
      met-stops nothing_sent [] 0 line refusal met (rw (at, end) problem) (λ j h. let here : 0 + j ≡ j = omega arith in rw here (before j h))
      ∙ ap (λ (n : ℕ). stopped n refusal) at
