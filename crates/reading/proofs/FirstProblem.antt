-- The first problem met is the answer: what stands to its right is not looked at. Of the scan. Assumes nothing.
--     never, went_on, stopped-only    a scan stops, or it comes to the end and found each bit right
--     Stops, stops, stopped-at    a line is refused so at one of its bits, or with 11 at its end
--     stopped-stays    where it is one of its bits, it is refused so whatever follows that bit
use mathlib.Core.Path.{◌≡◌, refl, sym, ap, ◌∙◌, subst}
use mathlib.Core.Bool.{Bool, true, false, cond}
use mathlib.Core.List.{List, [], ◌∷◌}
use mathlib.Core.Logic.{◌⊎◌, inl, inr}
use Prim.Native.Nat.{ℕ, suc, ◌+◌, ◌-◌, ◌≤◌, ◌<◌}
use native.Mathlib.Omega.{arith}
use lib.ListN.{length, take}
use Rattle.bits.specs.declared.Run.{Run}
use Rattle.bits.specs.Stuffing.{nothing_sent}
use Rattle.refusals.specs.declared.Refusal.{Refusal}
use Rattle.refusals.specs.declared.Refusal.TheVariants.{LineLength}
use Rattle.reading.specs.Scan.{complete, Verdict, right, wrong, verdict, run_with, frame_with, Scanned, whole, stopped, onward, scan, scanned}
use Rattle.reading.specs.declared.Reading.{Reading}
use Rattle.reading.proofs.Stands.{Stands, At, here, eleven, verdict-at}

-- a scan that stopped is not one that came to the end
pub never : {A : Type 0} {frame : List ℕ} {met : ℕ} {refusal : Refusal} → whole frame ≡ stopped met refusal → A
never e = let z : ◌≡◌ {A = ℕ} 0 1 = cc in absurd (omega arith)

pub went_on : (place : ℕ) (v : Verdict) (s : Scanned) (frame : List ℕ) → onward place v s ≡ whole frame → (v ≡ right) × (s ≡ whole frame)
went_on place right s frame e = (refl, e)
went_on place (wrong refusal) s frame e = never (sym e)

pub stopped-only : {m n : ℕ} {x y : Refusal} → stopped m x ≡ stopped n y → (m ≡ n) × (x ≡ y)
stopped-only e = (cc, cc)

-- ---- of one reading

module _ (reading : Reading) where
  -- the rest of a line behind a bit that is right
  abbrev behind : Run → List ℕ → ℕ → ℕ → List ℕ → Scanned
  behind run frame place bit line = scan reading (run_with run bit) (frame_with run frame bit) (place + 1) line

  -- ---- where a scan stops

  -- not before the place that it starts from; at one of the line's bits, or at its end; with no other refusals than those
  pub record Stops (place : ℕ) (line : List ℕ) (met : ℕ) (refusal : Refusal) : Type 0 where
    pub from : place ≤ met
    pub inside : (met < place + length line) ⊎ ((met ≡ place + length line) × (refusal ≡ LineLength (place + length line)))
    pub stands : Stands met refusal

  end-stops : (frame : List ℕ) (place met : ℕ) (refusal : Refusal) (t : Bool)
      → cond t (whole frame) (stopped place (LineLength place)) ≡ stopped met refusal → Stops place [] met refusal
  end-stops frame place met refusal true e = never e
  end-stops frame place met refusal false e =
      let same = stopped-only e in
      let count : place ≡ place + 0 = omega arith in
      record {
        from = omega (arith, same.0);
        inside = inr (omega (arith, same.0), sym same.1 ∙ ap LineLength count);
        stands = subst (Stands met) same.1 (here met (LineLength place) same.0 (eleven place));
      }

  bit-stops : (place bit : ℕ) (line : List ℕ) (met : ℕ) (refusal : Refusal) (v : Verdict) (next : Scanned)
      → At place v → onward place v next ≡ stopped met refusal → (next ≡ stopped met refusal → Stops (place + 1) line met refusal)
      → Stops place (bit ∷ line) met refusal
  bit-stops place bit line met refusal right next a e later =
      let stops = later e in
      let count : place + 1 + length line ≡ place + suc (length line) = omega arith in
      record { from = omega (arith, stops.from); inside = rw count at stops.inside; stands = stops.stands }
  bit-stops place bit line met refusal (wrong r) next a e later =
      let same = stopped-only e in
      record {
        from = omega (arith, same.0);
        inside = inl (omega (arith, same.0));
        stands = subst (Stands met) same.1 (subst (λ (k : ℕ). Stands k r) same.0 a);
      }

  pub stops : (run : Run) (frame : List ℕ) (place : ℕ) (line : List ℕ) (met : ℕ) (refusal : Refusal)
      → scan reading run frame place line ≡ stopped met refusal → Stops place line met refusal
  unfolding scan
  stops run frame place [] met refusal e = end-stops frame place met refusal (complete frame) e
  stops run frame place (bit ∷ line) met refusal e =
      bit-stops place bit line met refusal (verdict reading run frame place bit) (behind run frame place bit line) (verdict-at reading run frame place bit) e
      (stops (run_with run bit) (frame_with run frame bit) (place + 1) line met refusal)

  pub stopped-at : (line : List ℕ) (met : ℕ) (refusal : Refusal) → scanned reading line ≡ stopped met refusal → Stops 0 line met refusal
  unfolding scanned
  stopped-at line met refusal e = stops nothing_sent [] 0 line met refusal e

  -- ---- bits to the right of the problem may be others

  stays : (run : Run) (frame : List ℕ) (place : ℕ) (line line' : List ℕ) (met : ℕ) (refusal : Refusal)
      → scan reading run frame place line ≡ stopped met refusal
      → met < place + length line → take (suc (met - place)) line ≡ take (suc (met - place)) line'
      → scan reading run frame place line' ≡ stopped met refusal
  unfolding scan
  stays run frame place [] line' met refusal e h same = absurd (omega (arith, h, (stops run frame place [] met refusal e).from))
  stays run frame place (bit ∷ line) [] met refusal e h same = let z : ◌≡◌ {A = ℕ} 0 1 = cc in absurd (omega arith)
  stays run frame place (bit ∷ line) (bit' ∷ line') met refusal e h same =
      let first : bit ≡ bit' = cc in
      let others : take (met - place) line ≡ take (met - place) line' = cc in
      subst (λ (b : ℕ). onward place (verdict reading run frame place b) (behind run frame place b line') ≡ stopped met refusal) first
      (go (verdict reading run frame place bit) e others (stays (run_with run bit) (frame_with run frame bit) (place + 1) line line' met refusal)
      (stops (run_with run bit) (frame_with run frame bit) (place + 1) line met refusal))
    where
      next : List ℕ → Scanned
      next l = behind run frame place bit l

      go : (v : Verdict) → onward place v (next line) ≡ stopped met refusal → take (met - place) line ≡ take (met - place) line'
          → (next line ≡ stopped met refusal → met < place + 1 + length line
          → take (suc (met - (place + 1))) line ≡ take (suc (met - (place + 1))) line' → next line' ≡ stopped met refusal)
          → (next line ≡ stopped met refusal → Stops (place + 1) line met refusal) → onward place v (next line') ≡ stopped met refusal
      go right d others later after =
          let one : suc (met - (place + 1)) ≡ met - place = omega (arith, (after d).from) in
          later d (omega (arith, h)) (rw one others)
      go (wrong r) d others later after = d

  pub stopped-stays : (line line' : List ℕ) (met : ℕ) (refusal : Refusal) → scanned reading line ≡ stopped met refusal → met < length line
      → take (met + 1) line ≡ take (met + 1) line' → scanned reading line' ≡ stopped met refusal
  unfolding scanned
  stopped-stays line line' met refusal e h same =
      let count : met + 1 ≡ suc (met - 0) = omega arith in
      stays nothing_sent [] 0 line line' met refusal e (omega (arith, h)) (rw count at same)
