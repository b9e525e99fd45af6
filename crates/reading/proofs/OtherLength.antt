-- A line that is cut, or made longer. Of the scan. Assumes nothing.
--     cut_short        a line that is read, cut anywhere, is refused with 11 at its length
--     cut-before       and so is a line with a problem, cut before the bit where it is met: nothing to the left of that is wrong
--     made-longer      and with bits added, with 11 at the first of them
use mathlib.Core.Path.{◌≡◌, refl, sym, ap, ◌∙◌, subst}
use mathlib.Core.Bool.{Bool, true, false, cond}
use mathlib.Core.List.{List, [], ◌∷◌, ◌++◌}
use Prim.Native.Nat.{ℕ, zero, suc, ◌+◌, ◌<◌}
use native.Mathlib.Omega.{arith}
use lib.ListN.{length, take}
use Rattle.bits.specs.declared.Run.{Run}
use Rattle.bits.specs.Stuffing.{nothing_sent}
use Rattle.refusals.specs.declared.Refusal.{Refusal}
use Rattle.refusals.specs.declared.Refusal.TheVariants.{LineLength}
use Rattle.reading.specs.Scan.{complete, Verdict, right, wrong, verdict, run_with, frame_with, Scanned, whole, stopped, onward, scan, scanned}
use Rattle.reading.specs.declared.Reading.{Reading}
use Rattle.reading.proofs.Verdicts.{bit-too-many}
use Rattle.reading.proofs.FirstProblem.{never, went_on}

module _ (reading : Reading) where
  -- the rest of a line behind a bit that is right
  abbrev behind : Run → List ℕ → ℕ → ℕ → List ℕ → Scanned
  behind run frame place bit line = scan reading (run_with run bit) (frame_with run frame bit) (place + 1) line

  right-begun : (run : Run) (frame : List ℕ) (place bit : ℕ) → verdict reading run frame place bit ≡ right → complete frame ≡ false
  right-begun run frame place bit e = go (complete frame) refl
    where
      go : (t : Bool) → complete frame ≡ t → complete frame ≡ false
      go true d = let w = sym e ∙ bit-too-many reading run frame place bit d in let z : ◌≡◌ {A = ℕ} 0 1 = cc in absurd (omega arith)
      go false d = d

  -- refused with 11 at this place
  abbrev ends : ℕ → Scanned
  ends place = stopped place (LineLength place)

  -- a place before the line's end, where the scan comes to that, or before the bit where the problem is met
  abbrev Before : ℕ → ℕ → Scanned → Type 0
  Before at end (whole frame) = at < end
  Before at end (stopped met refusal) = at < met

  cut : (run : Run) (frame : List ℕ) (place k : ℕ) (line : List ℕ) (s : Scanned) → scan reading run frame place line ≡ s
      → Before (place + k) (place + length line) s → scan reading run frame place (take k line) ≡ ends (place + k)
  unfolding scan
  cut run frame place k [] s e h = absurd (none (complete frame) (subst (Before (place + k) (place + 0)) (sym e) h))
    where
      none : (t : Bool) → Before (place + k) (place + 0) (cond t (whole frame) (ends place)) → ⊥
      none true b = omega (arith, b)
      none false b = omega (arith, b)
  cut run frame place k (bit ∷ line) s e h =
      go k (verdict reading run frame place bit) refl e h
      (λ (j : ℕ). cut (run_with run bit) (frame_with run frame bit) (place + 1) j line s)
    where
      next : Scanned
      next = behind run frame place bit line

      end : place + 1 + length line ≡ place + suc (length line)
      end = omega arith

      go : (j : ℕ) (v : Verdict) → verdict reading run frame place bit ≡ v → onward place v next ≡ s → Before (place + j) (place + suc (length line)) s
          → ((i : ℕ) → next ≡ s → Before (place + 1 + i) (place + 1 + length line) s
          → scan reading (run_with run bit) (frame_with run frame bit) (place + 1) (take i line) ≡ ends (place + 1 + i))
          → scan reading run frame place (take j (bit ∷ line)) ≡ ends (place + j)
      go zero right r d b later = rw (right-begun run frame place bit r) (ap ends (omega arith))
      go (suc j) right r d b later =
          let at : place + 1 + j ≡ place + suc j = omega arith in
          rw (r, ← at) (later j d (rw (end, at) b))
      go j (wrong q) r d b later = absurd (omega (arith, subst (Before (place + j) (place + suc (length line))) (sym d) b))

  -- cut anywhere where a scan comes to the end; before the problem where it stops
  pub cut_short : (line frame : List ℕ) (k : ℕ) → scanned reading line ≡ whole frame → k < length line
      → scanned reading (take k line) ≡ stopped k (LineLength k)
  unfolding scanned
  cut_short line frame k e h = cut nothing_sent [] 0 k line (whole frame) e (omega (arith, h)) ∙ ap ends (omega arith)

  pub cut-before : (line : List ℕ) (met : ℕ) (refusal : Refusal) (k : ℕ) → scanned reading line ≡ stopped met refusal → k < met
      → scanned reading (take k line) ≡ stopped k (LineLength k)
  unfolding scanned
  cut-before line met refusal k e h = cut nothing_sent [] 0 k line (stopped met refusal) e (omega (arith, h)) ∙ ap ends (omega arith)

  longer : (run : Run) (frame : List ℕ) (place : ℕ) (line f : List ℕ) (bit : ℕ) (more : List ℕ) → scan reading run frame place line ≡ whole f
      → scan reading run frame place (line ++ (bit ∷ more)) ≡ ends (place + length line)
  unfolding scan
  longer run frame place [] f bit more e = go (complete frame) refl e
    where
      go : (t : Bool) → complete frame ≡ t → cond t (whole frame) (ends place) ≡ whole f
          → scan reading run frame place (bit ∷ more) ≡ ends (place + 0)
      go true d w = rw (bit-too-many reading run frame place bit d) (ap ends (omega arith))
      go false d w = never (sym w)
  longer run frame place (x ∷ line) f bit more e =
      let on = went_on place (verdict reading run frame place x) (behind run frame place x line) f e in
      let at : place + 1 + length line ≡ place + suc (length line) = omega arith in
      rw (on.0, ← at) (longer (run_with run x) (frame_with run frame x) (place + 1) line f bit more on.1)

  pub made-longer : (line frame : List ℕ) (bit : ℕ) (more : List ℕ) → scanned reading line ≡ whole frame
      → scanned reading (line ++ (bit ∷ more)) ≡ stopped (length line) (LineLength (length line))
  unfolding scanned
  made-longer line frame bit more e = longer nothing_sent [] 0 line frame bit more e ∙ ap ends (omega arith)
