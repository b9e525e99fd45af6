-- A scanned reading line, taken apart into a frame's bits and the stuff bits between them. Assumes nothing.
--     due_bits, due_run    the stuff bit that is due before the next bit of the frame, if any, and the run with it
--     on_line         what the line holds for the bits that a frame goes on with, where no stuff bit is due before the first
--     line_from       the same with the one that may be due
--     no-stuff       where none is due these are the same
--     sound-whole    the scan of such a line, of sound bits, gives the frame
--     whole-sound    a line of which the scan gives a frame is such a line
use mathlib.Core.Path.{◌≡◌, refl, sym, ap, ap₂, ◌∙◌}
use mathlib.Core.Bool.{Bool, true, false, cond}
use mathlib.Core.List.{List, [], ◌∷◌, ◌++◌, append-nil, append_assoc}
use Prim.Native.Nat.{ℕ, ◌+◌, ◌-◌, ◌<◌}
use native.Mathlib.Nat.{add-zero}
use native.Mathlib.Omega.{arith}
use lib.ListN.{length}
use borrow.Author.Tests.{ne_eqb}
use Rattle.bits.specs.declared.Run.{Run}
use Rattle.bits.specs.Below.{Below}
use Rattle.refusals.specs.declared.Refusal.TheVariants.{LineLength}
use Rattle.reading.specs.Scan.{complete, stuff_due, right, verdict, run_with, frame_with}
use Rattle.reading.specs.Scan.{whole, stopped, scan}
use Rattle.reading.specs.declared.Reading.{Reading}
use Rattle.reading.proofs.FirstProblem.{went_on}
use Rattle.reading.proofs.Sound.{Next, Sound, bit-right, right-bit, stuff-right, due-no-more, right-stuff}

unfoldable pub due_bits : Run → List ℕ → List ℕ
due_bits run frame = cond (stuff_due run frame) ((1 - run.bit) ∷ []) []

unfoldable pub due_run : Run → List ℕ → Run
due_run run frame = cond (stuff_due run frame) (run_with run (1 - run.bit)) run

unfoldable pub on_line : Run → List ℕ → List ℕ → List ℕ
on_line run frame [] = []
on_line run frame (b ∷ l) =
    let next = run_with run b in
    let more = frame ++ (b ∷ []) in
    b ∷ (due_bits next more ++ on_line (due_run next more) more l)

abbrev pub line_from : Run → List ℕ → List ℕ → List ℕ
line_from run frame l = due_bits run frame ++ on_line (due_run run frame) frame l

module _ (run : Run) (frame : List ℕ) where
  pub no-stuff : (l : List ℕ) → stuff_due run frame ≡ false → line_from run frame l ≡ on_line run frame l
  unfolding due_bits due_run
  no-stuff l due = rw due

  one-stuff : (l : List ℕ) → stuff_due run frame ≡ true
      → line_from run frame l ≡ (1 - run.bit) ∷ on_line (run_with run (1 - run.bit)) frame l
  unfolding due_bits due_run
  one-stuff l due = rw due

  -- behind a stuff bit none is due
  due-once : stuff_due (run_with run (1 - run.bit)) frame ≡ false
  unfolding stuff_due run_with
  due-once = simp (ne_eqb (1 - run.bit) run.bit (λ e. omega arith))

  due-done : stuff_due (due_run run frame) frame ≡ false
  unfolding due_run
  due-done = go (stuff_due run frame) refl
    where
      go : (t : Bool) → stuff_due run frame ≡ t → stuff_due (cond t (run_with run (1 - run.bit)) run) frame ≡ false
      go true e = due-once
      go false e = e

  -- ---- there

  scan-due : (reading : Reading) (place : ℕ) (rest : List ℕ)
      → scan reading run frame place (due_bits run frame ++ rest) ≡ scan reading (due_run run frame) frame (place + length (due_bits run frame)) rest
  unfolding due_bits due_run scan frame_with
  scan-due reading place rest = go (stuff_due run frame) refl
    where
      go : (t : Bool) → stuff_due run frame ≡ t → scan reading run frame place (cond t ((1 - run.bit) ∷ []) [] ++ rest)
          ≡ scan reading (cond t (run_with run (1 - run.bit)) run) frame (place + length (cond t ((1 - run.bit) ∷ []) [])) rest
      go true e = simp (right-stuff run frame reading place e, e)
      go false e = rw (add-zero place)

pub sound-whole : (reading : Reading) (run : Run) (frame l : List ℕ) (place : ℕ) → Sound reading frame l
    → scan reading run frame place (line_from run frame l) ≡ whole (frame ++ l)
unfolding on_line scan frame_with
sound-whole reading run frame [] place sound = scan-due run frame reading place [] ∙ rw (sound, append-nil)
sound-whole reading run frame (b ∷ l) place sound =
    let behind = due_run run frame in
    let at = place + length (due_bits run frame) in
    let none = due-done run frame in
    scan-due run frame reading place _
    ∙ rw (right-bit reading behind frame at b none sound.0, none)
    (sound-whole reading (run_with behind b) (frame ++ (b ∷ [])) l (at + 1) sound.1 ∙ ap whole (append_assoc frame (b ∷ []) l))

-- ---- and back

-- with these bits the frame goes on, and they are what the line holds
pub record Taken (reading : Reading) (run : Run) (frame line all : List ℕ) : Type 0 where
  pub bits : List ℕ
  pub all-is : frame ++ bits ≡ all
  pub line-is : line ≡ line_from run frame bits
  pub sound : Sound reading frame bits
  pub line-below : Below 2 line

module _ (reading : Reading) (run : Run) (frame line all : List ℕ) (b : ℕ) where
  take-stuff : stuff_due run frame ≡ true → run.bit < 2 → (b < 2) × (b ≡ run.bit → ⊥)
      → Taken reading (run_with run b) frame line all → Taken reading run frame (b ∷ line) all
  take-stuff due h other taken =
      let is : b ≡ 1 - run.bit = omega (arith, other.0, other.1) in
      let none : stuff_due (run_with run b) frame ≡ false = rw is (due-once run frame) in
      let l = taken.bits in
      record {
        bits = l;
        all-is = taken.all-is;
        line-is =
            ap₂ ◌∷◌ is (taken.line-is ∙ no-stuff (run_with run b) frame l none ∙ ap (λ (x : ℕ). on_line (run_with run x) frame l) is)
            ∙ sym (one-stuff run frame l due);
        sound = taken.sound;
        line-below = (other.0, taken.line-below);
      }

  take-bit : stuff_due run frame ≡ false → Next reading frame b
      → Taken reading (run_with run b) (frame ++ (b ∷ [])) line all → Taken reading run frame (b ∷ line) all
  unfolding on_line
  take-bit due next taken =
      let l = taken.bits in
      record {
        bits = b ∷ l;
        all-is = sym (append_assoc frame (b ∷ []) l) ∙ taken.all-is;
        line-is = ap (b ∷◌) taken.line-is ∙ sym (no-stuff run frame (b ∷ l) due);
        sound = (next, taken.sound);
        line-below = (next.below, taken.line-below);
      }

pub whole-sound : (reading : Reading) (run : Run) (frame line all : List ℕ) (place : ℕ) → run.bit < 2
    → scan reading run frame place line ≡ whole all → Taken reading run frame line all
unfolding scan on_line frame_with run_with
whole-sound reading run frame [] all place h e = go (complete frame) refl e
  where
    go : (t : Bool) → complete frame ≡ t → cond t (whole frame) (stopped place (LineLength place)) ≡ whole all → Taken reading run frame [] all
    go true c e =
        record {
          bits = [];
          all-is = append-nil frame ∙ cc;
          line-is = sym (no-stuff run frame [] (due-no-more run frame c));
          sound = c;
          line-below = tt;
        }
    go false c e = let z : ◌≡◌ {A = ℕ} 0 1 = cc in absurd (omega arith)
whole-sound reading run frame (b ∷ line) all place h e =
    let on = went_on place (verdict reading run frame place b) _ all e in
    go (stuff_due run frame) refl (λ f. whole-sound reading (run_with run b) f line all (place + 1)) on.0 on.1
  where
    go : (t : Bool) → stuff_due run frame ≡ t
        → ((f : List ℕ) → b < 2 → scan reading (run_with run b) f (place + 1) line ≡ whole all → Taken reading (run_with run b) f line all)
        → verdict reading run frame place b ≡ right
        → scan reading (run_with run b) (cond t frame (frame ++ (b ∷ []))) (place + 1) line ≡ whole all → Taken reading run frame (b ∷ line) all
    go true due rest v s =
        let other = stuff-right reading run frame place b due v in
        take-stuff reading run frame line all b due h other (rest frame other.0 s)
    go false due rest v s =
        let next = bit-right reading run frame place b due v in
        take-bit reading run frame line all b due next (rest (frame ++ (b ∷ [])) next.below s)
