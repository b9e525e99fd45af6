-- A stuff bit of a line, wherever it may stand: what is left of the line leads where the whole leads. Assumes nothing.
--     rest       what is left of a line
--     missing    the line ends before the frame does
--     went       a bit of the line, and where it leads
--     Stuffed    what is known behind a stuff bit
--     Passes, pass-goes    where a stuff bit is due it is there and right, or the line is refused as the definition says
use mathlib.Core.Path.{◌≡◌, refl, sym, ap, ◌∙◌}
use mathlib.Core.Bool.{Bool, true, false, cond}
use mathlib.Core.List.{List, [], ◌∷◌}
use Prim.Native.Nat.{ℕ, ◌+◌, ◌%◌, ◌≤◌, ◌<◌}
use native.Mathlib.Numerals.{add-one}
use native.Mathlib.Omega.{arith}
use lib.Dec.{eqb, leb, ltb}
use lib.ListN.{length, drop, drop_of_length-le}
use lib.Seq.{drop-cons}
use borrow.Author.Tests.{ne_eqb, ltb-true, ltb-false, leb-true, leb-false, eqb-true, eqb-false}
use Rattle.std.proofs.Common.{Result, Ok, Err}
use Rattle.bits.specs.declared.Run.{Run}
use Rattle.bits.specs.Stuffing.{counted}
use Rattle.refusals.specs.declared.Refusal.TheVariants.{LineByte, StuffBit, LineLength}
use Rattle.reading.specs.Scan.{complete, crc_start, stuff_due, Verdict, right, verdict, run_with, frame_with, Scanned, stopped, onward, scan, scanned}
use Rattle.reading.specs.declared.Reading.{Reading}
use Rattle.reading.proofs.StuffDue.{due-within}
use Rattle.reading.proofs.Verdicts.{byte-above-1, sixth-bit, stuff-bit}
use Rattle.refusals.specs.declared.Refusal.{Refusal}
use Rattle.scanning.specs.Steps.{bit_at, behind_stuff_bit, due_in, stuff_bit, passed, Stopped}
use Rattle.scanning.specs.declared.seen.Seen.{Seen}
use Rattle.scanning.proofs.RawBits.{Tells, five-told, bit-told, told-stuff}

abbrev pub rest : Reading → List ℕ → Seen → Run → List ℕ → Scanned
rest reading line seen run frame = scan reading run frame seen.place (drop seen.place line)

-- a bit of the frame follows, before which none is due; the raw bits that tell the run
pub record Stuffed (reading : Reading) (line : List ℕ) (seen : Seen) (run : Run) (frame : List ℕ) : Type 0 where
  pub leads : scanned reading line ≡ scan reading run frame (seen.place + 1) (drop (seen.place + 1) line)
  pub inside : seen.place + 1 < length line
  pub told : Tells (1 + seen.raw % 2) run
  pub single : run.count ≡ 1
  pub none-due : stuff_due run frame ≡ false

-- what is to hold of the run and of what is seen behind it
abbrev pub Passes : Reading → List ℕ → (Run → Seen → Type 0) → Result Seen Refusal → Type 0
Passes reading line P (Ok next) = (run : Run) × P run next
Passes reading line P (Err refusal) = Stopped (scanned reading line) refusal

module _ (reading : Reading) (line : List ℕ) (seen : Seen) (run : Run) (frame : List ℕ)
    (leads : scanned reading line ≡ rest reading line seen run frame) (begun : complete frame ≡ false) where
  abbrev b : ℕ
  b = bit_at line seen

  ends : (r : Run) (place : ℕ) → scan reading r frame place [] ≡ stopped place (LineLength place)
  unfolding scan
  ends r place = rw begun refl

  pub missing : length line ≤ seen.place → Stopped (scanned reading line) (LineLength seen.place)
  missing e = (seen.place, leads ∙ ap (scan reading run frame seen.place) (drop_of_length-le line e) ∙ ends run seen.place)

  module _ (inside : seen.place < length line) where
    pub went : (v : Verdict) → verdict reading run frame seen.place b ≡ v
        → scanned reading line ≡ onward seen.place v (scan reading (run_with run b) (frame_with run frame b) (seen.place + 1) (drop (seen.place + 1) line))
    unfolding scan
    went v d =
        let here : drop seen.place line ≡ b ∷ drop (seen.place + 1) line =
        drop-cons line seen.place 0 inside ∙ ap (λ (k : ℕ). b ∷ drop k line) (sym (add-one seen.place)) in
        leads ∙ ap (scan reading run frame seen.place) here
        ∙ ap (λ (u : Verdict). onward seen.place u (scan reading (run_with run b) (frame_with run frame b) (seen.place + 1) (drop (seen.place + 1) line))) d

    -- the raw bits tell the run, and a stuff bit may still come
    module _ (tells : Tells seen.raw run) (within : length frame ≤ crc_start frame + 15) where
      due-told : stuff_due run frame ≡ due_in seen.raw
      due-told = due-within run frame within ∙ sym (five-told seen.raw run tells)

      -- ---- one is due

      module _ (due : stuff_due run frame ≡ true) where
        five : run.count ≡ 5
        five = eqb-true run.count 5 (sym (due-within run frame within) ∙ due)

        module _ (bit : b ≤ 1) (other : b ≡ run.bit → ⊥) where
          onto : scanned reading line ≡ scan reading (run_with run b) frame (seen.place + 1) (drop (seen.place + 1) line)
          unfolding frame_with
          onto = went right (stuff-bit reading run frame seen.place b begun bit due other) ∙ rw due refl

          one : counted run b ≡ 1
          one = simp (ne_eqb b run.bit other)

          behind-it : seen.place + 1 < length line → Stuffed reading line seen (run_with run b) frame
          unfolding run_with
          behind-it more =
              record {
                leads = onto;
                inside = more;
                told = told-stuff seen.raw b run (omega arith) other five tells;
                single = one;
                none-due = due-within (run_with run b) frame within ∙ rw one refl;
              }

        module _ (raw : ℕ) (P : Run → Seen → Type 0) (behind : (r : Run) → Stuffed reading line seen r frame → P r (behind_stuff_bit raw line seen)) where
          stuff-goes : Passes reading line P (stuff_bit raw line seen)
          unfolding stuff_bit
          stuff-goes = byte (ltb 1 b) refl
            where
              last : run.bit ≡ seen.raw % 2
              last = bit-told seen.raw run tells five

              follows : b ≤ 1 → (b ≡ run.bit → ⊥) → (t : Bool) → leb (length line) (seen.place + 1) ≡ t
                  → Passes reading line P (cond t (Err (LineLength (seen.place + 1))) (Ok (behind_stuff_bit raw line seen)))
              follows bit other true d = (
                seen.place + 1,
                onto bit other ∙ ap (scan reading (run_with run b) frame (seen.place + 1)) (drop_of_length-le line (leb-true _ _ d))
                    ∙ ends (run_with run b) (seen.place + 1),
              )
              follows bit other false d = (run_with run b, behind _ (behind-it bit other (leb-false _ _ d)))

              sixth : b ≤ 1 → (t : Bool) → eqb b (seen.raw % 2) ≡ t
                  → Passes reading line P
                  (cond t (Err (StuffBit seen.place))
                  (cond (leb (length line) (seen.place + 1)) (Err (LineLength (seen.place + 1))) (Ok (behind_stuff_bit raw line seen))))
              sixth bit true d = (seen.place, went _ (sixth-bit reading run frame seen.place b begun bit due (eqb-true _ _ d ∙ sym last)))
              sixth bit false d = follows bit (λ e. eqb-false _ _ d (e ∙ last)) (leb (length line) (seen.place + 1)) refl

              byte : (t : Bool) → ltb 1 b ≡ t
                  → Passes reading line P
                  (cond t (Err (LineByte seen.place))
                  (cond (eqb b (seen.raw % 2)) (Err (StuffBit seen.place))
                  (cond (leb (length line) (seen.place + 1)) (Err (LineLength (seen.place + 1))) (Ok (behind_stuff_bit raw line seen)))))
              byte true d = (seen.place, went _ (byte-above-1 reading run frame seen.place b begun (ltb-true _ _ d)))
              byte false d = sixth (ltb-false _ _ d) (eqb b (seen.raw % 2)) refl

      -- ---- or none

      pub pass-goes : (raw : ℕ) (P : Run → Seen → Type 0) → (stuff_due run frame ≡ false → P run seen)
          → ((r : Run) → Stuffed reading line seen r frame → P r (behind_stuff_bit raw line seen)) → Passes reading line P (passed raw line seen)
      unfolding passed
      pass-goes raw P as_it_was behind = go (due_in seen.raw) refl
        where
          go : (t : Bool) → due_in seen.raw ≡ t → Passes reading line P (cond t (stuff_bit raw line seen) (Ok seen))
          go true d = stuff-goes (due-told ∙ d) raw P behind
          go false d = (run, as_it_was (due-told ∙ d))
