-- Where a scan finds no fault, the frame is right. Assumes nothing.
--     sound-right
use mathlib.Core.Path.{◌≡◌, sym, ap, ◌∙◌}
use mathlib.Core.Bool.{true, false}
use mathlib.Core.List.{List, [], ◌∷◌, ◌++◌, append-nil}
use Prim.Native.Nat.{ℕ, suc, ◌+◌, ◌-◌, ◌≤◌, ◌<◌}
use native.Mathlib.Omega.{arith}
use lib.ListN.{length, get_or, take, drop, take-append-drop}
use lib.Seq.{append_snoc, take-suc, split_at, length-take-le}
use borrow.Author.Tests.{leb-true, eqb-true, eq-eqb, not-false}
use Rattle.bits.specs.Below.{Below}
use Rattle.bits.specs.Rows.{number}
use Rattle.crc.specs.Crc.{crc}
use Rattle.reading.specs.Form.{form}
use Rattle.reading.specs.Scan.{long_in, data_start, header_width, dlc_in, crc_start, complete, crc_right, slot_most, slot_right, form_right}
use Rattle.reading.specs.declared.Reading.{Reading}
use Rattle.reading.proofs.Verdicts.{taken-dlc}
use Rattle.reading.proofs.Partial.{width-least, start-least, long-stays, dlc-stays, start-stays, must-stays}
use Rattle.reading.proofs.Sound.{form_wrong, dlc_wrong, crc_wrong, slot_wrong, Next, Sound}
use Rattle.reading.proofs.Fits.{Fits, at-fits}
use Rattle.reading.proofs.Right.{Right, front_read, crc-read, slot_read, same_read}

sound-at : (reading : Reading) (frame l m : List ℕ) (b : ℕ) → Sound reading frame (l ++ (b ∷ m)) → Next reading (frame ++ l) b
sound-at reading frame [] m b sound = rw append-nil sound.0
sound-at reading frame (x ∷ l) m b sound = rw append_snoc at (sound-at reading (frame ++ (x ∷ [])) l m b sound.1)

sound-complete : (reading : Reading) (frame l : List ℕ) → Sound reading frame l → complete (frame ++ l) ≡ true
sound-complete reading frame [] sound = rw append-nil sound
sound-complete reading frame (b ∷ l) sound = rw append_snoc at (sound-complete reading (frame ++ (b ∷ [])) l sound.1)

sound-below : (reading : Reading) (frame l : List ℕ) → Sound reading frame l → Below 2 l
sound-below reading frame [] sound = tt
sound-below reading frame (b ∷ l) sound = (sound.0.below, sound-below reading (frame ++ (b ∷ [])) l sound.1)

right-crc : (frame l : List ℕ) → length frame ≡ crc_start frame + 15 → crc_wrong frame ≡ false →
    let all = frame ++ l in
    number 0 (take 15 (drop (crc_start all) all)) ≡ crc (take (crc_start all) all)
right-crc frame l h e =
    let start = crc_start frame in
    let holds : crc_right frame ≡ true = not-false (crc_right frame) (rw (eq-eqb (length frame) (start + 15) h) at e) in
    ap (number 0) (crc-read frame l h)
    ∙ eqb-true (number 0 (drop start frame)) (crc (take start frame)) holds
    ∙ sym (ap crc (front_read frame l h))

-- the first bits of a frame, the header among them
module _ (all : List ℕ) (k : ℕ) (read : data_start all ≤ k) (enough : k ≤ length all) where
  early-long : length (take k all) ≡ k
  early-long = length-take-le k all enough

  early-data : data_start all ≡ data_start (take k all)
  early-data =
      ap (λ (l : List ℕ). data_start l) (sym (take-append-drop k all))
      ∙ ap header_width (long-stays (take k all) (drop k all) (omega (arith, early-long, read, width-least (long_in all))))

  early-read : data_start (take k all) ≤ length (take k all)
  early-read = omega (arith, early-long, early-data, read)

  early-dlc : dlc_in all ≡ dlc_in (take k all)
  early-dlc = ap dlc_in (sym (take-append-drop k all)) ∙ dlc-stays (take k all) (drop k all) early-read

  early-start : crc_start all ≡ crc_start (take k all)
  early-start = ap crc_start (sym (take-append-drop k all)) ∙ start-stays (take k all) (drop k all) early-read

module _ (reading : Reading) (all : List ℕ) (sound : Sound reading [] all) where
  sound-fits : Fits (form (long_in all) (dlc_in all)) all
  sound-fits =
      at-fits (form (long_in all) (dlc_in all)) all
      (λ g m b e. rw (← e, ← must-stays g (b ∷ m)) (sound-at reading [] g m b (rw e sound)).fitting)

  -- once the bit at a position is among the frame's
  next-at : (i : ℕ) → i < length all → Next reading (take i all) (get_or all i 0)
  next-at i h = sound-at reading [] (take i all) (drop (suc i) all) (get_or all i 0) (rw (← split_at all i 0 h) sound)

  sound-long : length all ≡ crc_start all + 25
  unfolding complete
  sound-long = eqb-true (length all) (crc_start all + 25) (sound-complete reading [] all sound)

  sound-same : get_or all 12 0 ≡ get_or all 13 0
  sound-same =
      let early = take 14 all in
      let enough : 14 ≤ length all = omega (arith, sound-long, (start-least all).0) in
      let long : length early ≡ 14 = length-take-le 14 all enough in
      let fine : form_wrong early ≡ false = rw (take-suc all 13 0 enough) (next-at 13 enough).form in
      let holds = not-false (form_right early) (rw (eq-eqb (length early) 14 long) at fine) in
      let read = rw (take-append-drop 14 all) at (same_read early (drop 14 all) long) in
      read.0 ∙ eqb-true (get_or early 12 0) (get_or early 13 0) holds ∙ sym read.1

  sound-dlc : (dlc_in all ≡ 1 → ⊥) × (dlc_in all ≤ 8)
  sound-dlc =
      let i = data_start all - 1 in
      let early = take (data_start all) all in
      let enough : data_start all ≤ length all = omega (arith, sound-long, (start-least all).1) in
      let count : suc i ≡ data_start all = omega (arith, width-least (long_in all)) in
      let inside : i < length all = omega (arith, enough, count) in
      let fine : dlc_wrong (take (suc i) all) ≡ false = rw (take-suc all i 0 inside) (next-at i inside).dlc in
      let here : length early ≡ data_start early
      = early-long all (data_start all) (omega arith) enough ∙ early-data all (data_start all) (omega arith) enough in
      let stays = early-dlc all (data_start all) (omega arith) enough in
      let taken = taken-dlc early (rw (eq-eqb (length early) (data_start early) here) at (rw count at fine)) in
      (λ one. taken.0 (sym stays ∙ one), omega (arith, taken.1, stays))

  sound-check : number 0 (take 15 (drop (crc_start all) all)) ≡ crc (take (crc_start all) all)
  sound-check =
      let i = crc_start all + 14 in
      let early = take (suc i) all in
      let enough : i < length all = omega (arith, sound-long) in
      let read : data_start all ≤ suc i = omega (arith, (start-least all).1) in
      let here : length early ≡ crc_start early + 15 = omega (arith, early-long all (suc i) read enough, early-start all (suc i) read enough) in
      let fine : crc_wrong early ≡ false = rw (take-suc all i 0 enough) (next-at i enough).check in
      rw (take-append-drop (suc i) all) at (right-crc early (drop (suc i) all) here fine)

  sound-slot : get_or all (crc_start all + 16) 0 ≤ slot_most reading.slot
  sound-slot =
      let i = crc_start all + 16 in
      let early = take (suc i) all in
      let enough : i < length all = omega (arith, sound-long) in
      let read : data_start all ≤ suc i = omega (arith, (start-least all).1) in
      let here : length early ≡ crc_start early + 17 = omega (arith, early-long all (suc i) read enough, early-start all (suc i) read enough) in
      let fine : slot_wrong reading early ≡ false = rw (take-suc all i 0 enough) (next-at i enough).slot in
      let may = not-false (slot_right reading early) (rw (eq-eqb (length early) (crc_start early + 17) here) at fine) in
      let same = ap (λ (l : List ℕ). get_or l (crc_start l + 16) 0) (sym (take-append-drop (suc i) all)) ∙ slot_read early (drop (suc i) all) here in
      omega (arith, same, leb-true (get_or early (crc_start early + 16) 0) (slot_most reading.slot) may)

pub sound-right : (reading : Reading) (frame : List ℕ) → Sound reading [] frame → Right reading frame
sound-right reading frame sound =
    let dlc = sound-dlc reading frame sound in
    record {
      below = sound-below reading [] frame sound;
      long = sound-long reading frame sound;
      fits = sound-fits reading frame sound;
      same = sound-same reading frame sound;
      not-one = dlc.0;
      at_most = dlc.1;
      check = sound-check reading frame sound;
      slot = sound-slot reading frame sound;
    }
