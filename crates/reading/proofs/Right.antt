-- A frame with which a scan finds no fault, said of the frame as a whole. Assumes nothing.
--     Right          the record of it
--     front_read, crc-read, slot_read, same_read    once bits are read they stay, whatever follows
--     right-sound    a scan finds no fault with the bits of a frame that is right
use mathlib.Core.Path.{◌≡◌, refl, sym, ap, ◌∙◌}
use mathlib.Core.Bool.{Bool, true, false, not, ◌&&◌}
use mathlib.Core.List.{List, [], ◌∷◌, ◌++◌, append-nil}
use Prim.Native.Nat.{ℕ, ◌+◌, ◌≤◌, ◌<◌}
use native.Mathlib.Omega.{arith}
use lib.Dec.{eqb}
use lib.ListN.{length, get_or, take, drop, length-append, length-drop, get_or-append}
use lib.Seq.{append_snoc, take_at, take-append-le, drop-append-le, drop-append_seam}
use borrow.Author.Tests.{le-leb, eqb-true, eq-eqb, ne_eqb}
use Rattle.bits.specs.Below.{Below}
use Rattle.bits.specs.Rows.{number}
use Rattle.bits.proofs.Below.{below-drop}
use Rattle.crc.specs.Crc.{crc}
use Rattle.reading.specs.Form.{form}
use Rattle.reading.specs.Scan.{long_in, data_start, dlc_in, crc_start, complete, dlc_refused, crc_right, slot_most, slot_right, form_right}
use Rattle.reading.specs.declared.Reading.{Reading}
use Rattle.reading.proofs.Verdicts.{dlc-taken}
use Rattle.reading.proofs.Partial.{start-least, dlc-stays, start-stays, must-stays}
use Rattle.reading.proofs.Sound.{form_wrong, dlc_wrong, crc_wrong, slot_wrong, Next, Sound}
use Rattle.reading.proofs.Fits.{Fits, fits-at}

pub record Right (reading : Reading) (frame : List ℕ) : Type 0 where
  pub below : Below 2 frame
  pub long : length frame ≡ crc_start frame + 25
  pub fits : Fits (form (long_in frame) (dlc_in frame)) frame
  pub same : get_or frame 12 0 ≡ get_or frame 13 0
  pub not-one : dlc_in frame ≡ 1 → ⊥
  pub at_most : dlc_in frame ≤ 8
  pub check : number 0 (take 15 (drop (crc_start frame) frame)) ≡ crc (take (crc_start frame) frame)
  pub slot : get_or frame (crc_start frame + 16) 0 ≤ slot_most reading.slot

-- once the last CRC bit is read, so are all the bits before the CRC, and its own
module _ (frame l : List ℕ) (h : length frame ≡ crc_start frame + 15) where
  late : data_start frame ≤ length frame
  late = omega (arith, (start-least frame).1)

  pub front_read : take (crc_start (frame ++ l)) (frame ++ l) ≡ take (crc_start frame) frame
  front_read =
      ap (λ (n : ℕ). take n (frame ++ l)) (start-stays frame l late) ∙ take-append-le (crc_start frame) frame l (omega arith)

  pub crc-read : take 15 (drop (crc_start (frame ++ l)) (frame ++ l)) ≡ drop (crc_start frame) frame
  crc-read =
      let start = crc_start frame in
      ap (λ (n : ℕ). take 15 (drop n (frame ++ l))) (start-stays frame l late)
      ∙ ap (take 15) (drop-append-le start frame l (omega arith))
      ∙ take_at (drop start frame) l 15 (length-drop start frame ∙ omega arith)

-- and once the ACK slot is read
pub slot_read : (frame l : List ℕ) → length frame ≡ crc_start frame + 17
    → get_or (frame ++ l) (crc_start (frame ++ l) + 16) 0 ≡ get_or frame (crc_start frame + 16) 0
slot_read frame l h =
    ap (λ (n : ℕ). get_or (frame ++ l) (n + 16) 0) (start-stays frame l (omega (arith, (start-least frame).1)))
    ∙ get_or-append frame l 0 (crc_start frame + 16) (omega arith)

-- and once IDE is read, it and the bit before it
pub same_read : (frame l : List ℕ) → length frame ≡ 14 → (get_or (frame ++ l) 12 0 ≡ get_or frame 12 0) × (get_or (frame ++ l) 13 0 ≡ get_or frame 13 0)
same_read frame l h = (get_or-append frame l 0 12 (omega arith), get_or-append frame l 0 13 (omega arith))

form-right : (reading : Reading) (frame l : List ℕ) → Right reading (frame ++ l) → form_wrong frame ≡ false
form-right reading frame l right = go (eqb (length frame) 14) refl
  where
    go : (t : Bool) → eqb (length frame) 14 ≡ t → t && not (form_right frame) ≡ false
    go true e =
        let read = same_read frame l (eqb-true (length frame) 14 e) in
        ap not (eq-eqb (get_or frame 12 0) (get_or frame 13 0) (sym read.0 ∙ right.same ∙ read.1))
    go false e = refl

dlc-right : (reading : Reading) (frame l : List ℕ) → Right reading (frame ++ l) → dlc_wrong frame ≡ false
dlc-right reading frame l right = go (eqb (length frame) (data_start frame)) refl
  where
    go : (t : Bool) → eqb (length frame) (data_start frame) ≡ t → t && dlc_refused frame ≡ false
    go true e =
        let stays = dlc-stays frame l (omega (arith, eqb-true (length frame) (data_start frame) e)) in
        dlc-taken frame (λ one. right.not-one (stays ∙ one)) (omega (arith, right.at_most, stays))
    go false e = refl

crc-right : (reading : Reading) (frame l : List ℕ) → Right reading (frame ++ l) → crc_wrong frame ≡ false
crc-right reading frame l right = go (eqb (length frame) (start + 15)) refl
  where
    start : ℕ
    start = crc_start frame

    go : (t : Bool) → eqb (length frame) (start + 15) ≡ t → t && not (crc_right frame) ≡ false
    go true e =
        let h = eqb-true (length frame) (start + 15) e in
        let holds = ap (number 0) (sym (crc-read frame l h)) ∙ right.check ∙ ap crc (front_read frame l h) in
        simp (eq-eqb (number 0 (drop start frame)) (crc (take start frame)) holds)
    go false e = refl

slot-right : (reading : Reading) (frame l : List ℕ) → Right reading (frame ++ l) → slot_wrong reading frame ≡ false
slot-right reading frame l right = go (eqb (length frame) (crc_start frame + 17)) refl
  where
    go : (t : Bool) → eqb (length frame) (crc_start frame + 17) ≡ t → t && not (slot_right reading frame) ≡ false
    go true e =
        let h = eqb-true (length frame) (crc_start frame + 17) e in
        let may = rw (slot_read frame l h) at right.slot in
        ap not (le-leb _ _ may)
    go false e = refl

next_bit : (reading : Reading) (frame l : List ℕ) (b : ℕ) → Right reading (frame ++ (b ∷ l)) → Next reading frame b
unfolding complete
next_bit reading frame l b right =
    let all = frame ++ (b ∷ l) in
    let longer : Right reading ((frame ++ (b ∷ [])) ++ l) = rw append_snoc right in
    let short : length frame < crc_start (frame ++ (b ∷ l)) + 25 = omega (arith, right.long, length-append frame (b ∷ l)) in
    record {
      below = (rw drop-append_seam at (below-drop 2 (length frame) (frame ++ (b ∷ l)) right.below)).0;
      more =
          ne_eqb (length frame) (crc_start frame + 25)
          (λ e. omega (arith, start-stays frame (b ∷ l) (omega (arith, (start-least frame).1))));
      fitting = rw (must-stays frame (b ∷ l)) (fits-at (form (long_in all) (dlc_in all)) frame l b right.fits);
      form = form-right reading (frame ++ (b ∷ [])) l longer;
      dlc = dlc-right reading (frame ++ (b ∷ [])) l longer;
      check = crc-right reading (frame ++ (b ∷ [])) l longer;
      slot = slot-right reading (frame ++ (b ∷ [])) l longer;
    }

pub right-sound : (reading : Reading) (frame l : List ℕ) → Right reading (frame ++ l) → Sound reading frame l
unfolding complete
right-sound reading frame [] right =
    let all : Right reading frame = rw append-nil at right in
    eq-eqb (length frame) (crc_start frame + 25) all.long
right-sound reading frame (b ∷ l) right = (next_bit reading frame l b right, right-sound reading (frame ++ (b ∷ [])) l (rw append_snoc right))
