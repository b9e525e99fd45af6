-- What is wrong with a bit: each refusal of a line, and when it is given. Assumes nothing.
--     bit-too-many     11 behind the last end bit, whatever the bit
--     byte-above-1     9
--     sixth-bit        10
--     stuff-bit        a stuff bit is right where it is the other bit
--     fixed-bit        13
--     frame-bit        a bit that may stand there is judged by what the frame then shows
--     dlc-taken, taken-dlc    a DLC is taken exactly when it is not 1 and at most 8
--     form-refused     13, with IDE, at the bit before it
--     length-refused   3, with the fourth DLC bit
--     crc-refused      12, with the last CRC bit
--     slot-refused     20, in the ACK slot
--     nothing-shown    every other bit is right, and so are these four where the bit before IDE, DLC, CRC and ACK slot are
use mathlib.Core.Path.{◌≡◌, refl, ap}
use mathlib.Core.Bool.{Bool, true, false, not, ◌&&◌, ◌||◌, true≢false}
use mathlib.Core.List.{List, [], ◌∷◌, ◌++◌}
use Prim.Native.Nat.{ℕ, ◌+◌, ◌*◌, ◌≤◌, ◌<◌}
use native.Mathlib.Omega.{arith}
use lib.Dec.{eqb, ltb}
use lib.ListN.{length}
use borrow.Author.Tests.{lt-ltb, le-ltb, eq-eqb, ne_eqb, ltb-false, eqb-true, eqb-false}
use Rattle.bits.specs.declared.Run.{Run}
use Rattle.refusals.specs.declared.Refusal.TheVariants.{FieldLength, LineByte, StuffBit, LineLength, Crc, FixedBit, NotAcknowledged}
use Rattle.reading.specs.Form.{fits}
use Rattle.reading.specs.Scan.{data_start, dlc_in, crc_start, complete, stuff_due, must_be, dlc_refused, crc_right, slot_right, form_right, before_ide, right, wrong, shown, verdict, run_with}
use Rattle.reading.specs.declared.Reading.{Reading}

-- the bit b, in the place where the frame's bits so far and the run are these
module _ (reading : Reading) (run : Run) (frame : List ℕ) (place b : ℕ) where
  pub bit-too-many : complete frame ≡ true → verdict reading run frame place b ≡ wrong (LineLength place)
  unfolding verdict
  bit-too-many e = simp e

  module _ (begun : complete frame ≡ false) where
    pub byte-above-1 : 1 < b → verdict reading run frame place b ≡ wrong (LineByte place)
    unfolding verdict
    byte-above-1 h = simp (begun, lt-ltb 1 b h)

    module _ (bit : b ≤ 1) where
      pub sixth-bit : stuff_due run frame ≡ true → b ≡ run.bit → verdict reading run frame place b ≡ wrong (StuffBit place)
      unfolding verdict
      sixth-bit due e = simp (begun, le-ltb 1 b bit, due, eq-eqb b run.bit e)

      pub stuff-bit : stuff_due run frame ≡ true → (b ≡ run.bit → ⊥) → verdict reading run frame place b ≡ right
      unfolding verdict
      stuff-bit due n = simp (begun, le-ltb 1 b bit, due, ne_eqb b run.bit n)

      pub fixed-bit : stuff_due run frame ≡ false → fits (must_be frame) b ≡ false → verdict reading run frame place b ≡ wrong (FixedBit place)
      unfolding verdict
      fixed-bit due e = simp (begun, le-ltb 1 b bit, due, e)

      pub frame-bit : stuff_due run frame ≡ false → fits (must_be frame) b ≡ true → verdict reading run frame place b ≡ shown reading (run_with run b) (frame ++ (b ∷ [])) place
      unfolding verdict
      frame-bit due e = simp (begun, le-ltb 1 b bit, due, e)

-- what the test of the DLC says
pub dlc-taken : (frame : List ℕ) → (dlc_in frame ≡ 1 → ⊥) → dlc_in frame ≤ 8 → dlc_refused frame ≡ false
dlc-taken frame n h = simp (ne_eqb (dlc_in frame) 1 n, le-ltb 8 (dlc_in frame) h)

pub taken-dlc : (frame : List ℕ) → dlc_refused frame ≡ false → (dlc_in frame ≡ 1 → ⊥) × (dlc_in frame ≤ 8)
taken-dlc frame e =
    let both = neither (eqb (dlc_in frame) 1) (ltb 8 (dlc_in frame)) e in
    (eqb-false (dlc_in frame) 1 both.0, ltb-false 8 (dlc_in frame) both.1)
  where
    neither : (s t : Bool) → (s || t) ≡ false → (s ≡ false) × (t ≡ false)
    neither true t d = absurd (true≢false d)
    neither false t d = (refl, d)

-- the frame's bits, the one at this place the last of them, and the run that it ends
module _ (reading : Reading) (run : Run) (frame : List ℕ) (place : ℕ) where
  pub form-refused : length frame ≡ 14 → form_right frame ≡ false → shown reading run frame place ≡ wrong (FixedBit (before_ide run place))
  unfolding shown
  form-refused e r = simp (eq-eqb (length frame) 14 e, r)

  -- behind IDE
  module _ (late : 14 < length frame) where
    behind-ide : eqb (length frame) 14 ≡ false
    behind-ide = ne_eqb (length frame) 14 (λ d. omega arith)

    pub length-refused : length frame ≡ data_start frame → dlc_refused frame ≡ true → shown reading run frame place ≡ wrong (FieldLength place)
    unfolding shown
    length-refused e r = simp (behind-ide, eq-eqb (length frame) (data_start frame) e, r)

    pub crc-refused : length frame ≡ crc_start frame + 15 → crc_right frame ≡ false → shown reading run frame place ≡ wrong (Crc place)
    unfolding shown crc_start
    crc-refused e r =
        let longer : length frame ≡ data_start frame → ⊥ = λ d. omega arith in
        simp (behind-ide, ne_eqb (length frame) (data_start frame) longer, eq-eqb (length frame) (data_start frame + 8 * dlc_in frame + 15) e, r)

    pub slot-refused : length frame ≡ crc_start frame + 17 → slot_right reading frame ≡ false
        → shown reading run frame place ≡ wrong (NotAcknowledged place)
    unfolding shown crc_start
    slot-refused e r =
        let behind : length frame ≡ data_start frame → ⊥ = λ d. omega arith in
        let longer : length frame ≡ data_start frame + 8 * dlc_in frame + 15 → ⊥ = λ d. omega arith in
        simp (
          behind-ide,
          ne_eqb (length frame) (data_start frame) behind,
          ne_eqb (length frame) (data_start frame + 8 * dlc_in frame + 15) longer,
          eq-eqb (length frame) (data_start frame + 8 * dlc_in frame + 17) e,
          r,
        )

  pub nothing-shown : (length frame ≡ 14 → form_right frame ≡ true) → (length frame ≡ data_start frame → dlc_refused frame ≡ false)
      → (length frame ≡ crc_start frame + 15 → crc_right frame ≡ true)
      → (length frame ≡ crc_start frame + 17 → slot_right reading frame ≡ true) → shown reading run frame place ≡ right
  unfolding shown
  nothing-shown form fine check slot =
      rw (
        quiet (eqb (length frame) 14) (not (form_right frame)) (λ e. ap not (form (eqb-true _ _ e))),
        quiet (eqb (length frame) (data_start frame)) (dlc_refused frame) (λ e. fine (eqb-true _ _ e)),
        quiet (eqb (length frame) (crc_start frame + 15)) (not (crc_right frame)) (λ e. ap not (check (eqb-true _ _ e))),
        quiet (eqb (length frame) (crc_start frame + 17)) (not (slot_right reading frame)) (λ e. ap not (slot (eqb-true _ _ e))),
      )
    where
      quiet : (t u : Bool) → (t ≡ true → u ≡ false) → (t && u) ≡ false
      quiet true u h = h refl
      quiet false u h = refl
