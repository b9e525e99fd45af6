-- The bits with which a scan finds no fault. Assumes nothing.
--     form_wrong, dlc_wrong, crc_wrong, slot_wrong, both-met    the tests behind 13 at the bit before IDE, 3, 12 and 20, of a frame's bits so far
--     Next            a frame's bits so far may go on with this bit
--     Sound           and with these bits, which make it complete
--     bit-right, right-bit       where no stuff bit is due, the scan finds no fault with these bits, and with no others
--     stuff-right, right-stuff   where one is due, it finds none with the other bit than the run's
--     due-no-more     in a complete frame no stuff bit is due
use mathlib.Core.Path.{◌≡◌, refl, sym, ◌∙◌}
use mathlib.Core.Bool.{Bool, true, false, cond, not, ◌&&◌, true≢false}
use mathlib.Core.List.{List, [], ◌∷◌, ◌++◌}
use Prim.Native.Nat.{ℕ, ◌+◌, ◌-◌, ◌<◌}
use native.Mathlib.Omega.{arith}
use lib.Dec.{eqb, ltb}
use lib.ListN.{length}
use borrow.Author.Tests.{ltb-false, eqb-true, eqb-false}
use Rattle.bits.specs.declared.Run.{Run}
use Rattle.refusals.specs.declared.Refusal.{Refusal}
use Rattle.reading.specs.Form.{fits}
use Rattle.reading.specs.Scan.{data_start, crc_start, complete, stuff_due, must_be, dlc_refused, crc_right, slot_right, form_right, shown, Verdict, right, wrong, verdict}
use Rattle.reading.specs.declared.Reading.{Reading}
use Rattle.reading.proofs.StuffDue.{due-past}
use Rattle.reading.proofs.Verdicts.{stuff-bit, frame-bit}

abbrev pub form_wrong : List ℕ → Bool
form_wrong frame = eqb (length frame) 14 && not (form_right frame)

abbrev pub dlc_wrong : List ℕ → Bool
dlc_wrong frame = eqb (length frame) (data_start frame) && dlc_refused frame

abbrev pub crc_wrong : List ℕ → Bool
crc_wrong frame = eqb (length frame) (crc_start frame + 15) && not (crc_right frame)

abbrev pub slot_wrong : Reading → List ℕ → Bool
slot_wrong reading frame = eqb (length frame) (crc_start frame + 17) && not (slot_right reading frame)

-- such a test is met
pub both-met : (s t : Bool) → s && not t ≡ true → (s ≡ true) × (t ≡ false)
both-met true false e = (refl, refl)
both-met true true e = absurd (true≢false (sym e))
both-met false t e = absurd (true≢false (sym e))

pub record Next (reading : Reading) (frame : List ℕ) (bit : ℕ) : Type 0 where
  pub below : bit < 2
  pub more : complete frame ≡ false
  pub fitting : fits (must_be frame) bit ≡ true
  pub form : form_wrong (frame ++ (bit ∷ [])) ≡ false
  pub dlc : dlc_wrong (frame ++ (bit ∷ [])) ≡ false
  pub check : crc_wrong (frame ++ (bit ∷ [])) ≡ false
  pub slot : slot_wrong reading (frame ++ (bit ∷ [])) ≡ false

abbrev pub Sound : Reading → List ℕ → List ℕ → Type 0
Sound reading frame [] = complete frame ≡ true
Sound reading frame (b ∷ l) = Next reading frame b × Sound reading (frame ++ (b ∷ [])) l

passed : (t : Bool) (refusal : Refusal) (v : Verdict) → cond t (wrong refusal) v ≡ right → (t ≡ false) × (v ≡ right)
passed true refusal v e = let z : ◌≡◌ {A = ℕ} 0 1 = cc in absurd (omega arith)
passed false refusal v e = (refl, e)

not-false : (t : Bool) → not t ≡ false → t ≡ true
not-false true e = refl
not-false false e = absurd (true≢false e)

module _ (reading : Reading) (run : Run) (frame : List ℕ) (place bit : ℕ) where
  pub bit-right : stuff_due run frame ≡ false → verdict reading run frame place bit ≡ right → Next reading frame bit
  unfolding verdict shown
  bit-right due e =
      let more = passed (complete frame) _ _ e in
      let low = passed (ltb 1 bit) _ _ more.1 in
      let may = passed (not (fits (must_be frame) bit)) _ _ (rw due at low.1) in
      let form = passed (form_wrong (frame ++ (bit ∷ []))) _ _ may.1 in
      let dlc = passed (dlc_wrong (frame ++ (bit ∷ []))) _ _ form.1 in
      let check = passed (crc_wrong (frame ++ (bit ∷ []))) _ _ dlc.1 in
      record {
        below = omega (arith, ltb-false 1 bit low.0);
        more = more.0;
        fitting = not-false (fits (must_be frame) bit) may.0;
        form = form.0;
        dlc = dlc.0;
        check = check.0;
        slot = (passed (slot_wrong reading (frame ++ (bit ∷ []))) _ _ check.1).0;
      }

  pub right-bit : stuff_due run frame ≡ false → Next reading frame bit → verdict reading run frame place bit ≡ right
  unfolding shown
  right-bit due next =
      frame-bit reading run frame place bit next.more (omega (arith, next.below)) due next.fitting
      ∙ simp (next.form, next.dlc, next.check, next.slot)

  pub stuff-right : stuff_due run frame ≡ true → verdict reading run frame place bit ≡ right → (bit < 2) × (bit ≡ run.bit → ⊥)
  unfolding verdict
  stuff-right due e =
      let low = passed (ltb 1 bit) _ _ (passed (complete frame) _ _ e).1 in
      let other = passed (eqb bit run.bit) _ _ (rw due at low.1) in
      (omega (arith, ltb-false 1 bit low.0), eqb-false bit run.bit other.0)

module _ (run : Run) (frame : List ℕ) where
  pub due-no-more : complete frame ≡ true → stuff_due run frame ≡ false
  unfolding complete
  due-no-more e = due-past run frame (omega (arith, eqb-true (length frame) (crc_start frame + 25) e))

  due-more : stuff_due run frame ≡ true → complete frame ≡ false
  due-more due = go (complete frame) refl
    where
      go : (t : Bool) → complete frame ≡ t → t ≡ false
      go true e = sym due ∙ due-no-more e
      go false e = refl

  pub right-stuff : (reading : Reading) (place : ℕ) → stuff_due run frame ≡ true → verdict reading run frame place (1 - run.bit) ≡ right
  right-stuff reading place due = stuff-bit reading run frame place (1 - run.bit) (due-more due) (omega arith) due (λ e. omega arith)
