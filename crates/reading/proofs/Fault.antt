-- What a bit is refused for. Assumes nothing.
--     Fault, fault    each way to a refusal: what is wrong, and with what it is refused
use mathlib.Core.Path.{◌≡◌, refl}
use mathlib.Core.Bool.{Bool, true, false, cond, not}
use mathlib.Core.List.{List, [], ◌∷◌, ◌++◌}
use Prim.Native.Nat.{ℕ, ◌≤◌, ◌<◌}
use native.Mathlib.Omega.{arith}
use lib.Dec.{eqb, ltb}
use borrow.Author.Tests.{ltb-true, ltb-false}
use Rattle.bits.specs.declared.Run.{Run}
use Rattle.refusals.specs.declared.Refusal.{Refusal}
use Rattle.refusals.specs.declared.Refusal.TheVariants.{FieldLength, LineByte, StuffBit, LineLength, Crc, FixedBit, NotAcknowledged}
use Rattle.reading.specs.Form.{fits}
use Rattle.reading.specs.Scan.{complete, stuff_due, must_be, before_ide, right, wrong, shown, verdict, run_with}
use Rattle.reading.specs.declared.Reading.{Reading}
use Rattle.reading.proofs.Sound.{form_wrong, dlc_wrong, crc_wrong, slot_wrong}

pub data Fault (reading : Reading) (run : Run) (frame : List ℕ) (place bit : ℕ) (refusal : Refusal) : Type 0 where
  bit-too-many : refusal ≡ LineLength place → Fault reading run frame place bit refusal
  no-bit : 1 < bit → refusal ≡ LineByte place → Fault reading run frame place bit refusal
  no-stuff-bit : stuff_due run frame ≡ true → refusal ≡ StuffBit place → Fault reading run frame place bit refusal
  fixed-bit : fits (must_be frame) bit ≡ false → refusal ≡ FixedBit place → Fault reading run frame place bit refusal
  before-ide : bit ≤ 1 → stuff_due run frame ≡ false → form_wrong (frame ++ (bit ∷ [])) ≡ true → refusal ≡ FixedBit (before_ide (run_with run bit) place)
      → Fault reading run frame place bit refusal
  wrong-dlc : dlc_wrong (frame ++ (bit ∷ [])) ≡ true → refusal ≡ FieldLength place → Fault reading run frame place bit refusal
  wrong-crc : crc_wrong (frame ++ (bit ∷ [])) ≡ true → refusal ≡ Crc place → Fault reading run frame place bit refusal
  wrong-slot : bit ≤ 1 → slot_wrong reading (frame ++ (bit ∷ [])) ≡ true → refusal ≡ NotAcknowledged place
      → Fault reading run frame place bit refusal

module _ (reading : Reading) (run : Run) (frame : List ℕ) (place bit : ℕ) (refusal : Refusal) where
  abbrev with : List ℕ
  with = frame ++ (bit ∷ [])

  told : {r : Refusal} → wrong r ≡ wrong refusal → refusal ≡ r
  told e = cc

  nothing : right ≡ wrong refusal → Fault reading run frame place bit refusal
  nothing e = let z : ◌≡◌ {A = ℕ} 0 1 = cc in absurd (omega arith)

  -- once it is a bit of the frame
  frame-fault : bit ≤ 1 → stuff_due run frame ≡ false → (s t u v : Bool)
      → form_wrong with ≡ s → dlc_wrong with ≡ t → crc_wrong with ≡ u → slot_wrong reading with ≡ v
      → cond s (wrong (FixedBit (before_ide (run_with run bit) place))) (cond t (wrong (FieldLength place)) (cond u (wrong (Crc place))
      (cond v (wrong (NotAcknowledged place)) right))) ≡ wrong refusal → Fault reading run frame place bit refusal
  frame-fault low due true t u v form dlc check slot e = before-ide low due form (told e)
  frame-fault low due false true u v form dlc check slot e = wrong-dlc dlc (told e)
  frame-fault low due false false true v form dlc check slot e = wrong-crc check (told e)
  frame-fault low due false false false true form dlc check slot e = wrong-slot low slot (told e)
  frame-fault low due false false false false form dlc check slot e = nothing e

  pub fault : verdict reading run frame place bit ≡ wrong refusal → Fault reading run frame place bit refusal
  unfolding verdict shown
  fault e = go (complete frame) (ltb 1 bit) (stuff_due run frame) (eqb bit run.bit) (fits (must_be frame) bit) refl refl refl e
    where
      go : (more byte due same may : Bool) → ltb 1 bit ≡ byte → stuff_due run frame ≡ due → fits (must_be frame) bit ≡ may
          → cond more (wrong (LineLength place)) (cond byte (wrong (LineByte place)) (cond due (cond same (wrong (StuffBit place)) right)
          (cond (not may) (wrong (FixedBit place)) (shown reading (run_with run bit) with place)))) ≡ wrong refusal
          → Fault reading run frame place bit refusal
      go true byte due same may low d m e = bit-too-many (told e)
      go false true due same may low d m e = no-bit (ltb-true 1 bit low) (told e)
      go false false true true may low d m e = no-stuff-bit d (told e)
      go false false true false may low d m e = nothing e
      go false false false same false low d m e = fixed-bit m (told e)
      go false false false same true low d m e =
          frame-fault (ltb-false 1 bit low) d (form_wrong with) (dlc_wrong with) (crc_wrong with) (slot_wrong reading with) refl refl refl refl e
