-- What a 20 comes of. Assumes nothing.
--     slot-bit       the bit in the ACK slot, as it is read
--     Unheard, unheard    it is 1 where the reading takes only a 0
--     either-taken        a reading that takes either finds nothing wrong there
use mathlib.Core.Path.{◌≡◌, refl, ap, ◌∙◌}
use mathlib.Core.Bool.{Bool, true, false, not, ◌&&◌}
use mathlib.Core.List.{List, [], ◌∷◌, ◌++◌}
use Prim.Native.Nat.{ℕ, ◌+◌, ◌≤◌}
use native.Mathlib.Omega.{arith}
use lib.Dec.{eqb}
use lib.ListN.{length, get_or, length-append}
use lib.Seq.{get_or-append-add}
use borrow.Author.Tests.{le-leb, leb-false, eqb-true}
use Rattle.bits.specs.declared.Run.{Run}
use Rattle.refusals.specs.declared.Refusal.{Refusal}
use Rattle.refusals.specs.declared.Refusal.TheVariants.{NotAcknowledged}
use Rattle.refusals.specs.Table.{number_of}
use Rattle.reading.specs.Scan.{header_width, data_start, crc_start, slot_most, slot_right, wrong, verdict}
use Rattle.reading.specs.declared.Reading.{Reading}
use Rattle.reading.specs.declared.AckSlot.TheVariants.{Either}
use Rattle.reading.proofs.Partial.{start-least, long-stays, start-stays}
use Rattle.reading.proofs.Sound.{both-met, slot_wrong}
use Rattle.reading.proofs.Fault.{Fault, bit-too-many, no-bit, no-stuff-bit, fixed-bit, before-ide, wrong-dlc, wrong-crc, wrong-slot, fault}

pub slot-bit : (frame : List ℕ) (b : ℕ) →
    let with = frame ++ (b ∷ []) in
    length with ≡ crc_start with + 17 → get_or with (crc_start with + 16) 0 ≡ b
slot-bit frame b e =
    let with = frame ++ (b ∷ []) in
    let at : crc_start with + 16 ≡ length frame + 0 = omega (arith, length-append frame (b ∷ [])) in
    ap (λ (k : ℕ). get_or with k 0) at ∙ get_or-append-add frame (b ∷ []) 0 0

-- with the bit b behind the frame's bits so far
module _ (run : Run) (frame : List ℕ) (place b : ℕ) where
  abbrev with : List ℕ
  with = frame ++ (b ∷ [])

  -- 20 comes of the ACK slot alone
  module _ (p : ℕ) where
    abbrev pub Unheard : Reading → Type 0
    Unheard reading = (place ≡ p) × (b ≡ 1) × (slot_most reading.slot ≡ 0) × (length frame ≡ crc_start frame + 16)

    other : {A : Type 0} {r : Refusal} → (20 ≡ number_of r → ⊥) → NotAcknowledged p ≡ r → A
    other n e = absurd (n (ap number_of e))

    in-slot : (reading : Reading) → b ≤ 1 → slot_wrong reading with ≡ true → place ≡ p → Unheard reading
    in-slot reading low met there =
        let tests = both-met (eqb (length with) (crc_start with + 17)) (slot_right reading with) met in
        let here = eqb-true (length with) (crc_start with + 17) tests.0 in
        let over = leb-false (get_or with (crc_start with + 16) 0) (slot_most reading.slot) tests.1 in
        let is = slot-bit frame b here in
        let one = length-append frame (b ∷ []) in
        let least = start-least with in
        let same : data_start with ≡ data_start frame = ap header_width (long-stays frame (b ∷ []) (omega (arith, here, one, least.0))) in
        let stays = start-stays frame (b ∷ []) (omega (arith, here, one, least.1, same)) in
        (there, omega (arith, over, is), omega (arith, over, is), omega (arith, here, one, stays))

    pub unheard : (reading : Reading) → verdict reading run frame place b ≡ wrong (NotAcknowledged p) → Unheard reading
    unheard reading e = go (fault reading run frame place b (NotAcknowledged p) e)
      where
        go : Fault reading run frame place b (NotAcknowledged p) → Unheard reading
        go (bit-too-many r) = other (λ z. omega arith) r
        go (no-bit high r) = other (λ z. omega arith) r
        go (no-stuff-bit due r) = other (λ z. omega arith) r
        go (fixed-bit may r) = other (λ z. omega arith) r
        go (before-ide low due form r) = other (λ z. omega arith) r
        go (wrong-dlc dlc r) = other (λ z. omega arith) r
        go (wrong-crc check r) = other (λ z. omega arith) r
        go (wrong-slot low slot r) = let is : place ≡ p = cc in in-slot reading low slot is

  pub either-taken : (reading : Reading) → reading.slot ≡ Either → b ≤ 1 → slot_wrong reading with ≡ false
  either-taken reading either low = go (eqb (length with) (crc_start with + 17)) refl
    where
      go : (t : Bool) → eqb (length with) (crc_start with + 17) ≡ t → t && not (slot_right reading with) ≡ false
      go true e = let is = slot-bit frame b (eqb-true _ _ e) in rw either (ap not (le-leb (get_or with (crc_start with + 16) 0) 1 (omega (arith, is))))
      go false e = refl
