-- The parts of a frame, by row. Assumes nothing.
--     Stage, stage   which part of the frame a row is in, and where it ends
use mathlib.Core.Path.{◌≡◌, refl, ap, ◌∙◌}
use mathlib.Core.Bool.{Bool, true, false}
use Prim.Native.Nat.{ℕ, suc, ◌+◌, ◌*◌, ◌≤◌, ◌<◌}
use native.Mathlib.Omega.{arith}
use lib.Dec.{eqb, ltb}
use borrow.Author.Tests.{ltb-true, ltb-false, eqb-true, eqb-false}
use Rattle.reading.specs.Scan.{header_width}
use Rattle.scanning.proofs.Positions.{start_of, end_of, later, identifier-start, form-start, dlc-start, data-start, crc-start, ending-start, slot-start, last-start, frame-end}

-- start of frame, the bits from there to IDE, the other header fields but the DLC, the DLC, data, CRC, the ACK slot, and the other bits
-- that are never stuffed
pub data Stage (long : Bool) (n f : ℕ) : Type 0 where
  first_bit : f ≡ 0 → end_of f long n ≡ 1 → Stage long n f
  ide : f ≡ 1 → end_of f long n ≡ 14 → Stage long n f
  before-dlc : 1 < f → f < 4 → end_of f long n + 4 ≤ header_width long → Stage long n f
  dlc : f ≡ 4 → end_of f long n ≡ header_width long → Stage long n f
  data-bits : f ≡ 5 → end_of f long n ≡ header_width long + 8 * n → Stage long n f
  crc-bits : f ≡ 6 → end_of f long n ≡ header_width long + 8 * n + 15 → Stage long n f
  ack-slot : f ≡ 8 → end_of f long n ≡ header_width long + 8 * n + 17 → Stage long n f
  ending : 6 < f → header_width long + 8 * n + 15 < end_of f long n → (end_of f long n ≡ header_width long + 8 * n + 17 → ⊥) → Stage long n f

pub stage : (long : Bool) (n f : ℕ) → f < 10 → Stage long n f
unfolding end_of
stage long n f h = first (eqb f 0) refl
  where
    ends : (k : ℕ) → f ≡ k → start_of (suc f) long n ≡ start_of (suc k) long n
    ends k i = ap (λ (j : ℕ). start_of (suc j) long n) i

    -- the CRC delimiter, or what stands behind the ACK slot
    eighth : (t : Bool) → ltb f 8 ≡ t → 6 < f → (f ≡ 8 → ⊥) → Stage long n f
    eighth true e g not-slot =
        let i = ltb-true f 8 e in
        let end : start_of (suc f) long n ≡ header_width long + 8 * n + 16 = ends 7 (omega arith) ∙ slot-start long n in
        ending g (omega (arith, end)) (λ d. omega (arith, end, d))
    eighth false e g not-slot =
        let end = later long n 10 (suc f) (omega (arith, ltb-false f 8 e)) in
        ending g (omega (arith, end, frame-end long n)) (λ d. omega (arith, end, frame-end long n, d))

    seventh : (t : Bool) → eqb f 8 ≡ t → 6 < f → Stage long n f
    seventh true e g = let i = eqb-true f 8 e in ack-slot i (ends 8 i ∙ last-start long n)
    seventh false e g = eighth (ltb f 8) refl g (eqb-false f 8 e)

    sixth : (t : Bool) → eqb f 6 ≡ t → 6 ≤ f → Stage long n f
    sixth true e g = let i = eqb-true f 6 e in crc-bits i (ends 6 i ∙ ending-start long n)
    sixth false e g = let i = eqb-false f 6 e in seventh (eqb f 8) refl (omega arith)

    fifth : (t : Bool) → eqb f 5 ≡ t → 5 ≤ f → Stage long n f
    fifth true e g = let i = eqb-true f 5 e in data-bits i (ends 5 i ∙ crc-start long n)
    fifth false e g = let i = eqb-false f 5 e in sixth (eqb f 6) refl (omega arith)

    fourth : (t : Bool) → eqb f 4 ≡ t → 4 ≤ f → Stage long n f
    fourth true e g = let i = eqb-true f 4 e in dlc i (ends 4 i ∙ data-start long n)
    fourth false e g = let i = eqb-false f 4 e in fifth (eqb f 5) refl (omega arith)

    third : (t : Bool) → ltb f 4 ≡ t → 1 < f → Stage long n f
    third true e g =
        let i = ltb-true f 4 e in
        before-dlc g i (omega (arith, later long n (suc f) 4 i, dlc-start long n))
    third false e g = fourth (eqb f 4) refl (ltb-false f 4 e)

    second : (t : Bool) → eqb f 1 ≡ t → 1 ≤ f → Stage long n f
    second true e g = let i = eqb-true f 1 e in ide i (ends 1 i ∙ form-start long n)
    second false e g = let i = eqb-false f 1 e in third (ltb f 4) refl (omega arith)

    first : (t : Bool) → eqb f 0 ≡ t → Stage long n f
    first true e = let i = eqb-true f 0 e in first_bit i (ends 0 i ∙ identifier-start long n)
    first false e = second (eqb f 1) refl (omega (arith, eqb-false f 0 e))
