-- What is known of a frame that reaches into a row. Assumes nothing.
--     Known, how-known    the form behind IDE, the DLC behind the header
--     crc-known, early-or-known    where the CRC starts; where the DLC is not known yet, nothing hangs on it
--     to-the-crc, behind-the-crc    the frame's bits do not reach behind the CRC, or they do
--     not-complete    the frame is not complete
use mathlib.Core.Path.{◌≡◌, refl, ap, ap₂}
use mathlib.Core.Bool.{Bool, true, false}
use mathlib.Core.List.{List}
use mathlib.Core.Logic.{◌⊎◌, inl, inr}
use Prim.Native.Nat.{ℕ, ◌+◌, ◌*◌, ◌≤◌, ◌<◌}
use native.Mathlib.Omega.{arith}
use lib.Dec.{ltb}
use lib.ListN.{length}
use borrow.Author.Tests.{ne_eqb, ltb-true, ltb-false}
use Rattle.reading.specs.Scan.{long_in, header_width, data_start, dlc_in, crc_start, complete}
use Rattle.reading.proofs.Partial.{width-least}
use Rattle.scanning.proofs.Positions.{end_of, ide-end, header-end, delimiter-end, end-within}

-- what is known of a frame's bits so far
pub data Known (long : Bool) (n : ℕ) (frame : List ℕ) : Type 0 where
  early : length frame < 14 → Known long n frame
  in-header : long_in frame ≡ long → length frame < header_width long → Known long n frame
  all_known : long_in frame ≡ long → dlc_in frame ≡ n → Known long n frame

-- a frame that reaches into field f, or up to its end; the form is known behind IDE, the DLC behind the header
module _ (f : ℕ) (long : Bool) (n : ℕ) (frame : List ℕ) (formed : 1 < f → long_in frame ≡ long) (known : 4 < f → dlc_in frame ≡ n) where
  pub how-known : length frame < end_of f long n → Known long n frame
  how-known to = form (ltb 1 f) refl
    where
      behind-ide : 1 < f → (t : Bool) → ltb 4 f ≡ t → Known long n frame
      behind-ide late true e = all_known (formed late) (known (ltb-true 4 f e))
      behind-ide late false e = in-header (formed late) (omega (arith, to, header-end long n f (ltb-false 4 f e)))

      form : (t : Bool) → ltb 1 f ≡ t → Known long n frame
      form true e = behind-ide (ltb-true 1 f e) (ltb 4 f) refl
      form false e = early (omega (arith, to, ide-end long n f (ltb-false 1 f e)))

  pub crc-known : 4 < f → crc_start frame ≡ header_width long + 8 * n
  unfolding crc_start
  crc-known late = ap₂ (λ (t : Bool) (k : ℕ). header_width t + 8 * k) (formed (omega arith)) (known late)

  pub early-or-known : length frame < end_of f long n → (length frame < data_start frame) ⊎ (crc_start frame ≡ header_width long + 8 * n)
  unfolding crc_start
  early-or-known to = go (how-known to)
    where
      go : Known long n frame → (length frame < data_start frame) ⊎ (data_start frame + 8 * dlc_in frame ≡ header_width long + 8 * n)
      go (early e) = inl (omega (arith, width-least (long_in frame)))
      go (in-header is e) = inl (omega (arith, e, ap header_width is))
      go (all_known is e) = inr (ap₂ (λ (t : Bool) (k : ℕ). header_width t + 8 * k) is e)

  pub to-the-crc : length frame < end_of f long n → f ≤ 7 → length frame ≤ crc_start frame + 15
  unfolding crc_start
  to-the-crc to g = go (early-or-known to)
    where
      go : (length frame < data_start frame) ⊎ (data_start frame + 8 * dlc_in frame ≡ header_width long + 8 * n)
          → length frame ≤ data_start frame + 8 * dlc_in frame + 15
      go (inl e) = omega arith
      go (inr e) = omega (arith, e, to, delimiter-end long n f g)

  pub behind-the-crc : header_width long + 8 * n + 15 < length frame → 6 < f → crc_start frame + 15 < length frame
  behind-the-crc over g = omega (arith, crc-known (omega arith))

  pub not-complete : length frame < end_of f long n → f < 10 → complete frame ≡ false
  unfolding complete crc_start
  not-complete to h = ne_eqb (length frame) (data_start frame + 8 * dlc_in frame + 25) (λ e. go (early-or-known to) e)
    where
      go : (length frame < data_start frame) ⊎ (data_start frame + 8 * dlc_in frame ≡ header_width long + 8 * n)
          → length frame ≡ data_start frame + 8 * dlc_in frame + 25 → ⊥
      go (inl d) e = omega arith
      go (inr d) e = omega (arith, d, to, end-within long n f h)
