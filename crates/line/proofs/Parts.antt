-- Some bits of a frame that is right, from a position on. Assumes nothing.
--     long, enough, cut, below-from, fits-from
--     fixed-part      bits that are the same in all frames
--     number-part     bits of a number
use mathlib.Core.Path.{◌≡◌, sym, ap, ◌∙◌}
use mathlib.Core.List.{List, ◌++◌}
use Prim.Native.Nat.{ℕ, ◌+◌, ◌*◌, ◌≤◌, ◌<◌}
use native.Mathlib.Omega.{arith}
use lib.ListN.{length, take, drop, replicate, length-drop, take-append-drop}
use lib.Seq.{drop-drop, length-take-le}
use Rattle.bits.specs.Below.{Below}
use Rattle.bits.specs.Rows.{bits, number}
use Rattle.bits.proofs.Below.{below-take, below-drop}
use Rattle.bits.proofs.Rows.{bits-number}
use Rattle.reading.specs.Form.{form}
use Rattle.reading.specs.Scan.{long_in, data_start, dlc_in, crc_start}
use Rattle.reading.specs.declared.Reading.{Reading}
use Rattle.reading.proofs.Partial.{width-least}
use Rattle.reading.proofs.Fits.{Fits, fits-drop, fits-fixed}
use Rattle.reading.proofs.Right.{Right}

module _ {reading : Reading} {frame : List ℕ} (right : Right reading frame) where
  pub long : length frame ≡ data_start frame + 8 * dlc_in frame + 25
  unfolding crc_start
  long = right.long

  pub enough : 44 ≤ length frame
  enough = omega (arith, long, width-least (long_in frame))

  pub cut : (i n : ℕ) → drop i frame ≡ take n (drop i frame) ++ drop (i + n) frame
  cut i n = sym (take-append-drop n (drop i frame)) ∙ ap (take n (drop i frame) ++◌) (drop-drop n i frame)

  pub below-from : (i : ℕ) → Below 2 (drop i frame)
  below-from i = below-drop 2 i frame right.below

  pub fits-from : (i : ℕ) (f : List ℕ) → drop i (form (long_in frame) (dlc_in frame)) ≡ f → Fits f (drop i frame)
  fits-from i f e = rw e at (fits-drop i (form (long_in frame) (dlc_in frame)) frame right.fits)

  -- bits that are the same in all frames, and bits of a number
  pub fixed-part : (i n v : ℕ) (f : List ℕ) → v < 2 → i + n ≤ length frame
      → drop i (form (long_in frame) (dlc_in frame)) ≡ replicate n v ++ f → take n (drop i frame) ≡ replicate n v
  fixed-part i n v f h enough e =
      fits-fixed n v f (drop i frame) h (below-from i) (omega (arith, length-drop i frame)) (fits-from i (replicate n v ++ f) e)

  pub number-part : (i n : ℕ) → i + n ≤ length frame → take n (drop i frame) ≡ bits n (number 0 (take n (drop i frame)))
  number-part i n enough =
      let part = take n (drop i frame) in
      let size : length part ≡ n = length-take-le n (drop i frame) (omega (arith, length-drop i frame)) in
      sym (bits-number 0 part (below-take 2 n (drop i frame) (below-from i))) ∙ ap (λ (k : ℕ). bits k (number 0 part)) size
