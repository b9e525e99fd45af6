-- The first bits of a frame that is right are a header. Assumes nothing.
--     identifier-few, identifier-width    the identifier found in them is allowed, and its form has as many header bits
--     header-part     they are the header of that identifier, with all that stands behind it
use mathlib.Core.Path.{◌≡◌, refl, sym, ap, ap₂, ◌∙◌}
use mathlib.Core.Bool.{Bool, true, false, cond}
use mathlib.Core.List.{List, [], ◌∷◌, ◌++◌, append_assoc}
use Prim.Native.Nat.{ℕ, ◌+◌, ◌-◌, ◌/◌, ◌^◌, ◌≤◌, ◌<◌}
use native.Mathlib.Omega.{arith}
use lib.Dec.{lit<}
use lib.ListN.{length, get_or, take, drop, length-append, length-drop}
use lib.Seq.{take_at, drop_at, drop-cons, drop-drop, take-add, length-take-le}
use borrow.Author.Tests.{eqb-true, eqb-false}
use Rattle.bits.specs.Below.{Below}
use Rattle.bits.specs.Rows.{bits, number}
use Rattle.bits.proofs.Below.{below-append, below-take}
use Rattle.bits.proofs.Rows.{bits-length, bits-split, bits-number, number-below}
use Rattle.wire.specs.declared.Identifier.{Identifier}
use Rattle.wire.specs.declared.Identifier.TheVariants.{Base, Long}
use Rattle.wire.specs.Identifier.{number_in, greatest, Allowed}
use Rattle.wire.specs.Header.{header_of, long_part, header}
use Rattle.wire.proofs.HeaderBits.{header_length}
use Rattle.reading.specs.Form.{header_form, form}
use Rattle.reading.specs.Scan.{long_in, header_width, data_start, identifier_in, dlc_in}
use Rattle.reading.specs.declared.Reading.{Reading}
use Rattle.reading.proofs.Partial.{form-is, dlc-there}
use Rattle.reading.proofs.Right.{Right}
use Rattle.line.proofs.Parts.{long, enough, cut, below-from, fixed-part, number-part}

module _ {reading : Reading} {frame : List ℕ} (right : Right reading frame) where
  abbrev high_bits : List ℕ
  high_bits = take 11 (drop 1 frame)

  abbrev low_bits : List ℕ
  low_bits = take 18 (drop 14 frame)

  abbrev both_bits : List ℕ
  both_bits = high_bits ++ low_bits

  high-length : length high_bits ≡ 11
  high-length = length-take-le 11 (drop 1 frame) (omega (arith, enough right, length-drop 1 frame))

  both-length : length both_bits ≡ 29
  both-length =
      let low : length low_bits ≡ 18 = length-take-le 18 (drop 14 frame) (omega (arith, enough right, length-drop 14 frame)) in
      length-append high_bits low_bits ∙ omega (arith, high-length, low)

  high-below : Below 2 high_bits
  high-below = below-take 2 11 (drop 1 frame) (below-from right 1)

  both_below : Below 2 both_bits
  both_below = below-append 2 high_bits low_bits high-below (below-take 2 18 (drop 14 frame) (below-from right 14))

  -- the identifier, in a form
  abbrev identifier_as : Bool → Identifier
  identifier_as t = cond t (Long (number 0 both_bits)) (Base (number 0 high_bits))

  pub identifier-few : Allowed (identifier_in frame)
  unfolding identifier_in
  identifier-few = go (long_in frame)
    where
      go : (t : Bool) → number_in (identifier_as t) ≤ greatest (identifier_as t)
      go true = let h : number 0 both_bits < 2 ^ 29 = rw both-length at (number-below both_bits both_below) in omega (arith, h)
      go false = let h : number 0 high_bits < 2 ^ 11 = rw high-length at (number-below high_bits high-below) in omega (arith, h)

  pub identifier-width : header_length (identifier_in frame) ≡ data_start frame
  unfolding identifier_in header_width
  identifier-width = go (long_in frame)
    where
      go : (t : Bool) → header_length (identifier_as t) ≡ header_width t
      go true = refl
      go false = refl

  -- the high bits and the low bits of an identifier of the long form
  long-parts : let n = number 0 both_bits in (high_bits ≡ bits 11 (n / 2 ^ 18)) × (low_bits ≡ bits 18 n)
  long-parts =
      let n = number 0 both_bits in
      let high = bits 11 (n / 2 ^ 18) in
      let whole : both_bits ≡ high ++ bits 18 n
      = sym (bits-number 0 both_bits both_below) ∙ ap (λ (k : ℕ). bits k n) both-length ∙ bits-split 11 18 n in
      let size = bits-length 11 (n / 2 ^ 18) in (
        sym (take_at high_bits low_bits 11 high-length) ∙ ap (take 11) whole ∙ take_at high (bits 18 n) 11 size,
        sym (drop_at high_bits low_bits 11 high-length) ∙ ap (drop 11) whole ∙ drop_at high (bits 18 n) 11 size,
      )

  -- a header that has m bits more than that of the base form
  header_of_lem : (m ide : ℕ) (eleven more : List ℕ) (f : List ℕ) → data_start frame ≡ 19 + m → get_or frame 13 0 ≡ ide
      → high_bits ≡ eleven → take m (drop 14 frame) ≡ more → drop (14 + m) (form (long_in frame) (dlc_in frame)) ≡ 0 ∷ f
      → frame ≡ header_of eleven ide more (bits 4 (dlc_in frame)) ++ drop (data_start frame) frame
  unfolding header_form
  header_of_lem m ide eleven more f width is high others must =
      let n = dlc_in frame in
      let rest = drop (data_start frame) frame in
      let read : 19 + m ≤ length frame = omega (arith, long right, width) in
      let start = fixed-part right 0 1 0 _ (lit< tt) (omega (arith, enough right)) (form-is (long_in frame) n) in
      let pair : drop 12 frame ≡ ide ∷ ide ∷ drop 14 frame
      = drop-cons frame 12 0 (omega (arith, enough right))
      ∙ ap₂ ◌∷◌ (right.same ∙ is) (drop-cons frame 13 0 (omega (arith, enough right)) ∙ ap (◌∷ drop 14 frame) is) in
      let reserved = fixed-part right (14 + m) 1 0 f (lit< tt) (omega (arith, read)) must in
      let at : data_start frame - 4 ≡ 14 + m + 1 = omega (arith, width) in
      let there : number 0 (take 4 (drop (14 + m + 1) frame)) ≡ n
      = ap (λ (k : ℕ). number 0 (take 4 (drop k frame))) (sym at) ∙ sym (dlc-there frame (omega (arith, read, width))) in
      let behind : 14 + m + 1 + 4 ≡ data_start frame = omega (arith, width) in
      let dlc : drop (14 + m + 1) frame ≡ bits 4 n ++ rest
      = cut right (14 + m + 1) 4
      ∙ ap₂ ◌++◌ (number-part right (14 + m + 1) 4 (omega (arith, read)) ∙ ap (bits 4) there) (ap (λ (k : ℕ). drop k frame) behind) in
      cut right 0 1 ∙ ap (◌++ drop 1 frame) start
      ∙ ap (0 ∷◌)
      (cut right 1 11 ∙ ap₂ ◌++◌ high (pair ∙ ap (λ (l : List ℕ). ide ∷ ide ∷ l)
      (cut right 14 m ∙ ap₂ ◌++◌ others (cut right (14 + m) 1 ∙ ap₂ ◌++◌ reserved dlc) ∙ sym (append_assoc more (0 ∷ bits 4 n) rest)))
      ∙ sym (append_assoc eleven (ide ∷ ide ∷ (more ++ (0 ∷ bits 4 n))) rest))

  pub header-part : frame ≡ header (identifier_in frame) (dlc_in frame) ++ drop (data_start frame) frame
  unfolding identifier_in header header_form header_width long_in
  header-part = go (long_in frame) refl
    where
      n : ℕ
      n = dlc_in frame

      bit : get_or frame 13 0 < 2
      bit = (rw (drop-cons frame 13 0 (omega (arith, enough right))) at (below-from right 13)).0

      go : (t : Bool) → long_in frame ≡ t → frame ≡ header (identifier_as t) n ++ drop (data_start frame) frame
      go true e =
          let must : form (long_in frame) n ≡ form true n = ap (λ (t : Bool). form t n) e in
          let two = fixed-part right 32 2 0 _ (lit< tt) (omega (arith, enough right)) (ap (drop 32) (must ∙ form-is true n)) in
          let others : take 20 (drop 14 frame) ≡ long_part (bits 18 (number 0 both_bits))
          = take-add 18 2 (drop 14 frame)
          ∙ ap₂ ◌++◌ long-parts.1 (ap (take 2) (drop-drop 18 14 frame) ∙ two) in
          header_of_lem 20 1 (bits 11 (number 0 both_bits / 2 ^ 18)) (long_part (bits 18 (number 0 both_bits))) _ (ap header_width e)
          (eqb-true (get_or frame 13 0) 1 e) long-parts.0 others (ap (drop 34) (must ∙ form-is true n))
      go false e =
          let must : form (long_in frame) n ≡ form false n = ap (λ (t : Bool). form t n) e in
          let other = eqb-false (get_or frame 13 0) 1 e in
          header_of_lem 0 0 (bits 11 (number 0 high_bits)) [] _ (ap header_width e) (omega (arith, bit, other))
          (number-part right 1 11 (omega (arith, enough right))) refl (ap (drop 14) (must ∙ form-is false n))
