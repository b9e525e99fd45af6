-- The header's bits, in each form, are right, and give identifier and DLC back. Assumes nothing.
use mathlib.Core.Path.{◌≡◌, refl, sym, ap, ◌∙◌}
use mathlib.Core.Bool.{Bool, true, false}
use mathlib.Core.List.{List, [], ◌∷◌, ◌++◌}
use Prim.Native.Nat.{ℕ, ◌/◌, ◌^◌}
use native.Mathlib.Nat.{mod-eq_of_lt}
use native.Mathlib.Omega.{arith}
use lib.ListN.{length, get_or, length-append}
use Rattle.bits.specs.Rows.{bits, number}
use Rattle.bits.proofs.Rows.{bits-length, bits-split, number-low}
use Rattle.wire.specs.declared.Identifier.{Identifier}
use Rattle.wire.specs.declared.Identifier.TheVariants.{Base, Long}
use Rattle.wire.specs.Identifier.{Allowed}
use Rattle.wire.specs.Header.{header_of, long_part, header}
use Rattle.wire.proofs.HeaderBits.{header_length}
use Rattle.reading.specs.Form.{either, free, header_form}
use Rattle.reading.specs.Scan.{long_in, header_width, data_start, identifier_in}
use Rattle.reading.proofs.Fits.{Fits, fits-append, fits-free, fits-same}

abbrev pub long_of : Identifier → Bool
long_of (Base number) = false
long_of (Long number) = true

pub header-long : (identifier : Identifier) (n : ℕ) → long_in (header identifier n) ≡ long_of identifier
unfolding header bits long_in
header-long (Base number) n = refl
header-long (Long number) n = refl

pub width_is : (identifier : Identifier) → header_width (long_of identifier) ≡ header_length identifier
unfolding header_width
width_is (Base number) = refl
width_is (Long number) = refl

pub header-start : (identifier : Identifier) (n : ℕ) → data_start (header identifier n) ≡ header_length identifier
header-start identifier n = ap header_width (header-long identifier n) ∙ width_is identifier

pub header-same : (identifier : Identifier) (n : ℕ) (l : List ℕ) → get_or (header identifier n ++ l) 12 0 ≡ get_or (header identifier n ++ l) 13 0
unfolding header bits
header-same (Base number) n l = refl
header-same (Long number) n l = refl

parts-fit : (number ide n : ℕ) (must more : List ℕ) → length must ≡ length more → Fits must more
    → Fits (header_of (free 11) either must (free 4)) (header_of (bits 11 number) ide more (bits 4 n))
parts-fit number ide n must more size fit =
    let behind = fits-append must (0 ∷ free 4) more (0 ∷ bits 4 n) size fit (refl, fits-free 4 (bits 4 n)) in (
      refl,
      fits-append (free 11) (either ∷ either ∷ (must ++ (0 ∷ free 4))) (bits 11 number) (ide ∷ ide ∷ (more ++ (0 ∷ bits 4 n)))
          (sym (bits-length 11 number)) (fits-free 11 (bits 11 number)) (refl, (refl, behind)),
    )

pub header-fits : (identifier : Identifier) (n : ℕ) → Fits (header_form (long_of identifier)) (header identifier n)
unfolding header header_form
header-fits (Base number) n = parts-fit number 0 n [] [] refl tt
header-fits (Long number) n =
    let low = bits 18 number in
    let zeros : List ℕ = 0 ∷ 0 ∷ [] in
    let size : length (long_part (free 18)) ≡ length (long_part low) = simp length-append (omega (arith, bits-length 18 number)) in
    parts-fit (number / 2 ^ 18) 1 n (long_part (free 18)) (long_part low) size
    (fits-append (free 18) zeros low zeros (sym (bits-length 18 number)) (fits-free 18 low) (fits-same zeros))

pub header-back : (identifier : Identifier) (n : ℕ) (l : List ℕ) → Allowed identifier
    → identifier_in (header identifier n ++ l) ≡ identifier
unfolding identifier_in long_in header bits
header-back (Base number) n l known = ap Base (number-low 11 number ∙ mod-eq_of_lt (omega arith))
header-back (Long x) n l known = ap Long (ap (number 0) (sym (bits-split 11 18 x)) ∙ number-low 29 x ∙ mod-eq_of_lt (omega arith))
