-- Where decoding looks for each part of a field that is not empty: in the places where coding puts them, whatever stands there.
-- Assumes nothing.
--     break-looked-at      first for the break bit
--     words-looked-at      then for the words, nine bits each
--     padding-looked-at    then for the padding
use mathlib.Core.Path.{◌≡◌, refl}
use mathlib.Core.List.{List, [], ◌∷◌}
use Prim.Native.Nat.{ℕ, ◌+◌, ◌-◌, ◌*◌, ◌<◌}
use native.Mathlib.Nat.{not-suc-le-zero}
use native.Mathlib.Omega.{arith}
use lib.ListN.{length, take, drop, length-drop}
use Rattle.bits.specs.Packing.{unpacked}
use Rattle.bits.proofs.Below.{below-drop}
use Rattle.bits.proofs.Packing.{unpacked-length, unpacked-below, unpacked-packed}
use Rattle.decoding.specs.Parts.{break_part, words_part, padding_part}
use Rattle.decoding.proofs.FieldParts.{LengthAllowed}

pub break-looked-at : (field : List ℕ) → 0 < length field → break_part field ≡ take 1 (unpacked 8 field)
unfolding break_part
break-looked-at [] h = absurd (not-suc-le-zero h)
break-looked-at (x ∷ l) h = refl

pub words-looked-at : (field : List ℕ) → LengthAllowed field → 0 < length field
    → unpacked 9 (words_part field) ≡ take (9 * (length field - 1)) (drop 1 (unpacked 8 field))
unfolding words_part
words-looked-at [] allowed h = absurd (not-suc-le-zero h)
words-looked-at (x ∷ l) allowed h =
    let all = unpacked 8 (x ∷ l) in
    unpacked-packed 9 (length (x ∷ l) - 1) (drop 1 all) (below-drop 2 1 all (unpacked-below 8 (x ∷ l)))
    (omega (arith, length-drop 1 all, unpacked-length 8 (x ∷ l), allowed.at_most))

pub padding-looked-at : (field : List ℕ) → 0 < length field → padding_part field ≡ drop (1 + 9 * (length field - 1)) (unpacked 8 field)
unfolding padding_part
padding-looked-at [] h = absurd (not-suc-le-zero h)
padding-looked-at (x ∷ l) h = refl
