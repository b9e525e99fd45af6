-- Answers as numbers, worked by hand, of the definitions: which part stands where. Assumes nothing.
--     packed-right    a length; a refusal with its place; two bounds; an identifier of each form and a length; a line's refusal
use mathlib.Core.Path.{◌≡◌, refl}
use mathlib.Core.List.{[], ◌∷◌}
use Rattle.std.proofs.Common.{Ok, Err}
use Rattle.refusals.specs.Table.{answer_numbers}
use Rattle.refusals.specs.declared.Refusal.TheVariants as refusal
use Rattle.wire.specs.declared.Identifier.TheVariants.{Base, Long}
use Rattle.wire.specs.Answers.{bounds_numbers, between}
use Rattle.line.specs.Read.{line_numbers, framed}
use Rattle.prushgoli.specs.Packing.{pack}

pub packed-right :
    pack (answer_numbers (Ok 2))
    ∷ pack (answer_numbers (Err (refusal.Escape 3)))
    ∷ pack (bounds_numbers (between 61 65))
    ∷ pack (bounds_numbers (Err refusal.Identifier))
    ∷ pack (line_numbers (framed 1 (Base 0x555)))
    ∷ pack (line_numbers (framed 1 (Long 0x555)))
    ∷ pack (line_numbers (Err (refusal.Crc 0x27)))
    ∷ []
    ≡ 0x0000000000000002
    ∷ 0x0000000000050003
    ∷ 0x000000410000003D
    ∷ 0x0000000000080000
    ∷ 0x0000055500000001
    ∷ 0x8000055500000001
    ∷ 0x00000000000C0027
    ∷ []
unfolding pack
packed-right = refl
