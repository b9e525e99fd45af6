-- The header of a data frame, of either form. Assumes nothing.
use Rattle.std.specs.Prelude.{ℕ, ◌/◌, ◌^◌, List, [], ◌∷◌, ◌++◌}
use Rattle.bits.specs.Rows.{bits}
use Rattle.wire.specs.declared.Identifier.{Identifier}
use Rattle.wire.specs.declared.Identifier.TheVariants.{Base, Long}

-- start of frame 0; eleven bits of the identifier; RTR and IDE, or SRR and IDE, two bits of the same value; what only the long form has; a
-- reserved bit 0; the bits of the DLC [4.1, 4.9]
abbrev pub header_of : List ℕ → ℕ → List ℕ → List ℕ → List ℕ
header_of eleven_bits ide long_bits dlc_bits = 0 ∷ (eleven_bits ++ (ide ∷ ide ∷ (long_bits ++ (0 ∷ dlc_bits))))

-- what only the long form has: the low bits of the identifier, RTR 0, a reserved bit 0 [4.9]
abbrev pub long_part : List ℕ → List ℕ
long_part low_bits = low_bits ++ (0 ∷ 0 ∷ [])

-- each number highest bit first [4.1, 4.9]
unfoldable pub header : Identifier → ℕ → List ℕ
header (Base number) n = header_of (bits 11 number) 0 [] (bits 4 n)
header (Long number) n = header_of (bits 11 (number / 2 ^ 18)) 1 (long_part (bits 18 number)) (bits 4 n)
