-- An identifier: which form it has, and its number. Assumes nothing.
use Rattle.std.specs.Prelude.{ℕ, ◌+◌, ◌-◌, ◌^◌, ◌≤◌, cond, ltb}
use Rattle.wire.specs.declared.Identifier.{Identifier}
use Rattle.wire.specs.declared.Identifier.TheVariants.{Base, Long}

-- its number [4.1]
abbrev pub number_in : Identifier → ℕ
number_in (Base number) = number
number_in (Long number) = number

-- the greatest number that an identifier of its form may have: of 11 bits, or of 29 [4.1]
abbrev pub greatest : Identifier → ℕ
greatest (Base number) = 2047
greatest (Long number) = 536870911

-- its number is not greater [4.1]
abbrev pub Allowed : Identifier → Type 0
Allowed identifier = number_in identifier ≤ greatest identifier

-- the room that making a frame asks for, whatever the payload [11.2]
abbrev pub room_for : Identifier → ℕ
room_for (Base number) = 116
room_for (Long number) = 141

-- as one number, as C has it: bit 31 is set for the long form [7.5, 13.4]
abbrev pub number_for_c : Identifier → ℕ
number_for_c (Base number) = number
number_for_c (Long number) = 2 ^ 31 + number

-- the identifier that such a number stands for [13.4]
abbrev pub identifier_of : ℕ → Identifier
identifier_of number = cond (ltb number (2 ^ 31)) (Base number) (Long (number - 2 ^ 31))
