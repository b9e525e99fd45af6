-- A header, as the code has it; no public contract cites it. Assumes nothing.
use Rattle.std.specs.Prelude.{◌≡◌, ℕ, ◌+◌, ◌*◌, ◌%◌, List}
use Rattle.bits.specs.Rows.{bits}
use Rattle.wire.specs.declared.Identifier.{Identifier}
use Rattle.wire.specs.Header.{header}
use Rattle.frame.specs.declared.header.Header.{Header}

-- the bits of a header: three, and four for each of its fours
abbrev pub bits_of : Header → List ℕ
bits_of h = bits (3 + 4 * h.fours) h.number

-- the header of an identifier and n data bytes
pub record IsHeader (h : Header) (identifier : Identifier) (n : ℕ) : Type 0 where
  pub bits_are : bits_of h ≡ header identifier n
  pub dlc : h.number % 16 ≡ n
