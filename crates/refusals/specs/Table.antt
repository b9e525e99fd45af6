-- The table of refusals, document 01's and behind it document 02's, and an answer in the documents' numbers. Assumes nothing.
use Rattle.std.specs.Prelude.{ℕ, Result, Ok, Err}
use Rattle.refusals.specs.declared.Refusal.{Refusal}
use Rattle.refusals.specs.declared.Refusal.TheVariants.{PayloadTooLong, RoomShort, FieldLength, BreakBit, Escape, NoWord, Padding, Identifier, LineByte, StuffBit, LineLength, Crc, FixedBit, Record, NotAcknowledged}

-- an answer in the document's numbers: that of the refusal, 0 for none; a length, or the refusal's place; what else is answered, or 0 [7.3]
pub record Numbers : Type 0 where
  pub refusal : ℕ
  pub low : ℕ
  pub high : ℕ

-- no refusal: a length, and what else is answered [7.3]
abbrev pub given : ℕ → ℕ → Numbers
given n more = record { refusal = 0; low = n; high = more }

-- a refusal: its number, at its place [7.3]
infix 20 ◌at◌
abbrev pub ◌at◌ : ℕ → ℕ → Numbers
number at place = record { refusal = number; low = place; high = 0 }

-- the table: a place that varies is the one that the refusal holds [8.1, 8.2]
abbrev pub in_table : Refusal → Numbers
in_table PayloadTooLong = 1 at 0
in_table RoomShort = 2 at 0
in_table (FieldLength place) = 3 at place
in_table BreakBit = 4 at 0
in_table (Escape word) = 5 at word
in_table (NoWord word) = 6 at word
in_table Padding = 7 at 0
in_table Identifier = 8 at 0
in_table (LineByte bit) = 9 at bit
in_table (StuffBit bit) = 10 at bit
in_table (LineLength bit) = 11 at bit
in_table (Crc bit) = 12 at bit
in_table (FixedBit bit) = 13 at bit
in_table (Record offset) = 14 at offset
in_table (NotAcknowledged bit) = 20 at bit

-- its two columns [8.1, 8.2]
abbrev pub number_of : Refusal → ℕ
number_of r = (in_table r).refusal

abbrev pub place_of : Refusal → ℕ
place_of r = (in_table r).low

-- what is given, in the document's numbers, or a refusal [7.3]
abbrev pub numbers : {A : Type 0} → (A → Numbers) → Result A Refusal → Numbers
numbers told (Ok x) = told x
numbers told (Err r) = in_table r

-- a length, or a refusal [7.3]
abbrev pub answer_numbers : Result ℕ Refusal → Numbers
answer_numbers = numbers (λ n. given n 0)
