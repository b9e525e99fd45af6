-- The word list, the reverse list and the short list, whole, and what one of them has for nine bits; cited between the crates, and
-- the reverse list inside this one, alone. Assumes nothing.
use Rattle.std.specs.Prelude.{ℕ, ◌+◌, ◌%◌, Bool, true, false, cond, List, map, ltb, get_or, Option, Some, None}
use Rattle.bits.specs.Numbers.{numbers_from}
use Rattle.words.specs.Words.{words, word_of}
use Rattle.words.specs.Symbols.{place_in, symbol_of}
use Rattle.words.specs.declared.Symbol.{Symbol}
use Rattle.words.specs.declared.Symbol.TheVariants.{Byte, Escape}

-- the word of each of the 256 bytes [2.4]
unfoldable pub word_list : List ℕ
word_list = map word_of (numbers_from 0 256)

-- the place of each of the 512 nine-bit numbers among the words
unfoldable pub reverse_list : List ℕ
reverse_list = map (place_in words) (numbers_from 0 512)

-- the place that a reverse list has for nine bits; a number above 511 is no word
abbrev pub place_by : List ℕ → ℕ → ℕ
place_by list nine = cond (ltb nine 512) (get_or list nine 0) 258

-- the seven lowest bits of the byte that nine bits carry; where they carry none, 128 and their own seven lowest [2.5]
abbrev pub entry_of : ℕ → Option Symbol → ℕ
entry_of nine (Some (Byte x)) = x % 128
entry_of nine (Some Escape) = 128 + nine % 128
entry_of nine None = 128 + nine % 128

-- that of each of the 512 nine-bit numbers [2.5]
unfoldable pub short_list : List ℕ
short_list = map (λ (nine : ℕ). entry_of nine (symbol_of nine)) (numbers_from 0 512)

-- the entry that a short list has for nine bits; a number above 511 carries no byte [2.5, 2.6]
abbrev pub entry_by : List ℕ → ℕ → ℕ
entry_by list nine = cond (ltb nine 512) (get_or list nine 0) 128

-- the byte that is carried, if one is [2.5]
abbrev pub carried : Option Symbol → Option ℕ
carried (Some (Byte x)) = Some x
carried (Some Escape) = None
carried None = None

-- J or K [2.3]
abbrev pub is_escape : Option Symbol → Bool
is_escape (Some (Byte x)) = false
is_escape (Some Escape) = true
is_escape None = false
