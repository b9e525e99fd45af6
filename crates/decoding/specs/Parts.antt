-- The parts of a field that is to be decoded. Assumes nothing.
use Rattle.std.specs.Prelude.{ℕ, ◌+◌, ◌-◌, ◌*◌, List, map, length, take, drop, Option}
use Rattle.bits.specs.Packing.{unpacked, packed}
use Rattle.words.specs.Symbols.{symbol_of}
use Rattle.words.specs.declared.Symbol.{Symbol}
use Rattle.field.specs.Sizes.{break_bit}

-- how many bytes the payload has: none that of the empty field [10.1]
abbrev pub size_of : List ℕ → ℕ
size_of field = length field - 1

-- where the words start: behind the break bit, if there is one [10.2, 10.3]
abbrev pub words_start : List ℕ → ℕ
words_start field = length (break_bit (length field))

-- what stands in the place of the break bit [10.2]
unfoldable pub break_part : List ℕ → List ℕ
break_part field = take (words_start field) (unpacked 8 field)

-- the nine bits in the place of each word, as a number [10.3]
unfoldable pub words_part : List ℕ → List ℕ
words_part field = packed 9 (size_of field) (drop (words_start field) (unpacked 8 field))

-- what stands in the place of the padding [10.4]
unfoldable pub padding_part : List ℕ → List ℕ
padding_part field = drop (words_start field + 9 * size_of field) (unpacked 8 field)

-- what the words stand for [10.3]
abbrev pub symbols_of : List ℕ → List (Option Symbol)
symbols_of field = map symbol_of (words_part field)
