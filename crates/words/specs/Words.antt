-- The words, by document 01's ordering rule. Assumes nothing.
use Rattle.std.specs.Prelude.{ℕ, ◌+◌, Bool, not, cond, ◌&&◌, List, [], ◌∷◌, get_or, take, drop}
use Rattle.bits.specs.Numbers.{numbers_from}
use Rattle.bits.specs.Rows.{bits}
use Rattle.bits.specs.Neighbours.{equal_neighbours}

-- no five neighbours are equal, the first three bits are not all equal, and the last three are not all equal [2.1]
abbrev pub keeps_rule : List ℕ → Bool
keeps_rule l =
    not (equal_neighbours 5 l) && not (equal_neighbours 3 (take 3 l)) && not (equal_neighbours 3 (drop 6 l))

-- those numbers of a list whose nine bits are a word [2.2]
abbrev pub words_among : List ℕ → List ℕ
words_among [] = []
words_among (w ∷ l) = let rest = words_among l in cond (keeps_rule (bits 9 w)) (w ∷ rest) rest

-- all words, ordered as nine-bit numbers: J first, K last [2.2]
unfoldable pub words : List ℕ
words = words_among (numbers_from 0 512)

-- byte x is carried by the word at place x + 1, counting J as place 0 [2.4]
unfoldable pub word_of : ℕ → ℕ
word_of x = get_or words (x + 1) 0
