-- What nine bits stand for. Assumes nothing.
use Rattle.std.specs.Prelude.{ℕ, suc, ◌-◌, cond, List, [], ◌∷◌, eqb, ltb, Option, Some, None}
use Rattle.words.specs.Words.{words}
use Rattle.words.specs.declared.Symbol.{Symbol}
use Rattle.words.specs.declared.Symbol.TheVariants.{Byte, Escape}

-- the place of w in a list, from 0; the length of a list that has no w [2.5]
unfoldable pub place_in : List ℕ → ℕ → ℕ
place_in [] w = 0
place_in (x ∷ l) w = cond (eqb x w) 0 (suc (place_in l w))

-- they stand for byte x [2.5]
abbrev pub byte : ℕ → Option Symbol
byte x = Some (Byte x)

-- at place 0 and at the last, 257, are the escapes J and K; at place x + 1 is the word of byte x [2.3, 2.4, 2.5]
abbrev pub symbol_at : ℕ → Option Symbol
symbol_at place =
    cond (eqb place 0) (Some Escape)
    (cond (ltb place 257) (byte (place - 1))
    (cond (eqb place 257) (Some Escape) None))

-- what the nine bits of a number stand for [2.5, 2.6]
unfoldable pub symbol_of : ℕ → Option Symbol
symbol_of nine = symbol_at (place_in words nine)
