-- The text of a report: bytes in ASCII. Assumes nothing.
use Rattle.std.specs.List.{flat_map}
use Rattle.std.specs.Prelude.{ℕ, zero, suc, ◌+◌, ◌-◌, ◌/◌, ◌%◌, cond, List, [], ◌∷◌, ◌++◌, ltb}

-- three characters [15.1, 15.6, 15.8]
abbrev pub space : ℕ
space = 0x20

abbrev pub dash : ℕ
dash = 0x2D

abbrev pub newline : ℕ
newline = 0x0A

-- a number in decimal, with at most k digits [15.7]
unfoldable pub decimal_in : ℕ → ℕ → List ℕ
decimal_in zero n = []
decimal_in (suc k) n = cond (ltb n 10) [] (decimal_in k (n / 10)) ++ ((0x30 + n % 10) ∷ [])

-- 20 digits are enough for each number of 64 bits [15.7]
unfoldable pub decimal : ℕ → List ℕ
decimal n = decimal_in 20 n

-- and a space behind it [15.1, 15.7]
abbrev pub spaced : ℕ → List ℕ
spaced n = decimal n ++ (space ∷ [])

-- a hexadecimal digit: 0 to 9, A to F [15.5]
unfoldable pub hex_digit : ℕ → ℕ
hex_digit d = cond (ltb d 10) (0x30 + d) (0x41 + (d - 10))

-- a byte in hexadecimal, the high digit first [15.5]
abbrev pub hex_byte : ℕ → List ℕ
hex_byte byte = hex_digit (byte / 16) ∷ hex_digit (byte % 16) ∷ []

-- bytes in hexadecimal, without spaces [15.5]
abbrev pub hex : List ℕ → List ℕ
hex = flat_map hex_byte

-- bytes in hexadecimal, or a dash for none [15.6]
unfoldable pub bytes_text : List ℕ → List ℕ
bytes_text [] = dash ∷ []
bytes_text (byte ∷ l) = hex (byte ∷ l)
