-- Bit stuffing: after five equal bits, counting stuff bits already sent, one bit of the other value is sent; it is the first bit
-- of the next run. A stuff bit belongs to the bit that it follows. Assumes nothing.
use Rattle.std.specs.Prelude.{ℕ, ◌+◌, ◌-◌, Bool, cond, List, [], ◌∷◌, ◌++◌, eqb, length}
use Rattle.bits.specs.declared.Run.{Run}

-- no run reaches in from before the first bit [5.4]
abbrev pub nothing_sent : Run
nothing_sent = record { bit = 0; count = 0 }

-- how many equal bits end what was sent, once b is sent too [5.3]
abbrev pub counted : Run → ℕ → ℕ
counted r b = cond (eqb b r.bit) (r.count + 1) 1

-- b is the fifth of five equal bits [5.2]
abbrev pub fifth : Run → ℕ → Bool
fifth r b = eqb (counted r b) 5

-- the stuff bits that follow b: one after five equal bits, else none [5.2]
unfoldable pub stuff_after : Run → ℕ → List ℕ
stuff_after r b = cond (fifth r b) ((1 - b) ∷ []) []

-- the run, once b and what follows it are sent [5.3]
unfoldable pub run_after : Run → ℕ → Run
run_after r b =
    cond (fifth r b) (record { bit = 1 - b; count = 1 }) (record { bit = b; count = counted r b })

-- a row as it is sent, with its stuff bits [5.2]
unfoldable pub stuffed : Run → List ℕ → List ℕ
stuffed r [] = []
stuffed r (b ∷ l) = b ∷ (stuff_after r b ++ stuffed (run_after r b) l)

-- how many stuff bits follow the bits of a row [5.7]
unfoldable pub stuff_count : Run → List ℕ → ℕ
stuff_count r [] = 0
stuff_count r (b ∷ l) = length (stuff_after r b) + stuff_count (run_after r b) l

-- the run, once a row and its stuff bits are sent [5.3, 5.7]
unfoldable pub run_after_row : Run → List ℕ → Run
run_after_row r [] = r
run_after_row r (b ∷ l) = run_after_row (run_after r b) l
