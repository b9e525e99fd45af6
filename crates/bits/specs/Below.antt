-- Lists of numbers below a bound: bits are below 2, bytes below 256. Assumes nothing. [1.1]
use Rattle.std.specs.Prelude.{ℕ, ◌<◌, List, [], ◌∷◌}

abbrev pub Below : ℕ → List ℕ → Type 0
Below b [] = Unit {0}
Below b (x ∷ l) = (x < b) × Below b l
