-- One of some numbers. Assumes nothing. [8.1]
use Rattle.std.specs.Prelude.{◌≡◌, List, [], ◌∷◌, ◌⊎◌, ℕ}

abbrev pub Among : List ℕ → ℕ → Type 0
Among [] number = ⊥
Among (k ∷ l) number = (number ≡ k) ⊎ Among l number
