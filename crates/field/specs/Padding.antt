-- Padding: bits that alternate from the first. Assumes nothing. [3.4]
use Rattle.std.specs.Prelude.{ℕ, zero, suc, ◌-◌, List, [], ◌∷◌}

unfoldable pub padding : ℕ → ℕ → List ℕ
padding first zero = []
padding first (suc count) = first ∷ padding (1 - first) count
