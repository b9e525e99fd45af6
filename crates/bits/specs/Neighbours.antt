-- Equal neighbours in a row of bits. Assumes nothing.
use Rattle.std.specs.Prelude.{ℕ, zero, suc, Bool, true, false, ◌&&◌, ◌||◌, List, [], ◌∷◌, eqb}

-- the row begins with n bits, each of them b [2.1]
abbrev pub begins : ℕ → ℕ → List ℕ → Bool
begins zero b l = true
begins (suc n) b [] = false
begins (suc n) b (x ∷ l) = eqb x b && begins n b l

-- some n neighbours of the row are equal [2.1]
unfoldable pub equal_neighbours : ℕ → List ℕ → Bool
equal_neighbours n [] = false
equal_neighbours n (x ∷ l) = begins n x (x ∷ l) || equal_neighbours n l
