-- Where answers are given: numbers of refusals in the order that a call has them, each with what holds where it is given.
-- Assumes nothing.
--     Order            such numbers, each with its condition, which may be of a place
--     GivenAt          the condition of a number and a place; a number that is none of them is not given
--     Refuses          the same of a refusal, by its number and its place
--     Answers          of an answer: of a refusal the same, of what else is given a condition of its own
--     number-among     so the number of a refusal that is given is one of them
use mathlib.Core.Path.{◌≡◌, refl}
use mathlib.Core.Bool.{Bool, true, false, cond}
use mathlib.Core.List.{List, [], ◌∷◌}
use mathlib.Core.Logic.{inl, inr}
use Prim.Native.Nat.{ℕ}
use lib.Dec.{eqb}
use borrow.Author.Tests.{eqb-true}
use Rattle.std.proofs.Common.{Result, Ok, Err}
use Rattle.refusals.specs.Among.{Among}
use Rattle.refusals.specs.Table.{number_of, place_of}
use Rattle.refusals.specs.declared.Refusal.{Refusal}

abbrev pub Order : Type 1
Order = List (ℕ × (ℕ → Type 0))

abbrev pub GivenAt : Order → ℕ → ℕ → Type 0
GivenAt [] number place = ⊥
GivenAt (c ∷ order) number place = cond (eqb number c.0) (c.1 place) (GivenAt order number place)

abbrev pub Refuses : Order → Refusal → Type 0
Refuses order r = GivenAt order (number_of r) (place_of r)

abbrev pub Answers : {A : Type 0} → Order → (A → Type 0) → Result A Refusal → Type 0
Answers order accepts (Ok x) = accepts x
Answers order accepts (Err r) = Refuses order r

abbrev numbers : Order → List ℕ
numbers [] = []
numbers (c ∷ order) = c.0 ∷ numbers order

given-among : (order : Order) (number place : ℕ) → GivenAt order number place → Among (numbers order) number
given-among [] number place h = h
given-among (c ∷ order) number place h = go (eqb number c.0) refl h (given-among order number place)
  where
    go : (same : Bool) → eqb number c.0 ≡ same → cond same (c.1 place) (GivenAt order number place)
        → (GivenAt order number place → Among (numbers order) number) → Among (numbers (c ∷ order)) number
    go true e h later = inl (eqb-true number c.0 e)
    go false e h later = inr (later h)

pub number-among : (order : Order) (r : Refusal) → Refuses order r → Among (numbers order) (number_of r)
number-among order r h = given-among order (number_of r) (place_of r) h
