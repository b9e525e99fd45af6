-- One of some numbers. Assumes nothing.
--     among-apart          not one of others too, where no number is among both
--     among_first, among-last, among-split    of numbers that stand before or behind others
use mathlib.Core.Bool.{Bool, true, not, ◌&&◌}
use mathlib.Core.List.{List, [], ◌∷◌, ◌++◌}
use mathlib.Core.Logic.{◌⊎◌, inl, inr}
use Prim.Native.Nat.{ℕ}
use lib.Dec.{T, eqb}
use borrow.Author.Tests.{eq-eqb}
use mir.Facts.{and_yes}
use Rattle.refusals.specs.Among.{Among}

-- this number is none of these; and no number is among both
abbrev none_of : List ℕ → ℕ → Bool
none_of [] number = true
none_of (k ∷ l) number = not (eqb number k) && none_of l number

abbrev apart : List ℕ → List ℕ → Bool
apart [] m = true
apart (k ∷ l) m = none_of m k && apart l m

among-not : (l : List ℕ) (number : ℕ) → T (none_of l number) → Among l number → ⊥
among-not [] number none h = h
among-not (k ∷ l) number none (inl e) =
    let other : T (not (eqb number k)) = (and_yes (not (eqb number k)) (none_of l number) none).0 in
    rw (eq-eqb number k e) at other
among-not (k ∷ l) number none (inr h) = among-not l number (and_yes (not (eqb number k)) (none_of l number) none).1 h

pub among-apart : (l m : List ℕ) (number : ℕ) → T (apart l m) → Among l number → Among m number → ⊥
among-apart [] m number test h g = h
among-apart (k ∷ l) m number test (inl e) g = among-not m k (and_yes (none_of m k) (apart l m) test).0 (rw e at g)
among-apart (k ∷ l) m number test (inr h) g = among-apart l m number (and_yes (none_of m k) (apart l m) test).1 h g

pub among_first : (l m : List ℕ) (number : ℕ) → Among l number → Among (l ++ m) number
among_first [] m number h = absurd h
among_first (k ∷ l) m number (inl e) = inl e
among_first (k ∷ l) m number (inr h) = inr (among_first l m number h)

pub among-last : (l m : List ℕ) (number : ℕ) → Among m number → Among (l ++ m) number
among-last [] m number h = h
among-last (k ∷ l) m number h = inr (among-last l m number h)

pub among-split : (l m : List ℕ) (number : ℕ) → Among (l ++ m) number → Among l number ⊎ Among m number
among-split [] m number h = inr h
among-split (k ∷ l) m number (inl e) = inl (inl e)
among-split (k ∷ l) m number (inr h) = later (among-split l m number h)
  where
    later : Among l number ⊎ Among m number → Among (k ∷ l) number ⊎ Among m number
    later (inl g) = inl (inr g)
    later (inr g) = inr g
