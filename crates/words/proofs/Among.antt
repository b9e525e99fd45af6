-- Those of the n numbers from a on that are words. Assumes nothing.
--     among-exactly    one of the numbers has a place among them exactly when it keeps the rule
--     one-pass         what is made from each number and its place among them comes of one pass that counts the words it meets
use mathlib.Core.Path.{◌≡◌, refl, ap, ap₂, ◌∙◌, subst}
use mathlib.Core.Bool.{Bool, true, false, cond}
use mathlib.Core.List.{List, [], ◌∷◌, map}
use mathlib.Core.Logic.{⊎_elim}
use Prim.Native.Nat.{ℕ, zero, suc, ◌+◌, ◌≤◌, ◌<◌}
use native.Mathlib.Nat.{eq-or-lt_of_le}
use native.Mathlib.Omega.{arith}
use lib.Dec.{ltb, leb-suc-suc}
use lib.ListN.{length}
use borrow.Author.Tests.{lt-ltb, le-ltb}
use Rattle.bits.specs.Numbers.{numbers_from}
use Rattle.bits.specs.Rows.{bits}
use Rattle.words.specs.Words.{keeps_rule, words_among}
use Rattle.words.specs.Symbols.{place_in}
use Rattle.words.proofs.Places.{place_here, place-next}

abbrev words_from : ℕ → ℕ → List ℕ
words_from a n = words_among (numbers_from a n)

-- a number before them all has no place among them
place-before : (a n k : ℕ) → k < a → place_in (words_from a n) k ≡ length (words_from a n)
unfolding place_in
place-before a zero k h = refl
place-before a (suc n) k h = go (keeps_rule (bits 9 a)) (place-before (suc a) n k (omega arith))
  where
    go : (is : Bool) →
        let rest = words_from (suc a) n in
        place_in rest k ≡ length rest → place_in (cond is (a ∷ rest) rest) k ≡ length (cond is (a ∷ rest) rest)
    go true e = place-next a (words_from (suc a) n) k (λ e. omega arith) ∙ ap suc e
    go false e = e

pub among-exactly : (a n k : ℕ) → a ≤ k → k < a + n → ltb (place_in (words_from a n) k) (length (words_from a n)) ≡ keeps_rule (bits 9 k)
among-exactly a zero k h below = absurd (omega arith)
among-exactly a (suc n) k h below =
    ⊎_elim (λ e. subst Exactly e (first (keeps_rule (bits 9 a))))
    (λ less. later less (among-exactly (suc a) n k less (omega arith)) (keeps_rule (bits 9 a))) (eq-or-lt_of_le h)
  where
    rest : List ℕ
    rest = words_from (suc a) n

    Exactly : ℕ → Type 0
    Exactly m = ltb (place_in (words_from a (suc n)) m) (length (words_from a (suc n))) ≡ keeps_rule (bits 9 m)

    first : (is : Bool) → ltb (place_in (cond is (a ∷ rest) rest) a) (length (cond is (a ∷ rest) rest)) ≡ is
    first true = rw (place_here a rest) (lt-ltb 0 (suc (length rest)) (omega arith))
    first false = rw (place-before (suc a) n a (omega arith)) (le-ltb (length rest) (length rest) (omega arith))

    later : a < k → ltb (place_in rest k) (length rest) ≡ keeps_rule (bits 9 k)
        → (is : Bool) → ltb (place_in (cond is (a ∷ rest) rest) k) (length (cond is (a ∷ rest) rest)) ≡ keeps_rule (bits 9 k)
    later less e true = rw (place-next a rest k (λ e. omega arith)) (leb-suc-suc (suc (place_in rest k)) (length rest) ∙ e)
    later less e false = e

-- what is made from each of the n numbers from a on and its place, where p words came before them; a number that is no word has
-- the place `none`
abbrev pub pass : (ℕ → ℕ → ℕ) → ℕ → ℕ → ℕ → ℕ → List ℕ
pass make none p a zero = []
pass make none p a (suc n) =
    let is = keeps_rule (bits 9 a) in
    make a (cond is p none) ∷ pass make none (cond is (suc p) p) (suc a) n

pub one-pass : (f : ℕ → ℕ) (make : ℕ → ℕ → ℕ) (none p a n : ℕ) → p + length (words_from a n) ≡ none
    → ((k : ℕ) → a ≤ k → f k ≡ make k (p + place_in (words_from a n) k))
    → map f (numbers_from a n) ≡ pass make none p a n
one-pass f make none p a zero e made = refl
one-pass f make none p a (suc n) e made = go (keeps_rule (bits 9 a)) e made (λ q. one-pass f make none q (suc a) n)
  where
    rest : List ℕ
    rest = words_from (suc a) n

    go : (is : Bool) → p + length (cond is (a ∷ rest) rest) ≡ none
        → ((k : ℕ) → a ≤ k → f k ≡ make k (p + place_in (cond is (a ∷ rest) rest) k))
        → ((q : ℕ) → q + length rest ≡ none → ((k : ℕ) → suc a ≤ k → f k ≡ make k (q + place_in rest k))
        → map f (numbers_from (suc a) n) ≡ pass make none q (suc a) n)
        → f a ∷ map f (numbers_from (suc a) n) ≡ make a (cond is p none) ∷ pass make none (cond is (suc p) p) (suc a) n
    go true e made tail =
        ap₂ ◌∷◌ (made a (omega arith) ∙ ap (make a) (omega (arith, place_here a rest)))
        (tail (suc p) (omega arith) (λ k less. made k (omega arith) ∙ ap (make k) (omega (arith, place-next a rest k (λ e. omega arith)))))
    go false e made tail =
        ap₂ ◌∷◌ (made a (omega arith) ∙ ap (make a) (omega (arith, place-before (suc a) n a (omega arith))))
        (tail p (omega arith) (λ k less. made k (omega arith)))
