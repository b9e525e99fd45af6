-- The place of a number in a list, for any list. Assumes nothing.
--     place_here     the first of a list has place 0
--     place-next     another number has a place one greater than behind the first
--     place_none     a number greater than all of the list is not in it
--     place_found    what stands at the place of a number is that number
--     place_at       in a rising list what stands at a place has that place
--     place_is       so a number has that place exactly when it is what stands there
use mathlib.Core.Path.{◌≡◌, refl, sym, ap, ◌∙◌}
use mathlib.Core.Bool.{Bool, true, false, cond}
use mathlib.Core.List.{List, [], ◌∷◌}
use Prim.Native.Nat.{ℕ, zero, suc, ◌≤◌, ◌<◌, suc-le-suc}
use native.Mathlib.Nat.{not-suc-le-zero, le_of_suc-le-suc}
use native.Mathlib.Omega.{arith}
use lib.Dec.{T, eqb}
use lib.ListN.{length, get_or}
use borrow.Author.Tests.{eq-eqb, ne_eqb, eqb-true, eqb-false}
use Rattle.bits.proofs.Rising.{rising, rising-tail, rising-at}
use Rattle.words.specs.Symbols.{place_in}

pub place_here : (x : ℕ) (l : List ℕ) → place_in (x ∷ l) x ≡ 0
unfolding place_in
place_here x l = rw (eq-eqb x x refl)

pub place-next : (x : ℕ) (l : List ℕ) (w : ℕ) → (x ≡ w → ⊥) → place_in (x ∷ l) w ≡ suc (place_in l w)
unfolding place_in
place-next x l w other = rw (ne_eqb x w other)

pub place_none : (n : ℕ) (l : List ℕ) → ((i : ℕ) → i < length l → get_or l i 0 < n) → (w : ℕ) → n ≤ w → place_in l w ≡ length l
unfolding place_in
place_none n [] below w h = refl
place_none n (x ∷ l) below w h =
    let first : x < n = below 0 (omega arith) in
    place-next x l w (λ e. omega arith) ∙ ap suc (place_none n l (λ i k. below (suc i) (suc-le-suc k)) w h)

pub place_found : (l : List ℕ) (w : ℕ) → place_in l w < length l → get_or l (place_in l w) 0 ≡ w
unfolding place_in
place_found [] w h = absurd (not-suc-le-zero h)
place_found (x ∷ l) w h = go (eqb x w) refl (place_found l w) h
  where
    go : (b : Bool) → eqb x w ≡ b → (place_in l w < length l → get_or l (place_in l w) 0 ≡ w) → cond b 0 (suc (place_in l w)) < suc (length l)
        → get_or (x ∷ l) (cond b 0 (suc (place_in l w))) 0 ≡ w
    go true e rest k = eqb-true x w e
    go false e rest k = rest (le_of_suc-le-suc k)

pub place_at : (l : List ℕ) → T (rising l) → (i : ℕ) → i < length l → place_in l (get_or l i 0) ≡ i
place_at [] t i h = absurd (not-suc-le-zero h)
place_at (x ∷ l) t zero h = place_here x l
place_at (x ∷ l) t (suc i) h =
    let less : x < get_or l i 0 = rising-at (x ∷ l) t 0 (suc i) (omega arith) h in
    place-next x l (get_or l i 0) (λ e. omega arith) ∙ ap suc (place_at l (rising-tail x l t) i (le_of_suc-le-suc h))

pub place_is : (l : List ℕ) → T (rising l) → (w i : ℕ) → i < length l → eqb (place_in l w) i ≡ eqb w (get_or l i 0)
place_is l t w i h = go (eqb w (get_or l i 0)) refl
  where
    go : (same : Bool) → eqb w (get_or l i 0) ≡ same → eqb (place_in l w) i ≡ same
    go true e = eq-eqb _ _ (ap (place_in l) (eqb-true w (get_or l i 0) e) ∙ place_at l t i h)
    go false e =
        ne_eqb _ _ (λ is. eqb-false w (get_or l i 0) e
        (sym (place_found l w (omega arith)) ∙ ap (λ (k : ℕ). get_or l k 0) is))
