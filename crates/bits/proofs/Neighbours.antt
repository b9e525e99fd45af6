-- Equal neighbours and stuffing. Assumes nothing.
--     no-stuff-exactly      a row draws no stuff bit exactly when it has no five equal neighbours
--     no-five-neighbours    so a row that draws none has no five equal neighbours
--     no-six-sent           a row as it is sent has no six equal neighbours
use mathlib.Core.Path.{◌≡◌, refl, sym, ap, ◌∙◌}
use mathlib.Core.Bool.{Bool, true, false, not, ◌||◌}
use mathlib.Core.List.{List, [], ◌∷◌}
use Prim.Native.Nat.{ℕ, zero, suc, ◌-◌, ◌≤◌}
use native.Mathlib.Nat.{sub-zero}
use native.Mathlib.Omega.{arith}
use lib.Dec.{eqb}
use Rattle.std.proofs.lemmas.Bool.Decides.{nat_tests}
use Rattle.bits.specs.Below.{Below}
use Rattle.bits.specs.Neighbours.{begins, equal_neighbours}
use Rattle.bits.specs.declared.Run.{Run}
use Rattle.bits.specs.Stuffing.{nothing_sent, counted, fifth, stuff_after, run_after, stuffed, stuff_count}
use Rattle.bits.proofs.Stuffing.{run, counted-few}

-- n equal bits in a row behind a run, those of the run counted
among : ℕ → Run → List ℕ → Bool
among n r l = begins (n - r.count) r.bit l || equal_neighbours n l

-- who begins with n bits b begins with fewer of them
begins-fewer : (m n b : ℕ) (l : List ℕ) (rest : Bool) → m ≤ n → (begins m b l || (begins n b l || rest)) ≡ (begins m b l || rest)
begins-fewer zero n b l rest h = refl
begins-fewer (suc m) zero b l rest h = absurd (omega arith)
begins-fewer (suc m) (suc n) b [] rest h = refl
begins-fewer (suc m) (suc n) b (x ∷ l) rest h = let fewer = begins-fewer m n b l rest (omega arith) in grind (arith, nat_tests)

-- nothing is left
among-none : (n : ℕ) (r : Run) → r.count ≤ n → among (suc n) r [] ≡ false
unfolding among equal_neighbours
among-none n r h = let some : suc n - r.count ≡ suc (n - r.count) = omega arith in rw some

-- b goes on with the run, or starts another, and there are not yet n + 1
among_next : (n : ℕ) (r : Run) (b : ℕ) (l : List ℕ) → r.count ≤ n
    → among (suc n) (run b (counted r b)) l ≡ among (suc n) r (b ∷ l)
unfolding among equal_neighbours
among_next n r b l h =
    let some : suc n - r.count ≡ suc (n - r.count) = omega arith in
    let fewer = begins-fewer (n - r.count) n b l (equal_neighbours (suc n) l) (omega arith) in
    rw some (grind (arith, nat_tests))

-- where b makes five
fifth-five : (r : Run) (b : ℕ) (l : List ℕ) → r.count ≤ 4 → fifth r b ≡ true → among 5 r (b ∷ l) ≡ true
unfolding among
fifth-five r b l h e = grind (arith, nat_tests)

-- no stuff bit behind a run of at most four: no five, those of the run counted
none-behind : (r : Run) (l : List ℕ) → r.count ≤ 4 → eqb (stuff_count r l) 0 ≡ not (among 5 r l)
unfolding stuff_after run_after stuff_count
none-behind r [] h = rw (among-none 4 r h)
none-behind r (b ∷ l) h =
    grind (arith, nat_tests, counted-few r b h, fifth-five r b l h, among_next 4 r b l h, none-behind (run b (counted r b)) l)

-- no run reaches in from before the row
nothing-among : (n : ℕ) (l : List ℕ) → among (suc n) nothing_sent l ≡ equal_neighbours (suc n) l
unfolding among equal_neighbours
nothing-among n [] = among-none n nothing_sent (omega arith)
nothing-among n (b ∷ l) = rw (sub-zero (suc n)) (grind (arith, nat_tests, begins-fewer n n 0 l (equal_neighbours (suc n) l)))

pub no-stuff-exactly : (l : List ℕ) → eqb (stuff_count nothing_sent l) 0 ≡ not (equal_neighbours 5 l)
no-stuff-exactly l = none-behind nothing_sent l (omega arith) ∙ ap not (nothing-among 4 l)

pub no-five-neighbours : (l : List ℕ) → stuff_count nothing_sent l ≡ 0 → equal_neighbours 5 l ≡ false
no-five-neighbours l e = grind (arith, nat_tests, no-stuff-exactly l)

-- no six behind a run of at most four, those of the run counted
no-six-behind : (r : Run) (l : List ℕ) → r.count ≤ 4 → Below 2 l → among 6 r (stuffed r l) ≡ false
unfolding stuff_after run_after stuffed
no-six-behind r [] h b = among-none 5 r (omega arith)
no-six-behind r (x ∷ l) h b =
    let other = 1 - x in
    let sent = stuffed (run other 1) l in
    grind (
      arith,
      nat_tests,
      counted-few r x h,
      b,
      among_next 5 r x (stuffed (run x (counted r x)) l) (omega arith),
      no-six-behind (run x (counted r x)) l,
      among_next 5 r x (other ∷ sent) (omega arith),
      among_next 5 (run x 5) other sent (omega arith),
      no-six-behind (run other 1) l (omega arith) b.1,
    )

pub no-six-sent : (l : List ℕ) → Below 2 l → equal_neighbours 6 (stuffed nothing_sent l) ≡ false
no-six-sent l b = sym (nothing-among 5 (stuffed nothing_sent l)) ∙ no-six-behind nothing_sent l (omega arith) b
