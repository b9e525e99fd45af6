-- The laws of stuffing. Assumes nothing.
--     stuff-starts-run      a worked row: a stuff bit, or a bit of the other value, is the first of the next five
--     counted-at-most       a bit makes a run one longer, or one long
--     counted-few           behind at most four, a bit that is not the fifth leaves at most four
--     run-some, run-bit     the run that a row leaves has a bit, and that is 0 or 1
--     stuffed-length        a row as it is sent has the row's bits and its stuff bits
--     stuffed-below         and these are bits
--     run_after_row-append    rows one behind the other: the run that they leave
--     stuff_count-append     the stuff bits that they draw
--     stuffed-append        and what is sent
--     stuff-weight          a stuff bit shortens the run by four, so that rows draw few of them
use mathlib.Core.Path.{◌≡◌, refl}
use mathlib.Core.Bool.{false}
use mathlib.Core.List.{List, [], ◌∷◌, ◌++◌, append_assoc}
use Prim.Native.Nat.{ℕ, ◌+◌, ◌*◌, ◌≤◌, ◌<◌}
use native.Mathlib.Omega.{arith}
use lib.ListN.{length, length-append}
use Rattle.std.proofs.lemmas.Bool.Decides.{nat_tests}
use Rattle.bits.specs.declared.Run.{Run}
use Rattle.bits.specs.Below.{Below}
use Rattle.bits.specs.Stuffing.{nothing_sent, counted, fifth, stuff_after, run_after, stuffed, stuff_count, run_after_row}

-- a run of so many bits
abbrev pub run : ℕ → ℕ → Run
run b n = record { bit = b; count = n }

pub stuff-starts-run : stuffed nothing_sent (1 ∷ 1 ∷ 1 ∷ 1 ∷ 1 ∷ 0 ∷ 0 ∷ 0 ∷ 0 ∷ 0 ∷ 1 ∷ 1 ∷ 1 ∷ 1 ∷ 1 ∷ [])
    ≡ 1 ∷ 1 ∷ 1 ∷ 1 ∷ 1 ∷ 0 ∷ 0 ∷ 0 ∷ 0 ∷ 0 ∷ 1 ∷ 0 ∷ 1 ∷ 1 ∷ 1 ∷ 1 ∷ 1 ∷ 0 ∷ []
unfolding stuff_after run_after stuffed
stuff-starts-run = refl

pub counted-at-most : (r : Run) (b : ℕ) → counted r b ≤ r.count + 1
counted-at-most r b = grind (arith, nat_tests)

pub counted-few : (r : Run) (b : ℕ) → r.count ≤ 4 → fifth r b ≡ false → counted r b ≤ 4
counted-few r b h e = grind (arith, nat_tests)

pub stuffed-length : (r : Run) (l : List ℕ) → length (stuffed r l) ≡ length l + stuff_count r l
unfolding stuffed stuff_count
stuffed-length r [] = refl
stuffed-length r (b ∷ l) = simp (length-append, stuffed-length (run_after r b) l) (omega arith)

pub stuffed-below : (r : Run) (l : List ℕ) → Below 2 l → Below 2 (stuffed r l)
unfolding stuff_after stuffed
stuffed-below r [] h = tt
stuffed-below r (b ∷ l) h = let rest = stuffed-below (run_after r b) l h.1 in grind (arith, nat_tests)

pub run_after_row-append : (r : Run) (l m : List ℕ) → run_after_row r (l ++ m) ≡ run_after_row (run_after_row r l) m
unfolding run_after_row
run_after_row-append r [] m = refl
run_after_row-append r (b ∷ l) m = run_after_row-append (run_after r b) l m

pub stuff_count-append : (r : Run) (l m : List ℕ) → stuff_count r (l ++ m) ≡ stuff_count r l + stuff_count (run_after_row r l) m
unfolding stuff_count run_after_row
stuff_count-append r [] m = omega arith
stuff_count-append r (b ∷ l) m = omega (arith, stuff_count-append (run_after r b) l m)

pub stuffed-append : (r : Run) (l m : List ℕ) → stuffed r (l ++ m) ≡ stuffed r l ++ stuffed (run_after_row r l) m
unfolding stuffed run_after_row
stuffed-append r [] m = refl
stuffed-append r (b ∷ l) m = simp (append_assoc, stuffed-append (run_after r b) l m)

-- a bit makes the run one longer; the stuff bit makes it four shorter again
bit-weight : (r : Run) (b : ℕ) → r.count ≤ 4
    → (4 * length (stuff_after r b) + (run_after r b).count ≤ r.count + 1) × ((run_after r b).count ≤ 4)
unfolding stuff_after run_after
bit-weight r b h = grind (arith, nat_tests)

pub stuff-weight : (r : Run) (l : List ℕ) → r.count ≤ 4
    → (4 * stuff_count r l + (run_after_row r l).count ≤ r.count + length l) × ((run_after_row r l).count ≤ 4)
unfolding stuff_count run_after_row
stuff-weight r [] h = (omega arith, h)
stuff-weight r (b ∷ l) h =
    let first = bit-weight r b h in
    let rest = stuff-weight (run_after r b) l first.1 in
    (omega arith, rest.1)

pub run-some : (r : Run) (b : ℕ) (l : List ℕ) → 0 < (run_after_row r (b ∷ l)).count
unfolding run_after run_after_row
run-some r b [] = grind (arith, nat_tests)
run-some r b (x ∷ l) = run-some (run_after r b) x l

pub run-bit : (r : Run) (l : List ℕ) → r.bit < 2 → Below 2 l → (run_after_row r l).bit < 2
unfolding run_after run_after_row
run-bit r [] h g = h
run-bit r (b ∷ l) h g = run-bit (run_after r b) l (grind (arith, nat_tests)) g.1
