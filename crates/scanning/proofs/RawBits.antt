-- The raw bits of a line tell its run, as far as a stuff bit hangs on it. Assumes nothing.
--     Tells        the run that these raw bits end with; before the first bit there is none
--     five-told    a stuff bit is due by the raw bits where it is due by the run
--     bit-told     and where it is due, the last raw bit is the run's
--     twice-told   the last two raw bits are the same exactly where a run of more than one ends
--     told_more    a bit more, where no stuff bit is due
--     told-stuff   a stuff bit
use mathlib.Core.Path.{◌≡◌, refl, sym, ap, ◌∙◌}
use mathlib.Core.Bool.{Bool, true, false, cond, not}
use Prim.Native.Nat.{ℕ, zero, suc, ◌+◌, ◌*◌, ◌/◌, ◌%◌, ◌^◌, ◌<◌}
use native.Mathlib.Omega.{arith}
use lib.Dec.{eqb, ltb, T}
use borrow.Author.Tests.{ne_eqb, eqb-true}
use Rattle.bits.specs.declared.Run.{Run}
use Rattle.bits.specs.Stuffing.{counted}
use Rattle.bits.proofs.Everywhere.{everywhere, everywhere-at}
use Rattle.reading.specs.Scan.{run_with}
use Rattle.scanning.specs.Steps.{due_in, twice}

-- how many of the k lowest bits of t, from the lowest on, are b
abbrev trailing : ℕ → ℕ → ℕ → ℕ
trailing zero t b = 0
trailing (suc k) t b = cond (eqb (t % 2) b) (trailing k (t / 2) b + 1) 0

-- how many equal bits end five raw bits
pub run_in : ℕ → ℕ
run_in t = trailing 5 t (t % 2)

pub data Tells (raw : ℕ) (run : Run) : Type 0 where
  none : raw ≡ 1 → run.bit ≡ 0 → run.count ≡ 0 → Tells raw run
  some : run.bit ≡ raw % 2 → run.count ≡ run_in (raw % 32) → Tells raw run

-- the tests, as the code and the definition have them
abbrev five : ℕ → Bool
five t = ltb ((t + 1) % 32) 2

abbrev bit01 : Bool → ℕ
bit01 true = 1
bit01 false = 0

bit01-only : (s t : Bool) → bit01 s ≡ bit01 t → s ≡ t
bit01-only true true e = refl
bit01-only true false e = absurd (omega arith)
bit01-only false true e = absurd (omega arith)
bit01-only false false e = refl

told : (t : Bool) → T t → t ≡ true
told true h = refl
told false h = absurd h

-- computed at all numbers of five bits
five-test : ℕ → Bool
five-test t = eqb (bit01 (five t)) (bit01 (eqb (run_in t) 5))

five-tested : T (everywhere five-test 32)
unfolding five-test run_in
five-tested = tt

five-is : (t : ℕ) → t < 32 → five t ≡ eqb (run_in t) 5
unfolding five-test
five-is t h = bit01-only _ _ (eqb-true _ _ (told (five-test t) (everywhere-at five-test 32 five-tested t h)))

-- a run of one ends them exactly where the last two differ
twice-test : ℕ → Bool
twice-test t = eqb (bit01 (twice t)) (bit01 (not (eqb (run_in t) 1)))

twice-tested : T (everywhere twice-test 32)
unfolding twice-test twice run_in
twice-tested = tt

twice-is : (t : ℕ) → t < 32 → twice t ≡ not (eqb (run_in t) 1)
unfolding twice-test
twice-is t h = bit01-only _ _ (eqb-true _ _ (told (twice-test t) (everywhere-at twice-test 32 twice-tested t h)))

-- behind a bit b more, where fewer than five were equal
more_test : ℕ → ℕ → Bool
more_test b t = cond (eqb (run_in t) 5) true (eqb (cond (eqb b (t % 2)) (run_in t + 1) 1) (run_in ((t * 2 + b) % 32)))

more-tested : T (everywhere (λ (b : ℕ). everywhere (more_test b) 32) 2)
unfolding more_test run_in
more-tested = tt

more-is : (b t : ℕ) → b < 2 → t < 32 → eqb (run_in t) 5 ≡ false → cond (eqb b (t % 2)) (run_in t + 1) 1 ≡ run_in ((t * 2 + b) % 32)
unfolding more_test
more-is b t l h e =
    let here = everywhere-at (more_test b) 32 (everywhere-at (λ (b : ℕ). everywhere (more_test b) 32) 2 more-tested b l) t h in
    eqb-true _ _ (rw e at (told (more_test b t) here))

-- ---- of any raw bits

pub five-told : (raw : ℕ) (run : Run) → Tells raw run → due_in raw ≡ eqb run.count 5
unfolding due_in
five-told raw run (none e b n) = rw (e, n) refl
five-told raw run (some b n) = rw n (five-is (raw % 32) (omega arith))

pub twice-told : (raw : ℕ) (run : Run) → Tells raw run → (run.count ≡ 0 → ⊥) → twice raw ≡ not (eqb run.count 1)
unfolding twice
twice-told raw run (none e b n) begun = absurd (begun n)
twice-told raw run (some b n) begun =
    let before : raw / 2 % 2 ≡ raw % 32 / 2 % 2 = omega arith in
    let last : raw % 2 ≡ raw % 32 % 2 = omega arith in
    rw (before, last, n) (twice-is (raw % 32) (omega arith))

pub bit-told : (raw : ℕ) (run : Run) → Tells raw run → run.count ≡ 5 → run.bit ≡ raw % 2
bit-told raw run (none e b n) h = absurd (omega arith)
bit-told raw run (some b n) h = b

one_more : (raw bit : ℕ) (run : Run) → bit < 2 → (run.count ≡ 5 → ⊥) → run.bit ≡ raw % 2 → run.count ≡ run_in (raw % 32)
    → counted run bit ≡ run_in ((raw * 2 % 2 ^ 64 + bit) % 32)
one_more raw bit run l few b n =
    let low : (raw * 2 % 2 ^ 64 + bit) % 32 ≡ (raw % 32 * 2 + bit) % 32 = omega arith in
    let last : raw % 32 % 2 ≡ raw % 2 = omega arith in
    let same : counted run bit ≡ cond (eqb bit (raw % 32 % 2)) (run_in (raw % 32) + 1) 1 = rw (last, b, n) refl in
    same ∙ more-is bit (raw % 32) l (omega arith) (ne_eqb _ 5 (λ d. few (n ∙ d))) ∙ ap run_in (sym low)

-- only a 0 may come first
pub told_more : (raw bit : ℕ) (run : Run) → bit < 2 → (run.count ≡ 0 → bit ≡ 0) → (run.count ≡ 5 → ⊥) → Tells raw run
    → Tells (raw * 2 % 2 ^ 64 + bit) (run_with run bit)
unfolding run_with run_in
told_more raw bit run l first few (none e b n) =
    let zero_bit = first n in
    rw (e, zero_bit) (some refl (rw (b, n) refl))
told_more raw bit run l first few (some b n) = some (omega arith) (one_more raw bit run l few b n)

pub told-stuff : (raw bit : ℕ) (run : Run) → bit < 2 → (bit ≡ run.bit → ⊥) → run.count ≡ 5 → Tells raw run
    → Tells (1 + raw % 2) (run_with run bit)
unfolding run_with run_in
told-stuff raw bit run l other five (none e b n) = absurd (omega arith)
told-stuff raw bit run l other five (some b n) = go (raw % 2) (omega arith) b
  where
    go : (x : ℕ) → x < 2 → run.bit ≡ x → Tells (1 + x) (run_with run bit)
    go x h e =
        let one : counted run bit ≡ 1 = simp (ne_eqb bit run.bit other) in
        some (omega arith) (one ∙ sym (single x h))
      where
        single : (x : ℕ) → x < 2 → run_in ((1 + x) % 32) ≡ 1
        single zero h = refl
        single (suc zero) h = refl
        single (suc (suc x)) h = absurd (omega arith)
