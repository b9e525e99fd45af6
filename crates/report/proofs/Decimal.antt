-- Numbers in decimal. Assumes nothing.
--     decimal-short    one digit, for a number below 10
--     decimal-long     else the digits of the tenth part, and one more
--     decimal-one, decimal-grows    how many these are
--     decimal-most, spaced-most    never more than 20, and a space
use Rattle.std.proofs.Common.{◌≡◌, ℕ, zero, suc, ◌+◌, ◌/◌, ◌%◌, ◌^◌, ◌≤◌, ◌<◌, List, [], ◌∷◌, ◌++◌, length, cond, Bool, true, false, sym, ap, ◌∙◌, arith, length-append}
use Rattle.std.proofs.Math.Dec.{ltb}
use Rattle.std.proofs.lemmas.Bool.Decides.{nat_tests}
use Rattle.std.proofs.lemmas.Fmt.{decimal_from_appends, decimal_digit, decimal_step, length-decimal-le}
use Rattle.std.specs.Fmt as std
use Rattle.report.specs.Text.{space, decimal_in, decimal, spaced}

one : (k n : ℕ) → n < 10 → decimal_in (suc k) n ≡ (0x30 + n) ∷ []
unfolding decimal_in
one k n h = let low : n % 10 ≡ n = omega arith in grind (arith, nat_tests)

more : (k n : ℕ) → 10 ≤ n → decimal_in (suc k) n ≡ decimal_in k (n / 10) ++ ((0x30 + n % 10) ∷ [])
unfolding decimal_in
more k n h = grind (arith, nat_tests)

-- as std writes them
as-std : (n : ℕ) → n < 2 ^ 64 → decimal n ≡ std.decimal n
unfolding decimal
as-std n h =
    decimal_from_appends decimal_in (record { one = one; more = more }) 20 n h (length-decimal-le 20 n (omega arith) (omega (arith, h)) h)

pub decimal-short : (n : ℕ) → n < 10 → decimal n ≡ (0x30 + n) ∷ []
decimal-short n h = as-std n (omega (arith, h)) ∙ decimal_digit n h

pub decimal-long : (n : ℕ) → 10 ≤ n → n < 2 ^ 64 → decimal n ≡ decimal (n / 10) ++ ((0x30 + n % 10) ∷ [])
decimal-long n h g =
    as-std n g ∙ decimal_step n h g ∙ ap (λ (l : List ℕ). l ++ ((0x30 + n % 10) ∷ [])) (sym (as-std (n / 10) (omega (arith, g))))

pub decimal-one : (n : ℕ) → n < 10 → length (decimal n) ≡ 1
decimal-one n h = ap length (decimal-short n h)

pub decimal-grows : (n : ℕ) → 10 ≤ n → n < 2 ^ 64 → length (decimal n) ≡ length (decimal (n / 10)) + 1
decimal-grows n h g = ap length (decimal-long n h g) ∙ length-append (decimal (n / 10)) ((0x30 + n % 10) ∷ [])

most : (k n : ℕ) → length (decimal_in k n) ≤ k
unfolding decimal_in
most zero n = omega arith
most (suc k) n = go (ltb n 10) (most k (n / 10))
  where
    go : (t : Bool) → length (decimal_in k (n / 10)) ≤ k
        → length (cond t [] (decimal_in k (n / 10)) ++ ((0x30 + n % 10) ∷ [])) ≤ suc k
    go true h = omega arith
    go false h = omega (arith, length-append (decimal_in k (n / 10)) ((0x30 + n % 10) ∷ []), h)

pub decimal-most : (n : ℕ) → length (decimal n) ≤ 20
unfolding decimal
decimal-most n = most 20 n

pub spaced-most : (n : ℕ) → length (spaced n) ≤ 21
spaced-most n = omega (arith, length-append (decimal n) (space ∷ []), decimal-most n)
