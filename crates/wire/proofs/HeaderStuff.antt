-- How many stuff bits follow header bits. Assumes nothing.
--     header-four     at most four in the base form; header-three at most three where there is a data field
--     header-nine     at most nine in either form; header-eight at most eight in the long form where there is a data field
use mathlib.Core.Path.{◌≡◌, refl, ap, subst}
use mathlib.Core.Bool.{Bool, ◌||◌}
use mathlib.Core.List.{List, ◌∷◌, ◌++◌}
use Prim.Native.Nat.{ℕ, ◌+◌, ◌*◌, ◌/◌, ◌^◌, ◌≤◌, ◌<◌}
use native.Mathlib.Omega.{arith}
use lib.Dec.{T, lit<, ltb, leb, leb→le}
use lib.ListN.{length}
use borrow.Author.Tests.{le-ltb}
use Rattle.bits.specs.declared.Run.{Run}
use Rattle.bits.specs.Below.{Below}
use Rattle.bits.specs.Rows.{bits}
use Rattle.bits.specs.Stuffing.{nothing_sent, stuff_after, run_after, stuff_count, run_after_row}
use Rattle.bits.proofs.Below.{below-append}
use Rattle.bits.proofs.Everywhere.{everywhere, everywhere-at}
use Rattle.bits.proofs.Rows.{bits-length, bits_below}
use Rattle.bits.proofs.Stuffing.{run, stuff_count-append, stuff-weight, run-some, run-bit}
use Rattle.wire.specs.declared.Identifier.{Identifier}
use Rattle.wire.specs.declared.Identifier.TheVariants.{Base, Long}
use Rattle.wire.specs.Header.{header}
use Rattle.wire.specs.StuffBits.{header_stuff_bits}
use Rattle.wire.proofs.HeaderBits.{header-length, header-few}

pub header-four : (number n : ℕ) → header_stuff_bits (Base number) n ≤ 4
unfolding header_stuff_bits
header-four number n =
    omega (arith, header-length (Base number) n, (stuff-weight nothing_sent (header (Base number) n) (omega arith)).0)

pub header-nine : (identifier : Identifier) (n : ℕ) → header_stuff_bits identifier n ≤ 9
unfolding header_stuff_bits
header-nine identifier n =
    omega (
      arith,
      header-length identifier n,
      header-few identifier,
      (stuff-weight nothing_sent (header identifier n) (omega arith)).0,
    )

-- the header's last seven bits, in either form: three bits 0 and the DLC
tail : ℕ → List ℕ
tail n = 0 ∷ 0 ∷ 0 ∷ bits 4 n

-- at most one stuff bit follows these, whatever the run before them
one_after : ℕ → ℕ → ℕ → Bool
one_after n bit count = ltb n 2 || leb (stuff_count (run bit count) (tail n)) 1

tested : T (everywhere (λ (n : ℕ). everywhere (λ (bit : ℕ). everywhere (one_after n bit) 5) 2) 9)
unfolding one_after tail bits stuff_after run_after stuff_count
tested = tt

tail-one : (n : ℕ) (r : Run) → 2 ≤ n → n ≤ 8 → r.bit < 2 → r.count ≤ 4 → stuff_count r (tail n) ≤ 1
unfolding one_after
tail-one n r some few h g =
    let bits = everywhere-at (λ (n : ℕ). everywhere (λ (bit : ℕ). everywhere (one_after n bit) 5) 2) 9 tested n (omega arith) in
    let counts = everywhere-at (λ (bit : ℕ). everywhere (one_after n bit) 5) 2 bits r.bit h in
    let here = everywhere-at (one_after n r.bit) 5 counts r.count (omega arith) in
    leb→le (stuff_count r (tail n)) 1 (subst (λ (t : Bool). T (t || leb (stuff_count r (tail n)) 1)) (le-ltb n 2 some) here)

-- of a header that ends so
before-tail : (l : List ℕ) (n : ℕ) → Below 2 l → 2 ≤ n → n ≤ 8
    → 4 * stuff_count nothing_sent (0 ∷ (l ++ tail n)) ≤ length l + 4
before-tail l n bits some few =
    let front : List ℕ = 0 ∷ l in
    let weight = stuff-weight nothing_sent front (omega arith) in
    omega (
      arith,
      stuff_count-append nothing_sent front (tail n),
      weight.0,
      run-some nothing_sent 0 l,
      tail-one n (run_after_row nothing_sent front) some few (run-bit nothing_sent front (lit< tt) (lit< tt, bits)) weight.1,
    )

pub header-three : (number n : ℕ) → 2 ≤ n → n ≤ 8 → header_stuff_bits (Base number) n ≤ 3
unfolding header_stuff_bits header tail
header-three number n some few =
    omega (arith, before-tail (bits 11 number) n (bits_below 11 number) some few, bits-length 11 number)

-- the long form's bits between the first and the last seven
between : ℕ → List ℕ
between number = bits 11 (number / 2 ^ 18) ++ (1 ∷ 1 ∷ bits 18 number)

between-below : (number : ℕ) → Below 2 (between number)
unfolding between
between-below number =
    below-append 2 (bits 11 (number / 2 ^ 18)) _ (bits_below 11 (number / 2 ^ 18)) (lit< tt, (lit< tt, bits_below 18 number))

between-length : (number : ℕ) → length (between number) ≡ 31
unfolding between bits
between-length number = refl

long-is : (number n : ℕ) → header (Long number) n ≡ 0 ∷ (between number ++ tail n)
unfolding header tail between bits
long-is number n = refl

pub header-eight : (number n : ℕ) → 2 ≤ n → n ≤ 8 → header_stuff_bits (Long number) n ≤ 8
unfolding header_stuff_bits
header-eight number n some few =
    omega (
      arith,
      ap (stuff_count nothing_sent) (long-is number n),
      before-tail (between number) n (between-below number) some few,
      between-length number,
    )
