-- The header's bits. Assumes nothing.
--     header-number, long-number    they are those of the number that the code puts together, in the base form and in the long one
--     header_length, header-length    19 of the base form, 39 of the long one; header-few, header-many so at most 39, at least 19
--     header-below     each 0 or 1
--     start-in-place, dlc-in-place    where the first and the last of them stand, in either form
--     base-identifier-in-place, base-fixed-in-place, base-dlc-in-place    and the others in the base form
--     long-high-in-place, long-marks-in-place, long-low-in-place, long-fixed-in-place, long-dlc-in-place    and in the long one
--     long-identifier-in-place    whose high and low bits are together the identifier's 29
use mathlib.Core.Path.{◌≡◌, refl, sym, ap, ap₂, ◌∙◌}
use mathlib.Core.List.{List, [], ◌∷◌, ◌++◌}
use Prim.Native.Nat.{ℕ, ◌+◌, ◌-◌, ◌*◌, ◌/◌, ◌%◌, ◌^◌, ◌≤◌, ◌<◌}
use native.Mathlib.Omega.{arith}
use lib.Dec.{lit<}
use lib.ListN.{length, take, drop}
use Rattle.bits.specs.Below.{Below}
use Rattle.bits.specs.Rows.{bits}
use Rattle.bits.proofs.Below.{below-append}
use Rattle.bits.proofs.Rows.{bits_below, bits-split, bits-low, bits-join}
use Rattle.wire.specs.declared.Identifier.{Identifier}
use Rattle.wire.specs.declared.Identifier.TheVariants.{Base, Long}
use Rattle.wire.specs.Header.{header}

-- eleven bits of the identifier behind a bit 0, and the DLC behind three
twelve : (x : ℕ) → x < 2048 → bits 12 x ≡ 0 ∷ bits 11 x
unfolding bits
twelve x h = let start : x / 2 ^ 11 % 2 ≡ 0 = omega arith in rw start

seven : (n : ℕ) → n < 16 → bits 7 n ≡ 0 ∷ 0 ∷ 0 ∷ bits 4 n
unfolding bits
seven n h =
    let first : n / 2 ^ 6 % 2 ≡ 0 = omega arith in
    let second : n / 2 ^ 5 % 2 ≡ 0 = omega arith in
    let third : n / 2 ^ 4 % 2 ≡ 0 = omega arith in
    rw (first, second, third)

pub header-number : (number n : ℕ) → number < 2048 → n < 16 → bits 19 (number * 128 + n) ≡ header (Base number) n
unfolding bits header
header-number number n h g = bits-join 12 7 number n (omega arith) ∙ ap₂ ◌++◌ (twelve number h) (seven n g)

-- the long form's bits up to the identifier's last
long-front : (number : ℕ) → number < 2 ^ 29 →
    let high = number / 2 ^ 18 in
    bits 32 (high * 2 ^ 20 + 3 * 2 ^ 18 + number % 2 ^ 18) ≡ (0 ∷ bits 11 high) ++ (1 ∷ 1 ∷ []) ++ bits 18 number
unfolding bits
long-front number h =
    let high = number / 2 ^ 18 in
    let whole : high * 2 ^ 20 + 3 * 2 ^ 18 + number % 2 ^ 18 ≡ (high * 2 ^ 2 + 3) * 2 ^ 18 + number % 2 ^ 18 = omega arith in
    ap (bits 32) whole
    ∙ bits-join 14 18 (high * 2 ^ 2 + 3) (number % 2 ^ 18) (omega arith)
    ∙ ap₂ ◌++◌ (bits-join 12 2 high 3 (lit< tt) ∙ ap (λ (l : List ℕ). l ++ bits 2 3) (twelve high (omega arith))) (bits-low 18 number)

pub long-number : (number n : ℕ) → number < 2 ^ 29 → n < 16
    → bits 39 ((number / 2 ^ 18 * 2 ^ 20 + 3 * 2 ^ 18 + number % 2 ^ 18) * 128 + n) ≡ header (Long number) n
unfolding bits header
long-number number n h g =
    bits-join 32 7 (number / 2 ^ 18 * 2 ^ 20 + 3 * 2 ^ 18 + number % 2 ^ 18) n (omega arith)
    ∙ ap₂ ◌++◌ (long-front number h) (seven n g)

-- how many bits a header of its form has
abbrev pub header_length : Identifier → ℕ
header_length (Base number) = 19
header_length (Long number) = 39

pub header-length : (identifier : Identifier) (n : ℕ) → length (header identifier n) ≡ header_length identifier
unfolding bits header
header-length (Base number) n = refl
header-length (Long number) n = refl

pub header-few : (identifier : Identifier) → header_length identifier ≤ 39
header-few (Base number) = omega arith
header-few (Long number) = omega arith

pub header-many : (identifier : Identifier) → 19 ≤ header_length identifier
header-many (Base number) = omega arith
header-many (Long number) = omega arith

pub header-below : (identifier : Identifier) (n : ℕ) → Below 2 (header identifier n)
unfolding header
header-below (Base number) n =
    (lit< tt, below-append 2 (bits 11 number) _ (bits_below 11 number) (lit< tt, (lit< tt, (lit< tt, bits_below 4 n))))
header-below (Long number) n =
    let high = number / 2 ^ 18 in
    let low = below-append 2 (bits 18 number) (0 ∷ 0 ∷ []) (bits_below 18 number) (lit< tt, (lit< tt, tt)) in
    let behind = below-append 2 (bits 18 number ++ (0 ∷ 0 ∷ [])) (0 ∷ bits 4 n) low (lit< tt, bits_below 4 n) in
    (lit< tt, below-append 2 (bits 11 high) _ (bits_below 11 high) (lit< tt, (lit< tt, behind)))

pub start-in-place : (identifier : Identifier) (n : ℕ) → take 1 (header identifier n) ≡ 0 ∷ []
unfolding header
start-in-place (Base number) n = refl
start-in-place (Long number) n = refl

pub dlc-in-place : (identifier : Identifier) (n : ℕ) → drop (header_length identifier - 4) (header identifier n) ≡ bits 4 n
unfolding bits header
dlc-in-place (Base number) n = refl
dlc-in-place (Long number) n = refl

module _ (number n : ℕ) where
  pub base-identifier-in-place : take 11 (drop 1 (header (Base number) n)) ≡ bits 11 number
  unfolding bits header
  base-identifier-in-place = refl

  -- RTR, IDE and the reserved bit
  pub base-fixed-in-place : take 3 (drop 12 (header (Base number) n)) ≡ 0 ∷ 0 ∷ 0 ∷ []
  unfolding bits header
  base-fixed-in-place = refl

  pub base-dlc-in-place : drop 15 (header (Base number) n) ≡ bits 4 n
  unfolding bits header
  base-dlc-in-place = refl

  pub long-high-in-place : take 11 (drop 1 (header (Long number) n)) ≡ bits 11 (number / 2 ^ 18)
  unfolding bits header
  long-high-in-place = refl

  -- SRR and IDE
  pub long-marks-in-place : take 2 (drop 12 (header (Long number) n)) ≡ 1 ∷ 1 ∷ []
  unfolding bits header
  long-marks-in-place = refl

  pub long-low-in-place : take 18 (drop 14 (header (Long number) n)) ≡ bits 18 number
  unfolding bits header
  long-low-in-place = refl

  -- RTR and two reserved bits
  pub long-fixed-in-place : take 3 (drop 32 (header (Long number) n)) ≡ 0 ∷ 0 ∷ 0 ∷ []
  unfolding bits header
  long-fixed-in-place = refl

  pub long-dlc-in-place : drop 35 (header (Long number) n) ≡ bits 4 n
  unfolding bits header
  long-dlc-in-place = refl

  pub long-identifier-in-place : take 11 (drop 1 (header (Long number) n)) ++ take 18 (drop 14 (header (Long number) n)) ≡ bits 29 number
  long-identifier-in-place = ap₂ ◌++◌ long-high-in-place long-low-in-place ∙ sym (bits-split 11 18 number)
