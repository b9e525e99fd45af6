-- Where the rows stand that the code reads a frame by. Assumes nothing.
--     widths_of    how many bits each field has, in a form and with n data bytes
--     width_at, before   how many bits field f has, and how many stand before it
--     start_of, end_of, end_is    the positions of field f's first bit and of the one behind its last, in a form and with n data bytes
--     next_start        a field starts where the one before it ends
--     first-start, identifier-start, form-start, dlc-start, data-start, crc-start, ending-start, slot-start, last-start, frame-end
--                       where the parts start
--     later, form-from, data-from, ending-from, slot-from, last-from    from where on a field stands
--     end-some, ide-end, header-end, data-end, crc-end, delimiter-end, slot-end, end-within    and how far it reaches
use mathlib.Core.Path.{◌≡◌, refl, sym, ap, subst}
use mathlib.Core.Bool.{Bool, true, false, cond}
use mathlib.Core.List.{List, [], ◌∷◌}
use Prim.Native.Nat.{ℕ, zero, suc, ◌+◌, ◌-◌, ◌*◌, ◌≤◌, ◌<◌}
use native.Mathlib.Nat.{suc-add}
use native.Mathlib.Numerals.{add-one}
use native.Mathlib.Omega.{arith}
use lib.ListN.{get_or}
use Rattle.reading.specs.Scan.{header_width}

-- how many bits each field has
unfoldable pub widths_of : Bool → ℕ → List ℕ
widths_of long n = 1 ∷ 13 ∷ cond long 18 0 ∷ cond long 3 1 ∷ 4 ∷ 8 * n ∷ 15 ∷ 1 ∷ 1 ∷ 8 ∷ []

-- how many bits field f has
abbrev pub width_at : ℕ → Bool → ℕ → ℕ
width_at f long n = get_or (widths_of long n) f 0

-- how many bits stand before the field at f
abbrev pub before : ℕ → List ℕ → ℕ
before zero l = 0
before (suc f) [] = 0
before (suc f) (x ∷ l) = x + before f l

before-suc : (f : ℕ) (l : List ℕ) → before (suc f) l ≡ before f l + get_or l f 0
before-suc zero [] = refl
before-suc zero (x ∷ l) = omega arith
before-suc (suc f) [] = refl
before-suc (suc f) (x ∷ l) = omega (arith, before-suc f l)

before_more : (f k : ℕ) (l : List ℕ) → before f l ≤ before (f + k) l
before_more zero k l = omega arith
before_more (suc f) k [] = omega arith
before_more (suc f) k (x ∷ l) = rw (suc-add f k) (omega (arith, before_more f k l))

unfoldable pub start_of : ℕ → Bool → ℕ → ℕ
start_of f long n = before f (widths_of long n)

unfoldable pub end_of : ℕ → Bool → ℕ → ℕ
end_of f long n = start_of (suc f) long n

pub first-start : (long : Bool) (n : ℕ) → start_of 0 long n ≡ 0
unfolding start_of
first-start long n = refl

-- in a form, with n data bytes
module _ (long : Bool) (n : ℕ) where
  pub end_is : (f : ℕ) → end_of f long n ≡ start_of f long n + width_at f long n
  unfolding start_of end_of
  end_is f = before-suc f (widths_of long n)

  pub next_start : (f : ℕ) → end_of f long n ≡ start_of (f + 1) long n
  unfolding end_of
  next_start f = ap (λ (k : ℕ). start_of k long n) (sym (add-one f))

  pub later : (f g : ℕ) → f ≤ g → start_of f long n ≤ start_of g long n
  unfolding start_of
  later f g h =
      let sum : f + (g - f) ≡ g = omega arith in
      subst (λ (k : ℕ). before f (widths_of long n) ≤ before k (widths_of long n)) sum (before_more f (g - f) (widths_of long n))

  -- where the parts start
  pub identifier-start : start_of 1 long n ≡ 1
  unfolding start_of widths_of
  identifier-start = refl

  pub form-start : start_of 2 long n ≡ 14
  unfolding start_of widths_of
  form-start = refl

pub dlc-start : (long : Bool) (n : ℕ) → start_of 4 long n + 4 ≡ header_width long
unfolding start_of widths_of header_width
dlc-start true n = refl
dlc-start false n = refl

pub data-start : (long : Bool) (n : ℕ) → start_of 5 long n ≡ header_width long
unfolding start_of widths_of header_width
data-start true n = refl
data-start false n = refl

pub crc-start : (long : Bool) (n : ℕ) → start_of 6 long n ≡ header_width long + 8 * n
unfolding start_of widths_of header_width
crc-start true n = omega arith
crc-start false n = omega arith

pub ending-start : (long : Bool) (n : ℕ) → start_of 7 long n ≡ header_width long + 8 * n + 15
unfolding start_of widths_of header_width
ending-start true n = omega arith
ending-start false n = omega arith

pub slot-start : (long : Bool) (n : ℕ) → start_of 8 long n ≡ header_width long + 8 * n + 16
unfolding start_of widths_of header_width
slot-start true n = omega arith
slot-start false n = omega arith

pub last-start : (long : Bool) (n : ℕ) → start_of 9 long n ≡ header_width long + 8 * n + 17
unfolding start_of widths_of header_width
last-start true n = omega arith
last-start false n = omega arith

pub frame-end : (long : Bool) (n : ℕ) → start_of 10 long n ≡ header_width long + 8 * n + 25
unfolding start_of widths_of header_width
frame-end true n = omega arith
frame-end false n = omega arith

-- where field f starts and ends
module _ (long : Bool) (n f : ℕ) where
  abbrev w : ℕ
  w = header_width long

  pub form-from : 1 < f → 14 ≤ start_of f long n
  form-from h = omega (arith, later long n 2 f h, form-start long n)

  pub data-from : 4 < f → w ≤ start_of f long n
  data-from h = omega (arith, later long n 5 f h, data-start long n)

  pub ending-from : 6 < f → w + 8 * n + 15 ≤ start_of f long n
  ending-from h = omega (arith, later long n 7 f h, ending-start long n)

  pub slot-from : 7 < f → w + 8 * n + 16 ≤ start_of f long n
  slot-from h = omega (arith, later long n 8 f h, slot-start long n)

  pub last-from : 8 < f → w + 8 * n + 17 ≤ start_of f long n
  last-from h = omega (arith, later long n 9 f h, last-start long n)

  pub end-some : 0 < end_of f long n
  unfolding end_of
  end-some = omega (arith, later long n 1 (suc f) (omega arith), identifier-start long n)

  pub ide-end : f ≤ 1 → end_of f long n ≤ 14
  unfolding end_of
  ide-end h = omega (arith, later long n (suc f) 2 (omega arith), form-start long n)

  pub header-end : f ≤ 4 → end_of f long n ≤ w
  unfolding end_of
  header-end h = omega (arith, later long n (suc f) 5 (omega arith), data-start long n)

  pub data-end : f ≤ 5 → end_of f long n ≤ w + 8 * n
  unfolding end_of
  data-end h = omega (arith, later long n (suc f) 6 (omega arith), crc-start long n)

  pub crc-end : f ≤ 6 → end_of f long n ≤ w + 8 * n + 15
  unfolding end_of
  crc-end h = omega (arith, later long n (suc f) 7 (omega arith), ending-start long n)

  pub delimiter-end : f ≤ 7 → end_of f long n ≤ w + 8 * n + 16
  unfolding end_of
  delimiter-end h = omega (arith, later long n (suc f) 8 (omega arith), slot-start long n)

  pub slot-end : f ≤ 8 → end_of f long n ≤ w + 8 * n + 17
  unfolding end_of
  slot-end h = omega (arith, later long n (suc f) 9 (omega arith), last-start long n)

  pub end-within : f < 10 → end_of f long n ≤ w + 8 * n + 25
  unfolding end_of
  end-within h = omega (arith, later long n (suc f) 10 h, frame-end long n)
