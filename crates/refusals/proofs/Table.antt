-- The table of refusals tells its rows apart. Assumes nothing.
--     refusal-back     the number and the place of a refusal give the refusal back
--     number-only      the number alone decides the variant: no two variants share one
--     refusal-only     refusals with one number and one place are one
--     number-some      a refusal's number is never the 0 that means none
--     number_small     and has eight bits
--     high-none        a refusal has a number and a place, and nothing else
--     place-0          the place of 1, 2, 4, 7 and 8
use mathlib.Core.Path.{◌≡◌, refl, sym, ap, ◌∙◌}
use mathlib.Core.Bool.{cond, ◌&&◌}
use mathlib.Core.List.{List, [], ◌∷◌}
use Prim.Native.Nat.{ℕ, ◌<◌}
use native.Mathlib.Omega.{arith}
use lib.Dec.{T, eqb, ltb, ltb→lt}
use mir.Facts.{and_yes}
use Rattle.refusals.specs.Table.{in_table, number_of, place_of}
use Rattle.refusals.specs.declared.Refusal.{Refusal}
use Rattle.refusals.specs.declared.Refusal.TheVariants.{PayloadTooLong, RoomShort, FieldLength, BreakBit, Escape, NoWord, Padding, Identifier, LineByte, StuffBit, LineLength, Crc, FixedBit, Record, NotAcknowledged}

-- the rows of the table, in any order, with p for each place that varies
rows : ℕ → List Refusal
rows p =
    PayloadTooLong
    ∷ RoomShort
    ∷ FieldLength p
    ∷ BreakBit
    ∷ Escape p
    ∷ NoWord p
    ∷ Padding
    ∷ Identifier
    ∷ LineByte p
    ∷ StuffBit p
    ∷ LineLength p
    ∷ Crc p
    ∷ FixedBit p
    ∷ Record p
    ∷ NotAcknowledged p
    ∷ []

-- the first with this number
with_number : ℕ → List Refusal → Refusal
with_number number [] = PayloadTooLong
with_number number (r ∷ l) = cond (eqb (number_of r) number) r (with_number number l)

-- the row with a number, at a place
pub refusal_of : ℕ → ℕ → Refusal
refusal_of number place = with_number number (rows place)

-- what is computed of each row
record Row (r : Refusal) : Type 0 where
  back : refusal_of (number_of r) (place_of r) ≡ r
  small : T (ltb 0 (number_of r) && ltb (number_of r) 256)
  none : (in_table r).high ≡ 0

in-its-row : (r : Refusal) → Row r
unfolding rows with_number refusal_of
in-its-row PayloadTooLong = record { back = refl; small = tt; none = refl }
in-its-row RoomShort = record { back = refl; small = tt; none = refl }
in-its-row (FieldLength place) = record { back = refl; small = tt; none = refl }
in-its-row BreakBit = record { back = refl; small = tt; none = refl }
in-its-row (Escape word) = record { back = refl; small = tt; none = refl }
in-its-row (NoWord word) = record { back = refl; small = tt; none = refl }
in-its-row Padding = record { back = refl; small = tt; none = refl }
in-its-row Identifier = record { back = refl; small = tt; none = refl }
in-its-row (LineByte bit) = record { back = refl; small = tt; none = refl }
in-its-row (StuffBit bit) = record { back = refl; small = tt; none = refl }
in-its-row (LineLength bit) = record { back = refl; small = tt; none = refl }
in-its-row (Crc bit) = record { back = refl; small = tt; none = refl }
in-its-row (FixedBit bit) = record { back = refl; small = tt; none = refl }
in-its-row (Record offset) = record { back = refl; small = tt; none = refl }
in-its-row (NotAcknowledged bit) = record { back = refl; small = tt; none = refl }

pub refusal-back : (r : Refusal) → refusal_of (number_of r) (place_of r) ≡ r
refusal-back r = (in-its-row r).back

pub number-only : (a b : Refusal) → number_of a ≡ number_of b → a ≡ refusal_of (number_of b) (place_of a)
number-only a b n = sym (refusal-back a) ∙ ap (λ (k : ℕ). refusal_of k (place_of a)) n

pub refusal-only : (a b : Refusal) → number_of a ≡ number_of b → place_of a ≡ place_of b → a ≡ b
refusal-only a b n p = number-only a b n ∙ ap (refusal_of (number_of b)) p ∙ refusal-back b

pub place-0 : (place_of PayloadTooLong ≡ 0) × (place_of RoomShort ≡ 0) × (place_of BreakBit ≡ 0) × (place_of Padding ≡ 0) × (place_of Identifier ≡ 0)
place-0 = (refl, refl, refl, refl, refl)

number-between : (r : Refusal) → (0 < number_of r) × (number_of r < 256)
number-between r =
    let both = and_yes (ltb 0 (number_of r)) (ltb (number_of r) 256) (in-its-row r).small in
    (ltb→lt 0 (number_of r) both.0, ltb→lt (number_of r) 256 both.1)

pub number-some : (r : Refusal) → 0 ≡ number_of r → ⊥
number-some r e = omega (arith, (number-between r).0)

pub number_small : (r : Refusal) → number_of r < 256
number_small r = (number-between r).1

pub high-none : (r : Refusal) → (in_table r).high ≡ 0
high-none r = (in-its-row r).none
