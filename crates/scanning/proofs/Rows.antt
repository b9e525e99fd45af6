-- What may stand in the rows that the code reads a frame by. Assumes nothing.
--     most_of    the greatest bit that may stand in each, as the code has them
--     most_at, most-bit    the greatest bit that may stand in row f, as the code has it, is at most 1
--     most-slot, slot-bit    and in the ACK slot the reading's, which is at most 1 too
--     must-field          up to the CRC either may stand next where a 1 may, else a 0 must
--     must-slot           in the ACK slot either
--     must-one            behind the CRC elsewhere a 1 must
use mathlib.Core.Path.{◌≡◌, refl, sym, ap, ap₂, ◌∙◌, subst}
use mathlib.Core.Bool.{Bool, true, false, cond, ◌&&◌}
use mathlib.Core.List.{List, [], ◌∷◌, ◌++◌}
use Prim.Native.Nat.{ℕ, zero, suc, ◌+◌, ◌-◌, ◌*◌, ◌≤◌, ◌<◌}
use native.Mathlib.Nat.{zero-add}
use native.Mathlib.Omega.{arith}
use lib.Dec.{eqb, leb, ltb, T}
use lib.ListN.{length, get_or, replicate, length-replicate, get_or-replicate, get_or-append, set}
use lib.Seq.{get_or-append-add, get_or-set_other}
use borrow.Author.Tests.{lt-ltb, le-ltb, eq-eqb, ne_eqb, eqb-true, eqb-false, leb-true}
use mir.Facts.{and_yes}
use Rattle.bits.proofs.Everywhere.{everywhere, everywhere-at}
use Rattle.reading.specs.Form.{either, header_form, form}
use Rattle.reading.specs.Scan.{long_in, dlc_in, slot_most, must_be}
use Rattle.reading.specs.declared.AckSlot.{AckSlot}
use Rattle.reading.specs.declared.AckSlot.TheVariants.{Acknowledged, Either}
use Rattle.reading.specs.declared.Reading.{Reading}
use Rattle.reading.proofs.Partial.{must-early, must-header}
use Rattle.scanning.proofs.Positions.{widths_of, before, start_of, end_of, end_is}
use Rattle.scanning.proofs.Known.{Known, early, in-header, all_known, how-known}

abbrev pub most_list : List ℕ
most_list = 0 ∷ 1 ∷ 1 ∷ 0 ∷ 1 ∷ 1 ∷ 1 ∷ 1 ∷ 1 ∷ 1 ∷ []

-- in the ACK slot the reading says which
unfoldable pub most_of : Reading → List ℕ
most_of reading = set most_list 8 (slot_most reading.slot)

-- the greatest bit that may stand in row f
abbrev pub most_at : Reading → ℕ → ℕ
most_at reading f = get_or (most_of reading) f 0

-- the bit that each of its bits must be, by the form
must_list : List ℕ
must_list = 0 ∷ either ∷ either ∷ 0 ∷ either ∷ either ∷ either ∷ 1 ∷ either ∷ 1 ∷ []

abbrev must_at : ℕ → ℕ
must_at f = get_or must_list f 0

-- the bit that must stand at each position of such rows
abbrev form_of : List ℕ → List ℕ → List ℕ
form_of [] must = []
form_of (width ∷ widths) [] = []
form_of (width ∷ widths) (bit ∷ must) = replicate width bit ++ form_of widths must

-- the bit of a row stands at each of its positions
form-at : (f : ℕ) (l m : List ℕ) (i : ℕ) → f < length m → i < get_or l f 0 → get_or (form_of l m) (before f l + i) either ≡ get_or m f 0
form-at f l [] i g h = absurd (omega arith)
form-at zero [] (b ∷ m) i g h = absurd (omega arith)
form-at zero (x ∷ l) (b ∷ m) i g h =
    let inside : i < length (replicate x b) = rw (length-replicate x b) h in
    rw (zero-add, get_or-append (replicate x b) (form_of l m) either i inside) (get_or-replicate x i b either h)
form-at (suc f) [] (b ∷ m) i g h = absurd (omega arith)
form-at (suc f) (x ∷ l) (b ∷ m) i g h =
    let at : x + before f l + i ≡ length (replicate x b) + (before f l + i) = rw (length-replicate x b) (omega arith) in
    rw (at, get_or-append-add (replicate x b) (form_of l m) (before f l + i) either) (form-at f l m i (omega arith) h)

-- the rows stand for the form
fields-form : (long : Bool) (n : ℕ) → form_of (widths_of long n) must_list ≡ form long n
unfolding header_form form widths_of must_list
fields-form true n = refl
fields-form false n = refl

-- ---- the rows, each tested

row-test : ℕ → Bool
row-test f =
    let most = get_or most_list f 0 in
    leb most 1 && cond (ltb 6 f) (eqb (must_at f) (cond (eqb f 8) either 1)) (eqb (must_at f) (2 * most))

row-tested : T (everywhere row-test 10)
unfolding row-test must_list
row-tested = tt

told : (t : Bool) → T t → t ≡ true
told true x = refl
told false x = absurd x

module _ (f : ℕ) (h : f < 10) where
  abbrev row_most : ℕ
  row_most = get_or most_list f 0

  tested : (row_most ≤ 1) × (cond (ltb 6 f) (eqb (must_at f) (cond (eqb f 8) either 1)) (eqb (must_at f) (2 * row_most)) ≡ true)
  unfolding row-test
  tested =
      let both = and_yes (leb row_most 1) _ (everywhere-at row-test 10 row-tested f h) in
      (leb-true _ _ (told (leb row_most 1) both.0), told _ both.1)

  must-row : f ≤ 6 → must_at f ≡ 2 * row_most
  must-row g = eqb-true _ _ (rw (le-ltb 6 f g) at tested.1)

  must-behind : 6 < f → must_at f ≡ cond (eqb f 8) either 1
  must-behind g = eqb-true _ _ (rw (lt-ltb 6 f g) at tested.1)

-- ---- with the reading's in the ACK slot

pub most-slot : (reading : Reading) → most_at reading 8 ≡ slot_most reading.slot
unfolding most_of
most-slot reading = refl

pub slot-bit : (slot : AckSlot) → slot_most slot ≤ 1
slot-bit Acknowledged = omega arith
slot-bit Either = omega arith

most-row : (reading : Reading) (f : ℕ) → (f ≡ 8 → ⊥) → most_at reading f ≡ get_or most_list f 0
unfolding most_of
most-row reading f n = get_or-set_other most_list 8 f (slot_most reading.slot) 0 n

pub most-bit : (reading : Reading) (f : ℕ) → f < 10 → most_at reading f ≤ 1
most-bit reading f h = go (eqb f 8) refl
  where
    go : (t : Bool) → eqb f 8 ≡ t → most_at reading f ≤ 1
    go true e =
        let same = ap (most_at reading) (eqb-true f 8 e) in
        omega (arith, same, most-slot reading, slot-bit reading.slot)
    go false e = omega (arith, most-row reading f (eqb-false f 8 e), (tested f h).0)

-- a frame that reaches into row f; the form is known behind IDE, the DLC behind the header
module _ (f : ℕ) (long : Bool) (n : ℕ) (frame : List ℕ) (formed : 1 < f → long_in frame ≡ long) (known : 4 < f → dlc_in frame ≡ n)
    (from : start_of f long n ≤ length frame) (to : length frame < end_of f long n) where
  must-is : f < 10 → must_be frame ≡ must_at f
  unfolding must_be start_of must_list
  must-is h = same (how-known f long n frame formed known to) ∙ ap (λ (l : List ℕ). get_or l p either) (sym (fields-form long n)) ∙ at
    where
      p : ℕ
      p = length frame

      same : Known long n frame → get_or (form (long_in frame) (dlc_in frame)) p either ≡ get_or (form long n) p either
      same (early e) = must-early (long_in frame) (dlc_in frame) p e ∙ sym (must-early long n p e)
      same (in-header is e) =
          ap (λ (t : Bool). get_or (form t (dlc_in frame)) p either) is ∙ must-header long (dlc_in frame) p e ∙ sym (must-header long n p e)
      same (all_known is e) = ap₂ (λ (t : Bool) (k : ℕ). get_or (form t k) p either) is e

      at : get_or (form_of (widths_of long n) must_list) p either ≡ must_at f
      at =
          let sum : start_of f long n + (p - start_of f long n) ≡ p = omega (arith, from) in
          subst (λ (k : ℕ). get_or (form_of (widths_of long n) must_list) k either ≡ must_at f) sum
          (form-at f (widths_of long n) must_list (p - start_of f long n) h (omega (arith, from, to, end_is long n f)))

  pub must-field : (reading : Reading) → f ≤ 6 → must_be frame ≡ 2 * most_at reading f
  must-field reading g =
      let h : f < 10 = omega arith in
      must-is h ∙ must-row f h g ∙ ap (λ (k : ℕ). 2 * k) (sym (most-row reading f (λ e. omega arith)))

  pub must-slot : f ≡ 8 → must_be frame ≡ either
  must-slot i = let h : f < 10 = omega arith in must-is h ∙ must-behind f h (omega arith) ∙ rw (eq-eqb f 8 i) refl

  pub must-one : f < 10 → 6 < f → (f ≡ 8 → ⊥) → must_be frame ≡ 1
  must-one h g n = must-is h ∙ must-behind f h g ∙ rw (ne_eqb f 8 n) refl
