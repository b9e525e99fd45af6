-- The fields as the code lists them. Assumes nothing.
--     width-listed, most-listed    how many bits a field has, and the greatest that may stand in it
--     Ruled, ruled      how its bits are read
--     Telling, telling, form-row    what it tells once its last bit is read; the form is told by one row
use mathlib.Core.Path.{◌≡◌, refl, sym, ap, ◌∙◌}
use mathlib.Core.Bool.{Bool}
use mathlib.Core.List.{List}
use Prim.Native.Nat.{ℕ, zero, suc, ◌≤◌, ◌<◌}
use native.Mathlib.Omega.{arith}
use lib.Dec.{lit≤}
use lib.ListN.{get_or, get_or-map}
use Rattle.std.proofs.Common.{map}
use Rattle.reading.specs.declared.Reading.{Reading}
use Rattle.scanning.specs.Rows.{fields_of, field_at}
use Rattle.scanning.specs.declared.fields.Field.{Field}
use Rattle.scanning.specs.declared.fields.Rule.{Rule}
use Rattle.scanning.specs.declared.fields.Rule.TheVariants.{Stuffed, Delimiter, Slot, One}
use Rattle.scanning.specs.declared.fields.Last.{Last}
use Rattle.scanning.specs.declared.fields.Last.TheVariants.{Nothing, Form, Header, Data, Check}
use Rattle.scanning.proofs.Positions.{widths_of, width_at}
use Rattle.scanning.proofs.Rows.{most_of, most_at}

-- how the bits of row f are read
pub data Ruled (f : ℕ) : Rule → Type 0 where
  stuffed : f ≤ 6 → Ruled f Stuffed
  delimiter : f ≡ 7 → Ruled f Delimiter
  slot : f ≡ 8 → Ruled f Slot
  one : f ≡ 9 → Ruled f One

-- and what it tells
pub data Telling (f : ℕ) : Last → Type 0 where
  nothing : (f ≡ 1 → ⊥) → (f ≡ 4 → ⊥) → (f ≡ 5 → ⊥) → (f ≡ 6 → ⊥) → Telling f Nothing
  form : f ≡ 1 → Telling f Form
  header : f ≡ 4 → Telling f Header
  data-bits : f ≡ 5 → Telling f Data
  check : f ≡ 6 → Telling f Check

pub form-row : {f : ℕ} {last : Last} → Telling f last → last ≡ Form → f ≡ 1
form-row (nothing a b c d) e = cc
form-row (form i) e = i
form-row (header i) e = cc
form-row (data-bits i) e = cc
form-row (check i) e = cc

module _ (reading : Reading) (long : Bool) (n : ℕ) where
  widths : map (λ (field : Field). field.width) (fields_of reading long n) ≡ widths_of long n
  unfolding fields_of widths_of
  widths = refl

  mosts : map (λ (field : Field). field.most) (fields_of reading long n) ≡ most_of reading
  unfolding fields_of most_of
  mosts = refl

  pub width-listed : (f : ℕ) → (field_at (fields_of reading long n) f).width ≡ width_at f long n
  width-listed f = sym (get_or-map (λ (field : Field). field.width) (fields_of reading long n) f _) ∙ ap (λ (l : List ℕ). get_or l f 0) widths

  pub most-listed : (f : ℕ) → (field_at (fields_of reading long n) f).most ≡ most_at reading f
  most-listed f = sym (get_or-map (λ (field : Field). field.most) (fields_of reading long n) f _) ∙ ap (λ (l : List ℕ). get_or l f 0) mosts

  pub ruled : (f : ℕ) → f < 10 → Ruled f (field_at (fields_of reading long n) f).rule
  unfolding fields_of
  ruled zero h = stuffed (lit≤ tt)
  ruled (suc zero) h = stuffed (lit≤ tt)
  ruled (suc (suc zero)) h = stuffed (lit≤ tt)
  ruled (suc (suc (suc zero))) h = stuffed (lit≤ tt)
  ruled (suc (suc (suc (suc zero)))) h = stuffed (lit≤ tt)
  ruled (suc (suc (suc (suc (suc zero))))) h = stuffed (lit≤ tt)
  ruled (suc (suc (suc (suc (suc (suc zero)))))) h = stuffed (lit≤ tt)
  ruled (suc (suc (suc (suc (suc (suc (suc zero))))))) h = delimiter refl
  ruled (suc (suc (suc (suc (suc (suc (suc (suc zero)))))))) h = slot refl
  ruled (suc (suc (suc (suc (suc (suc (suc (suc (suc zero))))))))) h = one refl
  ruled (suc (suc (suc (suc (suc (suc (suc (suc (suc (suc f)))))))))) h = absurd (omega arith)

  pub telling : (f : ℕ) → f < 10 → Telling f (field_at (fields_of reading long n) f).last
  unfolding fields_of
  telling zero h = nothing (λ e. omega arith) (λ e. omega arith) (λ e. omega arith) (λ e. omega arith)
  telling (suc zero) h = form refl
  telling (suc (suc zero)) h = nothing (λ e. omega arith) (λ e. omega arith) (λ e. omega arith) (λ e. omega arith)
  telling (suc (suc (suc zero))) h = nothing (λ e. omega arith) (λ e. omega arith) (λ e. omega arith) (λ e. omega arith)
  telling (suc (suc (suc (suc zero)))) h = header refl
  telling (suc (suc (suc (suc (suc zero))))) h = data-bits refl
  telling (suc (suc (suc (suc (suc (suc zero)))))) h = check refl
  telling (suc (suc (suc (suc (suc (suc (suc zero))))))) h = nothing (λ e. omega arith) (λ e. omega arith) (λ e. omega arith) (λ e. omega arith)
  telling (suc (suc (suc (suc (suc (suc (suc (suc zero)))))))) h = nothing (λ e. omega arith) (λ e. omega arith) (λ e. omega arith) (λ e. omega arith)
  telling (suc (suc (suc (suc (suc (suc (suc (suc (suc zero))))))))) h = nothing (λ e. omega arith) (λ e. omega arith) (λ e. omega arith) (λ e. omega arith)
  telling (suc (suc (suc (suc (suc (suc (suc (suc (suc (suc f)))))))))) h = absurd (omega arith)
