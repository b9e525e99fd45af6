-- `field::encoding::sized` meets its contract: the row's numbers, and what the calls ensure, put together. Assumes nothing.
use mathlib.Core.List.{List}
use mathlib.Core.Path.{◌≡◌, sym, ap, ap₂, ◌∙◌}
use Prim.Native.Nat.{ℕ, ◌+◌, ◌*◌, ◌%◌, ◌^◌, ◌≤◌, ◌<◌}
use native.Mathlib.Nat.{mod-eq_of_lt}
use native.Mathlib.Omega.{arith}
use lib.Dec.{lit<}
use lib.ListN.{length, get_or}
use Rattle.bits.specs.Rows.{number}
use Rattle.field.specs.Sizes.{field_bytes}
use Rattle.field.specs.Field.{field_bits}
use Rattle.field.specs.Coded.{coded, coded_field, padding_number}
use Rattle.field.specs.Table.{row_of, rows}
use Rattle.field.specs.declared.table.Row.{Row}
use Rattle.field.proofs.Sizes.{padding_bits-few, break-number-below}
use Rattle.field.proofs.PaddingBits.{padding_number-is}
use Rattle.field.proofs.TableRows.{row_at}
use Rattle.field.proofs.Coded.{coded-short}
use Rattle.field.proofs.FieldBits.{field-length, field-number, field-number-below, bits-of-field}
use Rattle.field.proofs.encoding.sized.Goals as goal
use Rattle.field.proofs.encoding.sized.Goals.{After-number_of}
use Rattle.field.proofs.encoding.sized.Given.{Over}

module _ (payload : List ℕ) (size : ℕ) (row : Row) (allowed : (length payload ≡ size) × (size < 8)) (found : row ≡ get_or rows size (row_of 0)) where
  short : length payload ≤ 7
  short = omega (arith, allowed.0, allowed.1)

  pub row-is : row ≡ row_of (length payload)
  row-is = found ∙ row_at (row_of 0) size allowed.1 ∙ ap row_of (sym allowed.0)

  pub bit-below : row.break_bit < 2
  bit-below = rw row-is (break-number-below (field_bytes (length payload)))

  pub pad-few : row.padding ≤ 8
  pad-few = rw row-is (padding_bits-few (length payload))

  -- the two parts, before the shift's own bound is looked at
  module _ (words pad : ℕ) (whole : words * 2 ^ row.padding + pad ≡ number 0 (field_bits payload)) where
    few : words * 2 ^ row.padding + pad < 2 ^ 64
    few = rw whole (field-number-below payload short)

    shifted : words * 2 ^ row.padding % 2 ^ 64 ≡ words * 2 ^ row.padding
    shifted = mod-eq_of_lt (omega (arith, few))

    pub fits : words * 2 ^ row.padding % 2 ^ 64 + pad < 2 ^ 64
    fits = rw shifted few

    pub coded-is : coded_field row.bytes (words * 2 ^ row.padding % 2 ^ 64 + pad) ≡ coded payload
    coded-is =
        ap₂ coded_field
        (ap (λ (r : Row). r.bytes) row-is ∙ sym (field-length payload))
        (rw shifted (whole ∙ ap (number 0) (sym (bits-of-field payload short))))
        ∙ sym (coded-short payload short)

behind : (g : Over) (c : After-number_of g) → c.number_of.result ≡ padding_number 0 c.row_of-row.result.padding
behind g c = c.number_of.ensures

whole : (g : Over) (c : After-number_of g)
    → c.with_words-number.result * 2 ^ c.row_of-row.result.padding + c.number_of.result ≡ number 0 (field_bits c.args.payload.now)
whole g c =
    rw (c.with_words-number.ensures, behind g c, padding_number-is 0 _ (lit< tt) (pad-few _ _ _ c.requires c.row_of-row.ensures), row-is _ _ _ c.requires c.row_of-row.ensures)
    (field-number c.args.payload.now)

pub with_words-number-requires : goal.with_words-number-requires
with_words-number-requires g c = (bit-below _ _ _ c.requires c.row_of-row.ensures, c.requires.0, c.requires.1)

pub overflow_shl-result : goal.overflow_shl-result
overflow_shl-result g c = omega (arith, pad-few _ _ _ c.requires c.row_of-row.ensures)

pub overflow_add-result : goal.overflow_add-result
overflow_add-result g c = omega (arith, fits _ _ _ c.requires c.row_of-row.ensures _ _ (whole g (goal.at.overflow_add-result g c).After-number_of))

pub returns : goal.returns
returns g c = coded-is _ _ _ c.requires c.row_of-row.ensures _ _ (whole g (goal.at.returns g c).After-number_of)
