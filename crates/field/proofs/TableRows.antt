-- The table of eight rows. Assumes nothing.
--     row_at       what it holds at a size
--     row-above    it holds nothing above 7
--     row-bytes    how many bytes a field has, by it
use mathlib.Core.Path.{◌≡◌, ap}
use Prim.Native.Nat.{ℕ, ◌<◌}
use lib.ListN.{get_or, get_or-eq_default}
use Rattle.bits.proofs.Numbers.{numbers-at}
use Rattle.field.specs.Sizes.{field_bytes}
use Rattle.field.specs.Table.{row_of, rows}
use Rattle.field.specs.declared.table.Row.{Row}

pub row_at : (default : Row) (size : ℕ) → size < 8 → get_or rows size default ≡ row_of size
unfolding rows
row_at default size h = numbers-at row_of default 8 size h

pub row-above : (default : Row) (size : ℕ) → 7 < size → get_or rows size default ≡ default
unfolding rows
row-above default size h = get_or-eq_default rows default h

pub row-bytes : (size : ℕ) → size < 8 → (get_or rows size (row_of 0)).bytes ≡ field_bytes size
row-bytes size h = ap (λ (r : Row). r.bytes) (row_at (row_of 0) size h)
