-- `field::table::row_of` meets its contract: what the table holds at the size. Assumes nothing.
use mathlib.Core.Path.{sym, ◌∙◌}
use Prim.Native.Nat.{◌<◌}
use native.Mathlib.Omega.{arith}
use lib.Dec.{lit<}
use Rattle.field.specs.Table.{row_of}
use Rattle.field.proofs.TableRows.{row_at, row-above}
use Rattle.field.proofs.table.row_of.Goals as goal

pub returns-then-size-gt7 : goal.returns-then-size-gt7
returns-then-size-gt7 c = rw c.rows-rows.ensures (row_at _ 0 (lit< tt) ∙ sym (row-above (row_of 0) _ c.if-size-gt7.true))

pub returns : goal.returns
returns c =
    let few : c.args.size < 8 = omega arith in
    rw c.rows-rows.ensures (row_at _ _ few ∙ sym (row_at (row_of 0) _ few))
