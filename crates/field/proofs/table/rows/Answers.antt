-- `field::table::rows` meets its contract: the whole table is computed from the rule and compared. Assumes nothing.
use mathlib.Core.Path.{refl}
use Rattle.bits.specs.Rows.{number}
use Rattle.field.specs.Table.{rows}
use Rattle.field.proofs.table.rows.Goals as goal

pub returns : goal.returns
unfolding number rows
returns c = refl
