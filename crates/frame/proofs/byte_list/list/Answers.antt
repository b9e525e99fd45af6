-- `frame::byte_list::list` meets its contract: the whole table is computed and compared. Assumes nothing.
use mathlib.Core.Path.{refl}
use Rattle.bits.specs.Rows.{bits}
use Rattle.frame.specs.Fours.{byte_list}
use Rattle.frame.proofs.byte_list.list.Goals as goal

pub returns : goal.returns
unfolding bits byte_list
returns c = refl
