-- `frame::sent_list::list` meets its contract: the whole table is computed by the rule of stuffing and compared. Assumes nothing.
use Rattle.bits.proofs.Same.{same-eq}
use Rattle.bits.specs.Rows.{bits, number}
use Rattle.bits.specs.Stuffing.{stuff_after, run_after, stuffed, run_after_row}
use Rattle.frame.specs.Fours.{sent_list}
use Rattle.frame.proofs.sent_list.list.Goals as goal

pub returns : goal.returns
unfolding bits number stuff_after run_after stuffed run_after_row sent_list
returns c = same-eq _ _ tt
