-- `frame::stuffing::of_header` meets its contract: what follows the bits behind a header's first three follows the header. Assumes nothing.
use Rattle.frame.proofs.Quiet.{header-counts}
use Rattle.frame.proofs.stuffing.of_header.Goals as goal

pub returns : goal.returns
returns c = header-counts c.args.header _ _ c.start.ensures c.count.ensures
