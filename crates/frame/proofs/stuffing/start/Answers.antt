-- `frame::stuffing::start` meets its contract: a header's first three bits start with 0. Assumes nothing.
use native.Mathlib.Omega.{arith}
use Rattle.frame.proofs.Quiet.{header-first}
use Rattle.frame.proofs.stuffing.start.Goals as goal

pub invariant_of-result : goal.invariant_of-result
invariant_of-result c = record { low = omega (arith, header-first c.args.header) }
