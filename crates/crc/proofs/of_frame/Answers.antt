-- `crc::of_frame` meets its contract: header and data field are brought down one after the other, and of the header's number its lowest
-- 39 bits count. Assumes nothing.
use native.Mathlib.Omega.{arith}
use Rattle.bits.specs.Rows.{bits}
use Rattle.bits.proofs.Rows.{bits-low}
use Rattle.crc.proofs.of_frame.Goals as goal

pub returns : goal.returns
returns c = grind (arith, c.bring_down.ensures (bits 39 c.args.header), bits-low 39 c.args.header)
