-- `crc::of_header` meets its contract: what stands before a header of fewer bits, up to 40, are bits 0. Assumes nothing.
use mathlib.Core.List.{[], append-nil}
use native.Mathlib.Omega.{arith}
use Rattle.crc.proofs.CrcFours.{crc-nothing, crc-short}
use Rattle.crc.proofs.of_header.Goals as goal

pub returns-then-header-lt1048576 : goal.returns-then-header-lt1048576
returns-then-header-lt1048576 c = grind (arith, append-nil, crc-nothing, c.bring_down.ensures [], crc-short 19 20 c.args.header [])

pub returns : goal.returns
returns c = grind (arith, append-nil, crc-nothing, c.bring_down-2.ensures [], crc-short 1 39 c.args.header [])
