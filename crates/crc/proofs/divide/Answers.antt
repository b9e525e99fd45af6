-- `crc::divide` meets its contract: the list holds the CRC of each four bits. Assumes nothing.
use Prim.Native.Nat.{◌%◌}
use native.Mathlib.Omega.{arith}
use Rattle.crc.proofs.CrcFours.{crc-behind}
use Rattle.crc.proofs.divide.Goals as goal
use Rattle.crc.proofs.divide.Goals.{Start}

pub returns : goal.returns
returns c x e = rw (c.list.ensures, e) (crc-behind x (c.args.number % 16) (omega arith) (omega arith))
