-- `field::encoding::code` meets its contract: a payload that is too long is refused. Assumes nothing.
use mathlib.Core.Path.{sym}
use native.Mathlib.Omega.{arith}
use Rattle.field.proofs.Coded.{coded-long}
use Rattle.field.proofs.encoding.code.Goals as goal

pub returns-in_default : goal.returns-in_default
returns-in_default c = sym (coded-long _ (omega arith))
