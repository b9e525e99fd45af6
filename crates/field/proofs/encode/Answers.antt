-- `field::encode` meets its contract: a payload that is too long is refused. Assumes nothing.
use mathlib.Core.Path.{sym}
use native.Mathlib.Omega.{arith}
use Rattle.field.proofs.EncodeAnswers.{encode-long}
use Rattle.field.proofs.encode.Goals as goal

pub returns-in_default-clause-answer : goal.returns-in_default-clause-answer
returns-in_default-clause-answer c = sym (encode-long _ _ (omega arith))
