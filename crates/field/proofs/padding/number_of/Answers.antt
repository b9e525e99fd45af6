-- `field::padding::number_of` meets its contract. Assumes nothing.
use mathlib.Core.Path.{sym, ◌∙◌}
use native.Mathlib.Omega.{arith}
use Rattle.field.proofs.PaddingBits.{padding-number, padding_number-is, padding_number-no-bit, padding_number-long}
use Rattle.field.proofs.padding.number_of.Goals as goal

pub returns-then-first-gt1 : goal.returns-then-first-gt1
returns-then-first-gt1 c = sym (padding_number-no-bit _ _ c.if-first-gt1.true)

pub returns-then-count-gt8 : goal.returns-then-count-gt8
returns-then-count-gt8 c = sym (padding_number-long _ _ (omega arith) c.if-count-gt8.true)

pub returns : goal.returns
returns c = padding-number _ _ (omega arith) (omega arith) ∙ sym (padding_number-is _ _ (omega arith) (omega arith))
