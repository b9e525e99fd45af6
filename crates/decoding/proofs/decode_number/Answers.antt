-- `decoding::decode_number` meets its contract: the empty field has no bits, and the empty payload; in no case but these is there a
-- field. Assumes nothing.
use mathlib.Core.Path.{refl, sym}
use native.Mathlib.Omega.{arith}
use Rattle.decoding.proofs.NumberAnswers.{number-none, empty-wide, empty-fits}
use Rattle.decoding.proofs.decode_number.Goals as goal

pub returns-in-0-clause-answer : goal.returns-in-0-clause-answer
returns-in-0-clause-answer c = sym (empty-fits _ _ _ c.in-0.is c.if-number-eq0.true).0

pub returns-in-0-clause-memory : goal.returns-in-0-clause-memory
returns-in-0-clause-memory c = rw (empty-fits c.args.field.n c.args.field.number 0 c.in-0.is c.if-number-eq0.true).1 refl

pub returns-in_default-clause-answer : goal.returns-in_default-clause-answer
returns-in_default-clause-answer c = sym (empty-wide _ _ _ c.in-0.is c.if-number-eq0.false)

pub returns-in_default-2-clause-answer : goal.returns-in_default-2-clause-answer
returns-in_default-2-clause-answer c = sym (number-none c.args.field.n _ _ (λ few. omega arith))
