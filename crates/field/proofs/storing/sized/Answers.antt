-- `field::storing::sized` meets its contract: where there is room, the field's number is stored. Assumes nothing.
use mathlib.Core.Path.{refl, sym, ◌∙◌}
use Rattle.field.proofs.EncodeAnswers.{encode-little, encode-stores}
use Rattle.field.proofs.storing.sized.Goals as goal

pub returns-then-field-coded-clause-answer : goal.returns-then-field-coded-clause-answer
returns-then-field-coded-clause-answer g c = encode-little _ _ _ (sym c.sized-coded.ensures) c.if-field-coded.true

pub returns-clause-answer : goal.returns-clause-answer
returns-clause-answer g c = (encode-stores _ _ _ (sym c.sized-coded.ensures) _ refl c.if-field-coded.false).0

pub returns-clause-memory : goal.returns-clause-memory
returns-clause-memory g c = c.store.ensures.memory ∙ (encode-stores _ _ _ (sym c.sized-coded.ensures) _ refl c.if-field-coded.false).1
