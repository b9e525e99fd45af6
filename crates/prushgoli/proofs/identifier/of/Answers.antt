-- `prushgoli::identifier::of` meets its contract: bit 31 tells the form. Assumes nothing.
use borrow.Author.Tests.{lt-ltb, le-ltb}
use Rattle.prushgoli.proofs.identifier.of.Goals as goal

pub returns-then-number-lt-LONG : goal.returns-then-number-lt-LONG
returns-then-number-lt-LONG c = simp (lt-ltb _ _ c.if-number-lt-LONG.true)

pub returns : goal.returns
returns c = simp (le-ltb _ _ c.if-number-lt-LONG.false)
