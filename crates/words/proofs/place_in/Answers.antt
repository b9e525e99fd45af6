-- `words::place_in` meets its contract: at each return the test that led there decides. Assumes nothing.
use borrow.Author.Tests.{lt-ltb, le-ltb}
use Rattle.words.proofs.place_in.Goals as goal

pub returns-then-nine-lt512 : goal.returns-then-nine-lt512
returns-then-nine-lt512 c = simp (lt-ltb _ _ c.if-nine-lt512.true)

pub returns-else-nine-lt512 : goal.returns-else-nine-lt512
returns-else-nine-lt512 c = simp (le-ltb _ _ c.if-nine-lt512.false)
