-- `decoding::reading::no_byte` meets its contract: the test that led to a return decides. Assumes nothing.
use Rattle.decoding.proofs.reading.no_byte.Goals as goal

pub returns-then-is_escape : goal.returns-then-is_escape
returns-then-is_escape c = rw (← c.is_escape.ensures, c.if-is_escape.true)

pub returns-else-is_escape : goal.returns-else-is_escape
returns-else-is_escape c = rw (← c.is_escape.ensures, c.if-is_escape.false)
