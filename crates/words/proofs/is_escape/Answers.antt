-- `words::is_escape` meets its contract: it asks for the two numbers that are escapes. Assumes nothing.
use mathlib.Core.Path.{sym, ◌∙◌}
use borrow.Author.Tests.{eq-eqb, ne_eqb}
use Rattle.words.proofs.Symbols.{escapes-are}
use Rattle.words.proofs.is_escape.Goals as goal

pub returns-then-nine-eq66 : goal.returns-then-nine-eq66
returns-then-nine-eq66 c = sym (escapes-are _ ∙ simp (eq-eqb _ _ c.if-nine-eq66.true))

pub returns-else-nine-eq66 : goal.returns-else-nine-eq66
returns-else-nine-eq66 c = sym (escapes-are _ ∙ simp (ne_eqb _ _ c.if-nine-eq66.false))
