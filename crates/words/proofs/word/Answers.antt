-- `words::word` meets its contract: what the word list holds at x. Assumes nothing.
use mathlib.Core.Path.{◌∙◌}
use borrow.Author.Rules.{rules}
use Rattle.words.proofs.Lists.{word-list-at}
use Rattle.words.proofs.word.Goals as goal

pub returns : goal.returns
returns c = c.word_in.ensures ∙ rw c.list.ensures (word-list-at _ (search rules))
