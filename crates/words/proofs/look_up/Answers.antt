-- `words::look_up` meets its contract: what the reverse list holds at nine. Assumes nothing.
use mathlib.Core.Path.{◌∙◌}
use Rattle.words.specs.Symbols.{symbol_of}
use Rattle.words.proofs.Lists.{reverse-list-at}
use Rattle.words.proofs.look_up.Goals as goal

pub returns : goal.returns
unfolding symbol_of
returns c = c.symbol_in.ensures ∙ rw (c.in_place.ensures, reverse-list-at)
