-- `words::symbol_in` meets its contract. Assumes nothing.
use mathlib.Core.Path.{◌∙◌, ap}
use Rattle.words.specs.Symbols.{symbol_at}
use Rattle.words.proofs.symbol_in.Goals as goal

pub returns : goal.returns
returns c = c.symbol_at.ensures ∙ ap symbol_at c.place_in.ensures
