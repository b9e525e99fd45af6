-- `words::reverse_list::in_place` meets its contract: the whole table is computed from the ordering rule, in one pass over the nine-bit
-- numbers, and compared. Assumes nothing.
use mathlib.Core.Path.{sym, ◌∙◌}
use Prim.Native.Nat.{ℕ}
use Rattle.bits.proofs.Same.{same-eq}
use Rattle.bits.specs.Rows.{bits}
use Rattle.bits.specs.Neighbours.{equal_neighbours}
use Rattle.words.specs.Lists.{reverse_list}
use Rattle.words.proofs.Lists.{places-passed}
use Rattle.words.proofs.reverse_list.in_place.Goals as goal

pub returns : goal.returns
unfolding bits equal_neighbours reverse_list
returns c = same-eq _ _ tt ∙ sym (places-passed (λ (nine place : ℕ). place))
