-- `words::word_list::in_place` meets its contract: the whole table is computed from the ordering rule and compared. Assumes nothing.
use Rattle.bits.proofs.Same.{same-eq}
use Rattle.bits.specs.Rows.{bits}
use Rattle.bits.specs.Neighbours.{equal_neighbours}
use Rattle.words.specs.Words.{words, word_of}
use Rattle.words.specs.Lists.{word_list}
use Rattle.words.proofs.word_list.in_place.Goals as goal

pub returns : goal.returns
unfolding bits equal_neighbours words word_of word_list
returns c = same-eq _ _ tt
