-- What a program has of this crate: the table of its functions' code. A program with it, and with what is called of the crates below
-- (`Below`), has the code of each call and of all that it calls. What is derived calls std, of which there is no table: no call linked
-- here calls it. Assumes nothing.
use mathlib.Core.Bool.{true}
use prog.Linked.{Tree, World, Holds, in_world}
use prog.LinkedThreads.{HasT}
use Rattle.refusals.proofs.Refusal.number.Symbol as number
use Rattle.refusals.proofs.Refusal.place.Symbol as place
use Rattle.refusals.proofs.TheLink as link
use Rattle.refusals.proofs.Refusal.number.TheLink as here_number
use Rattle.refusals.proofs.Refusal.place.TheLink as here_place

abbrev pub table : Tree
table = link.table

abbrev pub Below : World → Type 0
Below program = Unit {0}

module _ (program : World) (here : Holds program "refusals" table) (below : Below program) where
  pub has-Refusal-number : HasT (in_world program) true number.code
  has-Refusal-number = here_number.has (in_world program) true (link.found-refusals::Refusal::number program here)

  pub has-Refusal-place : HasT (in_world program) true place.code
  has-Refusal-place = here_place.has (in_world program) true (link.found-refusals::Refusal::place program here)
