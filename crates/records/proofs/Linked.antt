-- What a program has of this crate: the table of its functions' code. A program with it, and with what is called of the crates below
-- (`Below`), has the code of each call and of all that it calls. What is derived calls std, of which there is no table: no call linked
-- here calls it. Assumes nothing.
use mathlib.Core.Bool.{true}
use prog.Linked.{Tree, World, Holds, in_world}
use prog.LinkedThreads.{HasT}
use Rattle.records.proofs.TheLink as link
use Rattle.records.proofs.kinds.of.TheLink as of
use Rattle.records.proofs.record_at.TheLink as here_record_at
use Rattle.records.proofs.record_at.Symbol as record_at

abbrev pub table : Tree
table = link.table

abbrev pub Below : World → Type 0
Below program = Unit {0}

module _ (program : World) (here : Holds program "records" table) (below : Below program) where
  pub has-record_at : HasT (in_world program) true record_at.code
  has-record_at =
      here_record_at.has (in_world program) true (link.found-records::record_at program here)
      (of.has (in_world program) true (link.found-records::kinds::of program here))
