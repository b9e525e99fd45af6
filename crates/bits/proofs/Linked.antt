-- What a program has of this crate: the table of its functions' code. A program with it, and with what is called of the crates below
-- (`Below`), has the code of each call and of all that it calls. Assumes nothing.
use mathlib.Core.Bool.{true}
use prog.Linked.{Tree, World, Holds, in_world}
use prog.LinkedThreads.{HasT}
use Rattle.bits.proofs.TheLink as link
use Rattle.bits.proofs.bytes.load.Symbol as load
use Rattle.bits.proofs.bytes.store.Symbol as store

abbrev pub table : Tree
table = link.table

abbrev pub Below : World → Type 0
Below = link.Below

module _ (program : World) (here : Holds program "bits" table) (below : Below program) where
  pub has-bytes-load : HasT (in_world program) true load.code
  has-bytes-load = link.linked-bits::bytes::load program here below

  pub has-bytes-store : HasT (in_world program) true store.code
  has-bytes-store = link.linked-bits::bytes::store program here below
