-- What a program has of this crate: the table of its functions' code. A program with it, and with what is called of the crates below
-- (`Below`), has the code of each call and of all that it calls. Assumes nothing.
use mathlib.Core.Bool.{true}
use prog.Linked.{Tree, World, Holds, in_world}
use prog.LinkedThreads.{HasT}
use Rattle.crc.proofs.TheLink as link
use Rattle.crc.proofs.of_frame.Symbol as of_frame

abbrev pub table : Tree
table = link.table

abbrev pub Below : World → Type 0
Below = link.Below

module _ (program : World) (here : Holds program "crc" table) (below : Below program) where
  pub has-of_frame : HasT (in_world program) true of_frame.code
  has-of_frame = link.linked-crc::of_frame program here below
