-- What a program has of this crate: the table of its functions' code. A program with it, and with what is called of the crates below
-- (`Below`), has the code of each call and of all that it calls. Assumes nothing.
use mathlib.Core.Bool.{true}
use prog.Linked.{Tree, World, Holds, in_world}
use prog.LinkedThreads.{HasT}
use Rattle.scanning.proofs.TheLink as link
use Rattle.scanning.proofs.scan.Symbol as scan

abbrev pub table : Tree
table = link.table

abbrev pub Below : World → Type 0
Below = link.Below

module _ (program : World) (here : Holds program "scanning" table) (below : Below program) where
  pub has-scan : HasT (in_world program) true scan.code
  has-scan = link.linked-scanning::scan program here below
