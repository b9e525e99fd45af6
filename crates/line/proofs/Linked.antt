-- What a program has of this crate: the table of its functions' code. A program with it, and with what is called of the crates below
-- (`Below`), has the code of each call and of all that it calls. What is derived calls std, of which there is no table: no call linked
-- here calls it. Assumes nothing.
use mathlib.Core.Bool.{true}
use prog.Linked.{Tree, World, Holds, in_world}
use prog.LinkedThreads.{HasT}
use Rattle.decoding.proofs.decode_number.Symbol as decode_number
use Rattle.scanning.proofs.scan.Symbol as scan
use Rattle.line.proofs.TheLink as link
use Rattle.line.proofs.TheLinks.line-read as read
use Rattle.line.proofs.TheLinks.line-read_line as read_line
use Rattle.line.proofs.TheLinks.line-read_own_line as read_own_line

abbrev pub table : Tree
table = link.table

abbrev pub Below : World → Type 0
Below program = HasT (in_world program) true decode_number.code × (HasT (in_world program) true scan.code × Unit {0})

module _ (program : World) (here : Holds program "line" table) (below : Below program) where
  pub has-read : HasT (in_world program) true read.code
  has-read = read.has (in_world program) true (link.found-line::read program here) below.0 below.1.0

  pub has-read_line : HasT (in_world program) true read_line.code
  has-read_line = read_line.has (in_world program) true (link.found-line::read_line program here) has-read

  pub has-read_own_line : HasT (in_world program) true read_own_line.code
  has-read_own_line = read_own_line.has (in_world program) true (link.found-line::read_own_line program here) has-read
