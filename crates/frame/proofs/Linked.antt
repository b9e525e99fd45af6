-- What a program has of this crate: the table of its functions' code. A program with it, and with what is called of the crates below
-- (`Below`), has the code of each call and of all that it calls. Assumes nothing.
use mathlib.Core.Bool.{true}
use prog.Linked.{Tree, World, Holds, in_world}
use prog.LinkedThreads.{HasT}
use Rattle.frame.proofs.TheLink as link
use Rattle.frame.proofs.frame_bounds.Symbol as frame_bounds
use Rattle.frame.proofs.frame_length.Symbol as frame_length
use Rattle.frame.proofs.make_frame.Symbol as make_frame

abbrev pub table : Tree
table = link.table

abbrev pub Below : World → Type 0
Below = link.Below

module _ (program : World) (here : Holds program "frame" table) (below : Below program) where
  pub has-make_frame : HasT (in_world program) true make_frame.code
  has-make_frame = link.linked-frame::make_frame program here below

  pub has-frame_length : HasT (in_world program) true frame_length.code
  has-frame_length = link.linked-frame::frame_length program here below

  pub has-frame_bounds : HasT (in_world program) true frame_bounds.code
  has-frame_bounds = link.linked-frame::frame_bounds program here below
