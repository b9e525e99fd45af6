-- What a program has of this crate: the table of its functions' code. A program with it, and with what is called of the crates below
-- (`Below`), has the code of each call and of all that it calls. Assumes nothing.
use mathlib.Core.Bool.{true}
use prog.Linked.{Tree, World, Holds, in_world}
use prog.LinkedThreads.{HasT}
use Rattle.prushgoli.proofs.TheLink as link
use Rattle.prushgoli.proofs.prushgoli_decode.Symbol as prushgoli_decode
use Rattle.prushgoli.proofs.prushgoli_encode.Symbol as prushgoli_encode
use Rattle.prushgoli.proofs.prushgoli_frame_bounds.Symbol as prushgoli_frame_bounds
use Rattle.prushgoli.proofs.prushgoli_frame_length.Symbol as prushgoli_frame_length
use Rattle.prushgoli.proofs.prushgoli_make_frame.Symbol as prushgoli_make_frame
use Rattle.prushgoli.proofs.prushgoli_read_line.Symbol as prushgoli_read_line
use Rattle.prushgoli.proofs.prushgoli_read_own_line.Symbol as prushgoli_read_own_line

abbrev pub table : Tree
table = link.table

abbrev pub Below : World → Type 0
Below = link.Below

module _ (program : World) (here : Holds program "prushgoli" table) (below : Below program) where
  pub has-prushgoli_encode : HasT (in_world program) true prushgoli_encode.code
  has-prushgoli_encode = link.linked-prushgoli::prushgoli_encode program here below

  pub has-prushgoli_decode : HasT (in_world program) true prushgoli_decode.code
  has-prushgoli_decode = link.linked-prushgoli::prushgoli_decode program here below

  pub has-prushgoli_make_frame : HasT (in_world program) true prushgoli_make_frame.code
  has-prushgoli_make_frame = link.linked-prushgoli::prushgoli_make_frame program here below

  pub has-prushgoli_frame_length : HasT (in_world program) true prushgoli_frame_length.code
  has-prushgoli_frame_length = link.linked-prushgoli::prushgoli_frame_length program here below

  pub has-prushgoli_frame_bounds : HasT (in_world program) true prushgoli_frame_bounds.code
  has-prushgoli_frame_bounds = link.linked-prushgoli::prushgoli_frame_bounds program here below

  pub has-prushgoli_read_line : HasT (in_world program) true prushgoli_read_line.code
  has-prushgoli_read_line = link.linked-prushgoli::prushgoli_read_line program here below

  pub has-prushgoli_read_own_line : HasT (in_world program) true prushgoli_read_own_line.code
  has-prushgoli_read_own_line = link.linked-prushgoli::prushgoli_read_own_line program here below
