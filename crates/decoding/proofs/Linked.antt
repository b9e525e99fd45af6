-- What a program has of this crate: the table of its functions' code. A program with it, and with what is called of the crates below
-- (`Below`), has the code of each call and of all that it calls. Assumes nothing.
use mathlib.Core.Bool.{true}
use prog.Linked.{Tree, World, Holds, in_world}
use prog.LinkedThreads.{HasT}
use Rattle.decoding.proofs.TheLink as link
use Rattle.decoding.proofs.decode.Symbol as decode
use Rattle.decoding.proofs.decode_number.Symbol as decode_number

abbrev pub table : Tree
table = link.table

abbrev pub Below : World → Type 0
Below = link.Below

module _ (program : World) (here : Holds program "decoding" table) (below : Below program) where
  pub has-decode : HasT (in_world program) true decode.code
  has-decode = link.linked-decoding::decode program here below

  pub has-decode_number : HasT (in_world program) true decode_number.code
  has-decode_number = link.linked-decoding::decode_number program here below
