-- What a program has of this crate: the table of its functions' code. A program with it, and with what is called of the crates below
-- (`Below`), has the code of each call and of all that it calls. What is derived calls std, of which there is no table: no call linked
-- here calls it. Assumes nothing.
use mathlib.Core.Bool.{true}
use prog.Linked.{Tree, World, Holds, in_world}
use prog.LinkedThreads.{HasT}
use Rattle.bits.proofs.bytes.store.Symbol as store
use Rattle.words.proofs.word.Symbol as word
use Rattle.field.proofs.TheLink as link
use Rattle.field.proofs.TheLinks.field-padding-number_of as padding-number_of
use Rattle.field.proofs.TheLinks.field-table-rows as table-rows
use Rattle.field.proofs.TheLinks.field-table-row_of as table-row_of
use Rattle.field.proofs.TheLinks.field-encoding-with_words as encoding-with_words
use Rattle.field.proofs.TheLinks.field-encoding-sized as encoding-sized
use Rattle.field.proofs.TheLinks.field-encoding-code as encoding-code
use Rattle.field.proofs.TheLinks.field-storing-sized as storing-sized
use Rattle.field.proofs.TheLinks.field-encode as encode

abbrev pub table : Tree
table = link.table

abbrev pub Below : World → Type 0
Below program = HasT (in_world program) true store.code × (HasT (in_world program) true word.code × Unit {0})

module _ (program : World) (here : Holds program "field" table) (below : Below program) where
  pub has-padding-number_of : HasT (in_world program) true padding-number_of.code
  has-padding-number_of = padding-number_of.has (in_world program) true (link.found-field::padding::number_of program here)

  has-table-rows : HasT (in_world program) true table-rows.code
  has-table-rows = table-rows.has (in_world program) true (link.found-field::table::rows program here)

  pub has-table-row_of : HasT (in_world program) true table-row_of.code
  has-table-row_of = table-row_of.has (in_world program) true (link.found-field::table::row_of program here) has-table-rows

  has-encoding-with_words : HasT (in_world program) true encoding-with_words.code
  has-encoding-with_words = encoding-with_words.has (in_world program) true (link.found-field::encoding::with_words program here) below.1.0

  has-encoding-sized : HasT (in_world program) true encoding-sized.code
  has-encoding-sized = encoding-sized.has (in_world program) true (link.found-field::encoding::sized program here) has-encoding-with_words has-padding-number_of has-table-row_of

  pub has-encoding-code : HasT (in_world program) true encoding-code.code
  has-encoding-code = encoding-code.has (in_world program) true (link.found-field::encoding::code program here) has-encoding-sized

  has-storing-sized : HasT (in_world program) true storing-sized.code
  has-storing-sized = storing-sized.has (in_world program) true (link.found-field::storing::sized program here) below.0 has-encoding-sized

  pub has-encode : HasT (in_world program) true encode.code
  has-encode = encode.has (in_world program) true (link.found-field::encode program here) has-storing-sized
