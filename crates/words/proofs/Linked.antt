-- What a program has of this crate: the table of its functions' code. A program with it, and with what is called of the crates below
-- (`Below`), has the code of each call and of all that it calls. What is derived calls std, of which there is no table: no call linked
-- here calls it. Assumes nothing.
use mathlib.Core.Bool.{true}
use prog.Linked.{Tree, World, Holds, in_world}
use prog.LinkedThreads.{HasT}
use Rattle.words.proofs.TheLink as link
use Rattle.words.proofs.TheLinks.words-word_in as word_in
use Rattle.words.proofs.TheLinks.words-word_list-in_place as word_list-in_place
use Rattle.words.proofs.TheLinks.words-word_list-list as word_list-list
use Rattle.words.proofs.TheLinks.words-word as word
use Rattle.words.proofs.TheLinks.words-reverse_list-in_place as reverse_list-in_place
use Rattle.words.proofs.TheLinks.words-place_in as place_in
use Rattle.words.proofs.TheLinks.words-symbol_at as symbol_at
use Rattle.words.proofs.TheLinks.words-symbol_in as symbol_in
use Rattle.words.proofs.TheLinks.words-look_up as look_up
use Rattle.words.proofs.TheLinks.words-entry_in as entry_in
use Rattle.words.proofs.TheLinks.words-short_list-in_place as short_list-in_place
use Rattle.words.proofs.TheLinks.words-short_list-list as short_list-list
use Rattle.words.proofs.TheLinks.words-carried as carried
use Rattle.words.proofs.TheLinks.words-is_escape as is_escape

abbrev pub table : Tree
table = link.table

abbrev pub Below : World → Type 0
Below program = Unit {0}

module _ (program : World) (here : Holds program "words" table) (below : Below program) where
  pub has-word_in : HasT (in_world program) true word_in.code
  has-word_in = word_in.has (in_world program) true (link.found-words::word_in program here)

  has-word_list-in_place : HasT (in_world program) true word_list-in_place.code
  has-word_list-in_place = word_list-in_place.has (in_world program) true (link.found-words::word_list::in_place program here)

  pub has-word_list-list : HasT (in_world program) true word_list-list.code
  has-word_list-list = word_list-list.has (in_world program) true (link.found-words::word_list::list program here) has-word_list-in_place

  pub has-word : HasT (in_world program) true word.code
  has-word = word.has (in_world program) true (link.found-words::word program here) has-word_in has-word_list-list

  has-reverse_list-in_place : HasT (in_world program) true reverse_list-in_place.code
  has-reverse_list-in_place = reverse_list-in_place.has (in_world program) true (link.found-words::reverse_list::in_place program here)

  has-place_in : HasT (in_world program) true place_in.code
  has-place_in = place_in.has (in_world program) true (link.found-words::place_in program here)

  has-symbol_at : HasT (in_world program) true symbol_at.code
  has-symbol_at = symbol_at.has (in_world program) true (link.found-words::symbol_at program here)

  has-symbol_in : HasT (in_world program) true symbol_in.code
  has-symbol_in = symbol_in.has (in_world program) true (link.found-words::symbol_in program here) has-place_in has-symbol_at

  pub has-look_up : HasT (in_world program) true look_up.code
  has-look_up = look_up.has (in_world program) true (link.found-words::look_up program here) has-reverse_list-in_place has-symbol_in

  pub has-entry_in : HasT (in_world program) true entry_in.code
  has-entry_in = entry_in.has (in_world program) true (link.found-words::entry_in program here)

  has-short_list-in_place : HasT (in_world program) true short_list-in_place.code
  has-short_list-in_place = short_list-in_place.has (in_world program) true (link.found-words::short_list::in_place program here)

  pub has-short_list-list : HasT (in_world program) true short_list-list.code
  has-short_list-list = short_list-list.has (in_world program) true (link.found-words::short_list::list program here) has-short_list-in_place

  pub has-carried : HasT (in_world program) true carried.code
  has-carried = carried.has (in_world program) true (link.found-words::carried program here) has-entry_in has-short_list-list

  pub has-is_escape : HasT (in_world program) true is_escape.code
  has-is_escape = is_escape.has (in_world program) true (link.found-words::is_escape program here)
