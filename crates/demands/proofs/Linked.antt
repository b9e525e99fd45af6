-- Demand 1, every public call ends: an environment in which each does. What is said of runs and ends (Runs, Ends, BackEnds) is said of every
-- environment that has the code of the call and of all that it calls; here is one, a program of these crates. Assumes nothing.
--     Program, c-encode-code and the others    a program with these crates' tables has the code of each call, C's and Rattle's, that Runs speaks of
--     library, c-encode-linked and the others    an environment, that of one such program, has that code and that of all that the call calls
use mathlib.Core.Bool.{true}
use mathlib.Core.List.{[], ◌∷◌}
use mathlib.Core.Path.{refl}
use lib.Chars.{codes}
use prog.Linked.{World, Holds, in_world}
use prog.LinkedThreads.{HasT, has-wired_t, tie_t, tie_t-follows, tie_t-threads}
use prog.Routine.{Env}
use prog.Wired.{Code, Wired}
use Rattle.bits.proofs.Linked as in-bits
use Rattle.refusals.proofs.Linked as in-refusals
use Rattle.words.proofs.Linked as in-words
use Rattle.field.proofs.Linked as in-field
use Rattle.decoding.proofs.Linked as in-decoding
use Rattle.crc.proofs.Linked as in-crc
use Rattle.frame.proofs.Linked as in-frame
use Rattle.scanning.proofs.Linked as in-scanning
use Rattle.line.proofs.Linked as in-line
use Rattle.prushgoli.proofs.Linked as in-prushgoli
use Rattle.records.proofs.Linked as in-records
use Rattle.report.proofs.Linked as in-report
use Rattle.prushgoli.proofs.prushgoli_encode.Symbol as c-encode
use Rattle.prushgoli.proofs.prushgoli_decode.Symbol as c-decode
use Rattle.prushgoli.proofs.prushgoli_make_frame.Symbol as c-make-frame
use Rattle.prushgoli.proofs.prushgoli_frame_length.Symbol as c-frame-length
use Rattle.prushgoli.proofs.prushgoli_frame_bounds.Symbol as c-frame-bounds
use Rattle.prushgoli.proofs.prushgoli_read_line.Symbol as c-read-line
use Rattle.prushgoli.proofs.prushgoli_read_own_line.Symbol as c-read-own-line
use Rattle.field.proofs.encode.Symbol as encode
use Rattle.decoding.proofs.decode.Symbol as decode
use Rattle.frame.proofs.make_frame.Symbol as make-frame
use Rattle.frame.proofs.frame_length.Symbol as frame-length
use Rattle.frame.proofs.frame_bounds.Symbol as frame-bounds
use Rattle.line.proofs.read_line.Symbol as read-line
use Rattle.line.proofs.read_own_line.Symbol as read-own-line
use Rattle.records.proofs.record_at.Symbol as record-at
use Rattle.report.proofs.line_at.Symbol as line_at_lem
use Rattle.words.proofs.word.Symbol as word
use Rattle.words.proofs.look_up.Symbol as look_up
use Rattle.refusals.proofs.Refusal.number.Symbol as number
use Rattle.refusals.proofs.Refusal.place.Symbol as place
use Rattle.field.proofs.encoding.code.Symbol as code
use Rattle.decoding.proofs.decode_number.Symbol as decode-number
use Rattle.crc.proofs.of_frame.Symbol as of-frame
use Rattle.scanning.proofs.scan.Symbol as scan
use Rattle.line.proofs.read.Symbol as read
use Rattle.field.proofs.table.row_of.Symbol as row_of
use Rattle.field.proofs.padding.number_of.Symbol as padding-number
use Rattle.bits.proofs.bytes.load.Symbol as load
use Rattle.bits.proofs.bytes.store.Symbol as store
use Rattle.words.proofs.word_list.list.Symbol as word-list
use Rattle.words.proofs.word_in.Symbol as word_in
use Rattle.words.proofs.short_list.list.Symbol as short-list
use Rattle.words.proofs.entry_in.Symbol as entry_in
use Rattle.words.proofs.carried.Symbol as carried
use Rattle.words.proofs.is_escape.Symbol as is-escape

-- a program that has the tables of the crates that have code
pub record Program (program : World) : Type 0 where
  pub bits : Holds program "bits" in-bits.table
  pub refusals : Holds program "refusals" in-refusals.table
  pub words : Holds program "words" in-words.table
  pub field : Holds program "field" in-field.table
  pub decoding : Holds program "decoding" in-decoding.table
  pub crc : Holds program "crc" in-crc.table
  pub frame : Holds program "frame" in-frame.table
  pub scanning : Holds program "scanning" in-scanning.table
  pub line : Holds program "line" in-line.table
  pub prushgoli : Holds program "prushgoli" in-prushgoli.table
  pub records : Holds program "records" in-records.table
  pub report : Holds program "report" in-report.table

module _ (program : World) (has : Program program) where
  -- of each crate, what it calls of the crates below
  bits-below : in-bits.Below program
  bits-below = tt

  refusals-below : in-refusals.Below program
  refusals-below = tt

  words-below : in-words.Below program
  words-below = tt

  field-below : in-field.Below program
  field-below = (
    in-bits.has-bytes-store program has.bits bits-below,
    (
      in-words.has-word program has.words words-below,
      tt,
    ),
  )

  decoding-below : in-decoding.Below program
  decoding-below = (
    in-bits.has-bytes-load program has.bits bits-below,
    (
      in-bits.has-bytes-store program has.bits bits-below,
      (
        in-field.has-padding-number_of program has.field field-below,
        (
          in-field.has-table-row_of program has.field field-below,
          (
            in-words.has-carried program has.words words-below,
            (
              in-words.has-is_escape program has.words words-below,
              tt,
            ),
          ),
        ),
      ),
    ),
  )

  crc-below : in-crc.Below program
  crc-below = tt

  frame-below : in-frame.Below program
  frame-below = (
    in-crc.has-of_frame program has.crc crc-below,
    (
      in-field.has-encoding-code program has.field field-below,
      (
        in-field.has-table-row_of program has.field field-below,
        tt,
      ),
    ),
  )

  scanning-below : in-scanning.Below program
  scanning-below = (in-crc.has-of_frame program has.crc crc-below, tt)

  line-below : in-line.Below program
  line-below = (
    in-decoding.has-decode_number program has.decoding decoding-below,
    (
      in-scanning.has-scan program has.scanning scanning-below,
      tt,
    ),
  )

  prushgoli-below : in-prushgoli.Below program
  prushgoli-below = (
    in-decoding.has-decode program has.decoding decoding-below,
    (
      in-field.has-encode program has.field field-below,
      (
        in-frame.has-frame_bounds program has.frame frame-below,
        (
          in-frame.has-frame_length program has.frame frame-below,
          (
            in-frame.has-make_frame program has.frame frame-below,
            (
              in-line.has-read program has.line line-below,
              (
                in-refusals.has-Refusal-number program has.refusals refusals-below,
                (
                  in-refusals.has-Refusal-place program has.refusals refusals-below,
                  tt,
                ),
              ),
            ),
          ),
        ),
      ),
    ),
  )

  records-below : in-records.Below program
  records-below = tt

  report-below : in-report.Below program
  report-below = (
    in-decoding.has-decode program has.decoding decoding-below,
    (
      in-field.has-encode program has.field field-below,
      (
        in-records.has-record_at program has.records records-below,
        (
          in-refusals.has-Refusal-number program has.refusals refusals-below,
          (
            in-refusals.has-Refusal-place program has.refusals refusals-below,
            tt,
          ),
        ),
      ),
    ),
  )

  -- the calls
  pub c-encode-code : HasT (in_world program) true c-encode.code
  c-encode-code = in-prushgoli.has-prushgoli_encode program has.prushgoli prushgoli-below

  pub c-decode-code : HasT (in_world program) true c-decode.code
  c-decode-code = in-prushgoli.has-prushgoli_decode program has.prushgoli prushgoli-below

  pub c-make-frame-code : HasT (in_world program) true c-make-frame.code
  c-make-frame-code = in-prushgoli.has-prushgoli_make_frame program has.prushgoli prushgoli-below

  pub c-frame-length-code : HasT (in_world program) true c-frame-length.code
  c-frame-length-code = in-prushgoli.has-prushgoli_frame_length program has.prushgoli prushgoli-below

  pub c-frame-bounds-code : HasT (in_world program) true c-frame-bounds.code
  c-frame-bounds-code = in-prushgoli.has-prushgoli_frame_bounds program has.prushgoli prushgoli-below

  pub c-read-line-code : HasT (in_world program) true c-read-line.code
  c-read-line-code = in-prushgoli.has-prushgoli_read_line program has.prushgoli prushgoli-below

  pub c-read-own-line-code : HasT (in_world program) true c-read-own-line.code
  c-read-own-line-code = in-prushgoli.has-prushgoli_read_own_line program has.prushgoli prushgoli-below

  pub encode-code : HasT (in_world program) true encode.code
  encode-code = in-field.has-encode program has.field field-below

  pub decode-code : HasT (in_world program) true decode.code
  decode-code = in-decoding.has-decode program has.decoding decoding-below

  pub make-frame-code : HasT (in_world program) true make-frame.code
  make-frame-code = in-frame.has-make_frame program has.frame frame-below

  pub frame-length-code : HasT (in_world program) true frame-length.code
  frame-length-code = in-frame.has-frame_length program has.frame frame-below

  pub frame-bounds-code : HasT (in_world program) true frame-bounds.code
  frame-bounds-code = in-frame.has-frame_bounds program has.frame frame-below

  pub read-line-code : HasT (in_world program) true read-line.code
  read-line-code = in-line.has-read_line program has.line line-below

  pub read-own-line-code : HasT (in_world program) true read-own-line.code
  read-own-line-code = in-line.has-read_own_line program has.line line-below

  pub record-at-code : HasT (in_world program) true record-at.code
  record-at-code = in-records.has-record_at program has.records records-below

  pub line-at-code : HasT (in_world program) true line_at_lem.code
  line-at-code = in-report.has-line_at program has.report report-below

  pub word-code : HasT (in_world program) true word.code
  word-code = in-words.has-word program has.words words-below

  pub look-up-code : HasT (in_world program) true look_up.code
  look-up-code = in-words.has-look_up program has.words words-below

  pub number-code : HasT (in_world program) true number.code
  number-code = in-refusals.has-Refusal-number program has.refusals refusals-below

  pub place-code : HasT (in_world program) true place.code
  place-code = in-refusals.has-Refusal-place program has.refusals refusals-below

  pub code-code : HasT (in_world program) true code.code
  code-code = in-field.has-encoding-code program has.field field-below

  pub decode-number-code : HasT (in_world program) true decode-number.code
  decode-number-code = in-decoding.has-decode_number program has.decoding decoding-below

  pub of-frame-code : HasT (in_world program) true of-frame.code
  of-frame-code = in-crc.has-of_frame program has.crc crc-below

  pub scan-code : HasT (in_world program) true scan.code
  scan-code = in-scanning.has-scan program has.scanning scanning-below

  pub read-code : HasT (in_world program) true read.code
  read-code = in-line.has-read program has.line line-below

  pub row-of-code : HasT (in_world program) true row_of.code
  row-of-code = in-field.has-table-row_of program has.field field-below

  pub padding-number-code : HasT (in_world program) true padding-number.code
  padding-number-code = in-field.has-padding-number_of program has.field field-below

  pub load-code : HasT (in_world program) true load.code
  load-code = in-bits.has-bytes-load program has.bits bits-below

  pub store-code : HasT (in_world program) true store.code
  store-code = in-bits.has-bytes-store program has.bits bits-below

  pub word-list-code : HasT (in_world program) true word-list.code
  word-list-code = in-words.has-word_list-list program has.words words-below

  pub word-in-code : HasT (in_world program) true word_in.code
  word-in-code = in-words.has-word_in program has.words words-below

  pub short-list-code : HasT (in_world program) true short-list.code
  short-list-code = in-words.has-short_list-list program has.words words-below

  pub entry-in-code : HasT (in_world program) true entry_in.code
  entry-in-code = in-words.has-entry_in program has.words words-below

  pub carried-code : HasT (in_world program) true carried.code
  carried-code = in-words.has-carried program has.words words-below

  pub is-escape-code : HasT (in_world program) true is-escape.code
  is-escape-code = in-words.has-is_escape program has.words words-below

-- ---- one
abbrev pub program : World
program =
    (codes "bits", in-bits.table)
    ∷ (codes "refusals", in-refusals.table)
    ∷ (codes "words", in-words.table)
    ∷ (codes "field", in-field.table)
    ∷ (codes "decoding", in-decoding.table)
    ∷ (codes "crc", in-crc.table)
    ∷ (codes "frame", in-frame.table)
    ∷ (codes "scanning", in-scanning.table)
    ∷ (codes "line", in-line.table)
    ∷ (codes "prushgoli", in-prushgoli.table)
    ∷ (codes "records", in-records.table)
    ∷ (codes "report", in-report.table)
    ∷ []

has : Program program
has = record { bits = refl; refusals = refl; words = refl; field = refl; decoding = refl; crc = refl; frame = refl; scanning = refl; line = refl; prushgoli = refl; records = refl; report = refl }

pub library : Env
library = tie_t (in_world program)

-- a program that has a code is wired for it
pub wired : (program : World) (code : Code) → HasT (in_world program) true code → Wired (tie_t (in_world program)) code
wired program =
    has-wired_t (in_world program) (tie_t (in_world program)) (tie_t-follows (in_world program)) (tie_t-threads (in_world program))

linked : (code : Code) → HasT (in_world program) true code → Wired library code
unfolding library
linked = wired program

pub c-encode-linked : Wired library c-encode.code
c-encode-linked = linked c-encode.code (c-encode-code program has)

pub c-decode-linked : Wired library c-decode.code
c-decode-linked = linked c-decode.code (c-decode-code program has)

pub c-make-frame-linked : Wired library c-make-frame.code
c-make-frame-linked = linked c-make-frame.code (c-make-frame-code program has)

pub c-frame-length-linked : Wired library c-frame-length.code
c-frame-length-linked = linked c-frame-length.code (c-frame-length-code program has)

pub c-frame-bounds-linked : Wired library c-frame-bounds.code
c-frame-bounds-linked = linked c-frame-bounds.code (c-frame-bounds-code program has)

pub c-read-line-linked : Wired library c-read-line.code
c-read-line-linked = linked c-read-line.code (c-read-line-code program has)

pub c-read-own-line-linked : Wired library c-read-own-line.code
c-read-own-line-linked = linked c-read-own-line.code (c-read-own-line-code program has)

pub encode-linked : Wired library encode.code
encode-linked = linked encode.code (encode-code program has)

pub decode-linked : Wired library decode.code
decode-linked = linked decode.code (decode-code program has)

pub make-frame-linked : Wired library make-frame.code
make-frame-linked = linked make-frame.code (make-frame-code program has)

pub frame-length-linked : Wired library frame-length.code
frame-length-linked = linked frame-length.code (frame-length-code program has)

pub frame-bounds-linked : Wired library frame-bounds.code
frame-bounds-linked = linked frame-bounds.code (frame-bounds-code program has)

pub read-line-linked : Wired library read-line.code
read-line-linked = linked read-line.code (read-line-code program has)

pub read-own-line-linked : Wired library read-own-line.code
read-own-line-linked = linked read-own-line.code (read-own-line-code program has)

pub record-at-linked : Wired library record-at.code
record-at-linked = linked record-at.code (record-at-code program has)

pub line-at-linked : Wired library line_at_lem.code
line-at-linked = linked line_at_lem.code (line-at-code program has)

pub word-linked : Wired library word.code
word-linked = linked word.code (word-code program has)

pub look-up-linked : Wired library look_up.code
look-up-linked = linked look_up.code (look-up-code program has)

pub number-linked : Wired library number.code
number-linked = linked number.code (number-code program has)

pub place-linked : Wired library place.code
place-linked = linked place.code (place-code program has)

pub code-linked : Wired library code.code
code-linked = linked code.code (code-code program has)

pub decode-number-linked : Wired library decode-number.code
decode-number-linked = linked decode-number.code (decode-number-code program has)

pub of-frame-linked : Wired library of-frame.code
of-frame-linked = linked of-frame.code (of-frame-code program has)

pub scan-linked : Wired library scan.code
scan-linked = linked scan.code (scan-code program has)

pub read-linked : Wired library read.code
read-linked = linked read.code (read-code program has)

pub row-of-linked : Wired library row_of.code
row-of-linked = linked row_of.code (row-of-code program has)

pub padding-number-linked : Wired library padding-number.code
padding-number-linked = linked padding-number.code (padding-number-code program has)

pub load-linked : Wired library load.code
load-linked = linked load.code (load-code program has)

pub store-linked : Wired library store.code
store-linked = linked store.code (store-code program has)

pub word-list-linked : Wired library word-list.code
word-list-linked = linked word-list.code (word-list-code program has)

pub word-in-linked : Wired library word_in.code
word-in-linked = linked word_in.code (word-in-code program has)

pub short-list-linked : Wired library short-list.code
short-list-linked = linked short-list.code (short-list-code program has)

pub entry-in-linked : Wired library entry_in.code
entry-in-linked = linked entry_in.code (entry-in-code program has)

pub carried-linked : Wired library carried.code
carried-linked = linked carried.code (carried-code program has)

pub is-escape-linked : Wired library is-escape.code
is-escape-linked = linked is-escape.code (is-escape-code program has)
