-- Demand 1, every public call ends with an answer: each meets its contract, whatever the inputs. `statement` is the toolchain's: a call
-- that is handed what its types say is safe, ends, and leaves what its clauses say. Assumes nothing.
--     c-encode-meets and six more     the calls for C
--     encode-meets and twelve more    the documents' calls in Rattle
--     code_meets and thirteen more    the calls between the crates
use Rattle.prushgoli.proofs.prushgoli_encode.Met as c-encode
use Rattle.prushgoli.proofs.prushgoli_encode.Statement as c-encode-contract
use Rattle.prushgoli.proofs.prushgoli_decode.Met as c-decode
use Rattle.prushgoli.proofs.prushgoli_decode.Statement as c-decode-contract
use Rattle.prushgoli.proofs.prushgoli_make_frame.Met as c-make-frame
use Rattle.prushgoli.proofs.prushgoli_make_frame.Statement as c-make-frame-contract
use Rattle.prushgoli.proofs.prushgoli_frame_length.Met as c-frame-length
use Rattle.prushgoli.proofs.prushgoli_frame_length.Statement as c-frame-length-contract
use Rattle.prushgoli.proofs.prushgoli_frame_bounds.Met as c-frame-bounds
use Rattle.prushgoli.proofs.prushgoli_frame_bounds.Statement as c-frame-bounds-contract
use Rattle.prushgoli.proofs.prushgoli_read_line.Met as c-read-line
use Rattle.prushgoli.proofs.prushgoli_read_line.Statement as c-read-line-contract
use Rattle.prushgoli.proofs.prushgoli_read_own_line.Met as c-read-own-line
use Rattle.prushgoli.proofs.prushgoli_read_own_line.Statement as c-read-own-line-contract
use Rattle.field.proofs.encode.Met as encode
use Rattle.field.proofs.encode.Statement as encode-contract
use Rattle.decoding.proofs.decode.Met as decode
use Rattle.decoding.proofs.decode.Statement as decode-contract
use Rattle.frame.proofs.make_frame.Met as make-frame
use Rattle.frame.proofs.make_frame.Statement as make-frame-contract
use Rattle.frame.proofs.frame_length.Met as frame-length
use Rattle.frame.proofs.frame_length.Statement as frame-length-contract
use Rattle.frame.proofs.frame_bounds.Met as frame-bounds
use Rattle.frame.proofs.frame_bounds.Statement as frame-bounds-contract
use Rattle.line.proofs.read_line.Met as read-line
use Rattle.line.proofs.read_line.Statement as read-line-contract
use Rattle.line.proofs.read_own_line.Met as read-own-line
use Rattle.line.proofs.read_own_line.Statement as read-own-line-contract
use Rattle.records.proofs.record_at.Met as record-at
use Rattle.records.proofs.record_at.Statement as record-at-contract
use Rattle.report.proofs.line_at.Met as line_at_lem
use Rattle.report.proofs.line_at.Statement as line-at-contract
use Rattle.words.proofs.word.Met as word
use Rattle.words.proofs.word.Statement as word-contract
use Rattle.words.proofs.look_up.Met as look_up
use Rattle.words.proofs.look_up.Statement as look-up-contract
use Rattle.refusals.proofs.Refusal.number.Met as number
use Rattle.refusals.proofs.Refusal.number.Statement as number-contract
use Rattle.refusals.proofs.Refusal.place.Met as place
use Rattle.refusals.proofs.Refusal.place.Statement as place-contract
use Rattle.field.proofs.encoding.code.Met as code
use Rattle.field.proofs.encoding.code.Statement as code-contract
use Rattle.decoding.proofs.decode_number.Met as decode-number
use Rattle.decoding.proofs.decode_number.Statement as decode-number-contract
use Rattle.field.proofs.padding.number_of.Met as padding-number
use Rattle.field.proofs.padding.number_of.Statement as padding-number-contract
use Rattle.field.proofs.table.row_of.Met as row_of
use Rattle.field.proofs.table.row_of.Statement as row-of-contract
use Rattle.crc.proofs.of_frame.Met as of-frame
use Rattle.crc.proofs.of_frame.Statement as of-frame-contract
use Rattle.scanning.proofs.scan.Met as scan
use Rattle.scanning.proofs.scan.Statement as scan-contract
use Rattle.line.proofs.read.Met as read
use Rattle.line.proofs.read.Statement as read-contract
use Rattle.words.proofs.word_in.Met as word_in
use Rattle.words.proofs.word_in.Statement as word-in-contract
use Rattle.words.proofs.entry_in.Met as entry_in
use Rattle.words.proofs.entry_in.Statement as entry-in-contract
use Rattle.words.proofs.carried.Met as carried
use Rattle.words.proofs.carried.Statement as carried-contract
use Rattle.words.proofs.is_escape.Met as is-escape
use Rattle.words.proofs.is_escape.Statement as is-escape-contract
use Rattle.words.proofs.word_list.list.Met as word-list
use Rattle.words.proofs.word_list.list.Statement as word-list-contract
use Rattle.words.proofs.short_list.list.Met as short-list
use Rattle.words.proofs.short_list.list.Statement as short-list-contract
use Rattle.bits.proofs.bytes.load.Met as load
use Rattle.bits.proofs.bytes.load.Statement as load-contract
use Rattle.bits.proofs.bytes.store.Met as store
use Rattle.bits.proofs.bytes.store.Statement as store-contract

-- ---- the calls for C

pub c-encode-meets : {M : Type 1} → c-encode-contract.statement M
c-encode-meets = c-encode.met

pub c-decode-meets : {M : Type 1} → c-decode-contract.statement M
c-decode-meets = c-decode.met

pub c-make-frame-meets : {M : Type 1} → c-make-frame-contract.statement M
c-make-frame-meets = c-make-frame.met

pub c-frame-length-meets : {M : Type 1} → c-frame-length-contract.statement M
c-frame-length-meets = c-frame-length.met

pub c-frame-bounds-meets : {M : Type 1} → c-frame-bounds-contract.statement M
c-frame-bounds-meets = c-frame-bounds.met

pub c-read-line-meets : {M : Type 1} → c-read-line-contract.statement M
c-read-line-meets = c-read-line.met

pub c-read-own-line-meets : {M : Type 1} → c-read-own-line-contract.statement M
c-read-own-line-meets = c-read-own-line.met

-- ---- the documents' calls in Rattle

pub encode-meets : {M : Type 1} → encode-contract.statement M
encode-meets = encode.met

pub decode-meets : {M : Type 1} → decode-contract.statement M
decode-meets = decode.met

pub make-frame-meets : {M : Type 1} → make-frame-contract.statement M
make-frame-meets = make-frame.met

pub frame-length-meets : {M : Type 1} → frame-length-contract.statement M
frame-length-meets = frame-length.met

pub frame-bounds-meets : {M : Type 1} → frame-bounds-contract.statement M
frame-bounds-meets = frame-bounds.met

pub read-line-meets : {M : Type 1} → read-line-contract.statement M
read-line-meets = read-line.met

pub read-own-line-meets : {M : Type 1} → read-own-line-contract.statement M
read-own-line-meets = read-own-line.met

pub record-at-meets : {M : Type 1} → record-at-contract.statement M
record-at-meets = record-at.met

pub line-at-meets : {M : Type 1} → line-at-contract.statement M
line-at-meets = line_at_lem.met

pub word-meets : {M : Type 1} → word-contract.statement M
word-meets = word.met

pub look-up-meets : {M : Type 1} → look-up-contract.statement M
look-up-meets = look_up.met

pub number-meets : {M : Type 1} → number-contract.statement M
number-meets = number.met

pub place-meets : {M : Type 1} → place-contract.statement M
place-meets = place.met

-- ---- the calls between the crates

pub code_meets : {M : Type 1} → code-contract.statement M
code_meets = code.met

pub decode-number-meets : {M : Type 1} → decode-number-contract.statement M
decode-number-meets = decode-number.met

pub padding-number-meets : {M : Type 1} → padding-number-contract.statement M
padding-number-meets = padding-number.met

pub row-of-meets : {M : Type 1} → row-of-contract.statement M
row-of-meets = row_of.met

pub of-frame-meets : {M : Type 1} → of-frame-contract.statement M
of-frame-meets = of-frame.met

pub scan-meets : {M : Type 1} → scan-contract.statement M
scan-meets = scan.met

pub read_meets : {M : Type 1} → read-contract.statement M
read_meets = read.met

pub word-in-meets : {M : Type 1} → word-in-contract.statement M
word-in-meets = word_in.met

pub entry-in-meets : {M : Type 1} → entry-in-contract.statement M
entry-in-meets = entry_in.met

pub carried-meets : {M : Type 1} → carried-contract.statement M
carried-meets = carried.met

pub is-escape-meets : {M : Type 1} → is-escape-contract.statement M
is-escape-meets = is-escape.met

pub word-list-meets : {M : Type 1} → word-list-contract.statement M
word-list-meets = word-list.met

pub short-list-meets : {M : Type 1} → short-list-contract.statement M
short-list-meets = short-list.met

pub load-meets : {M : Type 1} → load-contract.statement M
load-meets = load.met

pub store-meets : {M : Type 1} → store-contract.statement M
store-meets = store.met
