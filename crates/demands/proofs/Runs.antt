-- Demand 1, every public call ends: the machine's run of each. From every memory that has what the call's types own, beside anything else,
-- the run is `done` with fuel enough, with an answer that its contract allows, and what stood beside is as it was: of every environment, as
-- a program is one, that has the code of the call and of all that it calls (`RunsEverywhere`; Linked has one). `Runs` says this in the words
-- of the toolchain's logic; of the calls for C, Ends says it without them. `Asked` and `Learnt` are as in Demand1. Assumes nothing.
--     c-encode-runs and six more        the calls for C
--     encode-runs and twelve more       the other calls of the documents
--     code_runs and thirteen more       the calls that one crate has for another
use ghost.Model.{𝓤}
use contract.BorrowModel.{logic₀}
use contract.Closed.{model⁺}
use Rattle.prushgoli.proofs.prushgoli_encode as c-encode
use Rattle.prushgoli.proofs.prushgoli_decode as c-decode
use Rattle.prushgoli.proofs.prushgoli_make_frame as c-make-frame
use Rattle.prushgoli.proofs.prushgoli_frame_length as c-frame-length
use Rattle.prushgoli.proofs.prushgoli_frame_bounds as c-frame-bounds
use Rattle.prushgoli.proofs.prushgoli_read_line as c-read-line
use Rattle.prushgoli.proofs.prushgoli_read_own_line as c-read-own-line
use Rattle.field.proofs.encode as encode
use Rattle.decoding.proofs.decode as decode
use Rattle.frame.proofs.make_frame as make-frame
use Rattle.frame.proofs.frame_length as frame-length
use Rattle.frame.proofs.frame_bounds as frame-bounds
use Rattle.line.proofs.read_line as read-line
use Rattle.line.proofs.read_own_line as read-own-line
use Rattle.records.proofs.record_at as record-at
use Rattle.report.proofs.line_at as line_at_lem
use Rattle.words.proofs.word as word
use Rattle.words.proofs.look_up as look_up
use Rattle.refusals.proofs.Refusal.number as number
use Rattle.refusals.proofs.Refusal.place as place
use Rattle.field.proofs.encoding.code as code
use Rattle.decoding.proofs.decode_number as decode-number
use Rattle.crc.proofs.of_frame as of-frame
use Rattle.scanning.proofs.scan as scan
use Rattle.line.proofs.read as read
use Rattle.field.proofs.table.row_of as row_of
use Rattle.field.proofs.padding.number_of as padding-number
use Rattle.bits.proofs.bytes.load as load
use Rattle.bits.proofs.bytes.store as store
use Rattle.words.proofs.word_list.list as word-list
use Rattle.words.proofs.word_in as word_in
use Rattle.words.proofs.short_list.list as short-list
use Rattle.words.proofs.entry_in as entry_in
use Rattle.words.proofs.carried as carried
use Rattle.words.proofs.is_escape as is-escape
use Rattle.demands.specs.Runs.{RunsEverywhere}
use Rattle.demands.proofs.Running.{runs, running}

-- ---- the calls for C

pub c-encode-runs : RunsEverywhere c-encode.Kinds.ps c-encode.Kinds.r c-encode.Reads.Asked c-encode.Reads.Learnt c-encode.Symbol.code c-encode.Symbol.name
c-encode-runs = runs c-encode.Symbol.code c-encode.Symbol.name c-encode.Reads.known (λ γ. c-encode.Met.met 𝓤 logic₀ model⁺ (running γ))

pub c-decode-runs : RunsEverywhere c-decode.Kinds.ps c-decode.Kinds.r c-decode.Reads.Asked c-decode.Reads.Learnt c-decode.Symbol.code c-decode.Symbol.name
c-decode-runs = runs c-decode.Symbol.code c-decode.Symbol.name c-decode.Reads.known (λ γ. c-decode.Met.met 𝓤 logic₀ model⁺ (running γ))

pub c-make-frame-runs : RunsEverywhere c-make-frame.Kinds.ps c-make-frame.Kinds.r c-make-frame.Reads.Asked c-make-frame.Reads.Learnt c-make-frame.Symbol.code c-make-frame.Symbol.name
c-make-frame-runs = runs c-make-frame.Symbol.code c-make-frame.Symbol.name c-make-frame.Reads.known (λ γ. c-make-frame.Met.met 𝓤 logic₀ model⁺ (running γ))

pub c-frame-length-runs : RunsEverywhere c-frame-length.Kinds.ps c-frame-length.Kinds.r c-frame-length.Reads.Asked c-frame-length.Reads.Learnt c-frame-length.Symbol.code c-frame-length.Symbol.name
c-frame-length-runs = runs c-frame-length.Symbol.code c-frame-length.Symbol.name c-frame-length.Reads.known (λ γ. c-frame-length.Met.met 𝓤 logic₀ model⁺ (running γ))

pub c-frame-bounds-runs : RunsEverywhere c-frame-bounds.Kinds.ps c-frame-bounds.Kinds.r c-frame-bounds.Reads.Asked c-frame-bounds.Reads.Learnt c-frame-bounds.Symbol.code c-frame-bounds.Symbol.name
c-frame-bounds-runs = runs c-frame-bounds.Symbol.code c-frame-bounds.Symbol.name c-frame-bounds.Reads.known (λ γ. c-frame-bounds.Met.met 𝓤 logic₀ model⁺ (running γ))

pub c-read-line-runs : RunsEverywhere c-read-line.Kinds.ps c-read-line.Kinds.r c-read-line.Reads.Asked c-read-line.Reads.Learnt c-read-line.Symbol.code c-read-line.Symbol.name
c-read-line-runs = runs c-read-line.Symbol.code c-read-line.Symbol.name c-read-line.Reads.known (λ γ. c-read-line.Met.met 𝓤 logic₀ model⁺ (running γ))

pub c-read-own-line-runs : RunsEverywhere c-read-own-line.Kinds.ps c-read-own-line.Kinds.r c-read-own-line.Reads.Asked c-read-own-line.Reads.Learnt c-read-own-line.Symbol.code c-read-own-line.Symbol.name
c-read-own-line-runs = runs c-read-own-line.Symbol.code c-read-own-line.Symbol.name c-read-own-line.Reads.known (λ γ. c-read-own-line.Met.met 𝓤 logic₀ model⁺ (running γ))

-- ---- the other calls of document 01

pub encode-runs : RunsEverywhere encode.Kinds.ps encode.Kinds.r encode.Reads.Asked encode.Reads.Learnt encode.Symbol.code encode.Symbol.name
encode-runs = runs encode.Symbol.code encode.Symbol.name encode.Reads.known (λ γ. encode.Met.met 𝓤 logic₀ model⁺ (running γ))

pub decode-runs : RunsEverywhere decode.Kinds.ps decode.Kinds.r decode.Reads.Asked decode.Reads.Learnt decode.Symbol.code decode.Symbol.name
decode-runs = runs decode.Symbol.code decode.Symbol.name decode.Reads.known (λ γ. decode.Met.met 𝓤 logic₀ model⁺ (running γ))

pub make-frame-runs : RunsEverywhere make-frame.Kinds.ps make-frame.Kinds.r make-frame.Reads.Asked make-frame.Reads.Learnt make-frame.Symbol.code make-frame.Symbol.name
make-frame-runs = runs make-frame.Symbol.code make-frame.Symbol.name make-frame.Reads.known (λ γ. make-frame.Met.met 𝓤 logic₀ model⁺ (running γ))

pub frame-length-runs : RunsEverywhere frame-length.Kinds.ps frame-length.Kinds.r frame-length.Reads.Asked frame-length.Reads.Learnt frame-length.Symbol.code frame-length.Symbol.name
frame-length-runs = runs frame-length.Symbol.code frame-length.Symbol.name frame-length.Reads.known (λ γ. frame-length.Met.met 𝓤 logic₀ model⁺ (running γ))

pub frame-bounds-runs : RunsEverywhere frame-bounds.Kinds.ps frame-bounds.Kinds.r frame-bounds.Reads.Asked frame-bounds.Reads.Learnt frame-bounds.Symbol.code frame-bounds.Symbol.name
frame-bounds-runs = runs frame-bounds.Symbol.code frame-bounds.Symbol.name frame-bounds.Reads.known (λ γ. frame-bounds.Met.met 𝓤 logic₀ model⁺ (running γ))

pub read-line-runs : RunsEverywhere read-line.Kinds.ps read-line.Kinds.r read-line.Reads.Asked read-line.Reads.Learnt read-line.Symbol.code read-line.Symbol.name
read-line-runs = runs read-line.Symbol.code read-line.Symbol.name read-line.Reads.known (λ γ. read-line.Met.met 𝓤 logic₀ model⁺ (running γ))

pub read-own-line-runs : RunsEverywhere read-own-line.Kinds.ps read-own-line.Kinds.r read-own-line.Reads.Asked read-own-line.Reads.Learnt read-own-line.Symbol.code read-own-line.Symbol.name
read-own-line-runs = runs read-own-line.Symbol.code read-own-line.Symbol.name read-own-line.Reads.known (λ γ. read-own-line.Met.met 𝓤 logic₀ model⁺ (running γ))

pub record-at-runs : RunsEverywhere record-at.Kinds.ps record-at.Kinds.r record-at.Reads.Asked record-at.Reads.Learnt record-at.Symbol.code record-at.Symbol.name
record-at-runs = runs record-at.Symbol.code record-at.Symbol.name record-at.Reads.known (λ γ. record-at.Met.met 𝓤 logic₀ model⁺ (running γ))

pub line-at-runs : RunsEverywhere line_at_lem.Kinds.ps line_at_lem.Kinds.r line_at_lem.Reads.Asked line_at_lem.Reads.Learnt line_at_lem.Symbol.code line_at_lem.Symbol.name
line-at-runs = runs line_at_lem.Symbol.code line_at_lem.Symbol.name line_at_lem.Reads.known (λ γ. line_at_lem.Met.met 𝓤 logic₀ model⁺ (running γ))

pub word-runs : RunsEverywhere word.Kinds.ps word.Kinds.r word.Reads.Asked word.Reads.Learnt word.Symbol.code word.Symbol.name
word-runs = runs word.Symbol.code word.Symbol.name word.Reads.known (λ γ. word.Met.met 𝓤 logic₀ model⁺ (running γ))

pub look-up-runs : RunsEverywhere look_up.Kinds.ps look_up.Kinds.r look_up.Reads.Asked look_up.Reads.Learnt look_up.Symbol.code look_up.Symbol.name
look-up-runs = runs look_up.Symbol.code look_up.Symbol.name look_up.Reads.known (λ γ. look_up.Met.met 𝓤 logic₀ model⁺ (running γ))

pub number-runs : RunsEverywhere number.Kinds.ps number.Kinds.r number.Reads.Asked number.Reads.Learnt number.Symbol.code number.Symbol.name
number-runs = runs number.Symbol.code number.Symbol.name number.Reads.known (λ γ. number.Met.met 𝓤 logic₀ model⁺ (running γ))

pub place-runs : RunsEverywhere place.Kinds.ps place.Kinds.r place.Reads.Asked place.Reads.Learnt place.Symbol.code place.Symbol.name
place-runs = runs place.Symbol.code place.Symbol.name place.Reads.known (λ γ. place.Met.met 𝓤 logic₀ model⁺ (running γ))

-- ---- calls between crates

pub code_runs : RunsEverywhere code.Kinds.ps code.Kinds.r code.Reads.Asked code.Reads.Learnt code.Symbol.code code.Symbol.name
code_runs = runs code.Symbol.code code.Symbol.name code.Reads.known (λ γ. code.Met.met 𝓤 logic₀ model⁺ (running γ))

pub decode-number-runs : RunsEverywhere decode-number.Kinds.ps decode-number.Kinds.r decode-number.Reads.Asked decode-number.Reads.Learnt decode-number.Symbol.code decode-number.Symbol.name
decode-number-runs = runs decode-number.Symbol.code decode-number.Symbol.name decode-number.Reads.known (λ γ. decode-number.Met.met 𝓤 logic₀ model⁺ (running γ))

pub of-frame-runs : RunsEverywhere of-frame.Kinds.ps of-frame.Kinds.r of-frame.Reads.Asked of-frame.Reads.Learnt of-frame.Symbol.code of-frame.Symbol.name
of-frame-runs = runs of-frame.Symbol.code of-frame.Symbol.name of-frame.Reads.known (λ γ. of-frame.Met.met 𝓤 logic₀ model⁺ (running γ))

pub scan_runs : RunsEverywhere scan.Kinds.ps scan.Kinds.r scan.Reads.Asked scan.Reads.Learnt scan.Symbol.code scan.Symbol.name
scan_runs = runs scan.Symbol.code scan.Symbol.name scan.Reads.known (λ γ. scan.Met.met 𝓤 logic₀ model⁺ (running γ))

pub read-runs : RunsEverywhere read.Kinds.ps read.Kinds.r read.Reads.Asked read.Reads.Learnt read.Symbol.code read.Symbol.name
read-runs = runs read.Symbol.code read.Symbol.name read.Reads.known (λ γ. read.Met.met 𝓤 logic₀ model⁺ (running γ))

pub row-of-runs : RunsEverywhere row_of.Kinds.ps row_of.Kinds.r row_of.Reads.Asked row_of.Reads.Learnt row_of.Symbol.code row_of.Symbol.name
row-of-runs = runs row_of.Symbol.code row_of.Symbol.name row_of.Reads.known (λ γ. row_of.Met.met 𝓤 logic₀ model⁺ (running γ))

pub padding-number-runs : RunsEverywhere padding-number.Kinds.ps padding-number.Kinds.r padding-number.Reads.Asked padding-number.Reads.Learnt padding-number.Symbol.code padding-number.Symbol.name
padding-number-runs = runs padding-number.Symbol.code padding-number.Symbol.name padding-number.Reads.known (λ γ. padding-number.Met.met 𝓤 logic₀ model⁺ (running γ))

pub load-runs : RunsEverywhere load.Kinds.ps load.Kinds.r load.Reads.Asked load.Reads.Learnt load.Symbol.code load.Symbol.name
load-runs = runs load.Symbol.code load.Symbol.name load.Reads.known (λ γ. load.Met.met 𝓤 logic₀ model⁺ (running γ))

pub store-runs : RunsEverywhere store.Kinds.ps store.Kinds.r store.Reads.Asked store.Reads.Learnt store.Symbol.code store.Symbol.name
store-runs = runs store.Symbol.code store.Symbol.name store.Reads.known (λ γ. store.Met.met 𝓤 logic₀ model⁺ (running γ))

pub word-list-runs : RunsEverywhere word-list.Kinds.ps word-list.Kinds.r word-list.Reads.Asked word-list.Reads.Learnt word-list.Symbol.code word-list.Symbol.name
word-list-runs = runs word-list.Symbol.code word-list.Symbol.name word-list.Reads.known (λ γ. word-list.Met.met 𝓤 logic₀ model⁺ (running γ))

pub word-in-runs : RunsEverywhere word_in.Kinds.ps word_in.Kinds.r word_in.Reads.Asked word_in.Reads.Learnt word_in.Symbol.code word_in.Symbol.name
word-in-runs = runs word_in.Symbol.code word_in.Symbol.name word_in.Reads.known (λ γ. word_in.Met.met 𝓤 logic₀ model⁺ (running γ))

pub short-list-runs : RunsEverywhere short-list.Kinds.ps short-list.Kinds.r short-list.Reads.Asked short-list.Reads.Learnt short-list.Symbol.code short-list.Symbol.name
short-list-runs = runs short-list.Symbol.code short-list.Symbol.name short-list.Reads.known (λ γ. short-list.Met.met 𝓤 logic₀ model⁺ (running γ))

pub entry-in-runs : RunsEverywhere entry_in.Kinds.ps entry_in.Kinds.r entry_in.Reads.Asked entry_in.Reads.Learnt entry_in.Symbol.code entry_in.Symbol.name
entry-in-runs = runs entry_in.Symbol.code entry_in.Symbol.name entry_in.Reads.known (λ γ. entry_in.Met.met 𝓤 logic₀ model⁺ (running γ))

pub carried-runs : RunsEverywhere carried.Kinds.ps carried.Kinds.r carried.Reads.Asked carried.Reads.Learnt carried.Symbol.code carried.Symbol.name
carried-runs = runs carried.Symbol.code carried.Symbol.name carried.Reads.known (λ γ. carried.Met.met 𝓤 logic₀ model⁺ (running γ))

pub is-escape-runs : RunsEverywhere is-escape.Kinds.ps is-escape.Kinds.r is-escape.Reads.Asked is-escape.Reads.Learnt is-escape.Symbol.code is-escape.Symbol.name
is-escape-runs = runs is-escape.Symbol.code is-escape.Symbol.name is-escape.Reads.known (λ γ. is-escape.Met.met 𝓤 logic₀ model⁺ (running γ))
