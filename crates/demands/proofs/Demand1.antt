-- Demand 1: every public call ends with an answer for every input of every length, and after a refusal every lent buffer holds its old
-- bytes. Of each public entry, C's and Rattle's: its contract asks nothing of the inputs, allows no two answers and no two contents of
-- the lent buffer, and with a refusal only the old one. `Asked` and `Learnt` are the toolchain's readings of the entry's own clauses: what
-- they ask of a caller and what they tell it. Inputs i, and the parameters s after the call, are in the order of the signature: .0 the
-- first, .1 .0 the second. That each entry meets its contract is in Meets, that its run ends in Runs and Ends; what it checks is in
-- Exactly, LineRefusals and RecordsExactly. Assumes nothing.
--     c-encode-settled and six more     the calls for C
--     encode-settled and twelve more    the documents' calls in Rattle
--     code-settled and thirteen more    the calls between the crates
use mathlib.Core.Path.{◌≡◌, refl, ap, subst, ◌∙◌}
use mathlib.Core.List.{List}
use Prim.Native.Nat.{ℕ, ◌<◌}
use native.Mathlib.Omega.{arith}
use contract.Lifetimes.{Lfts}
use lib.ListN.{length}
use Rattle.refusals.specs.Table.{Numbers, answer_numbers}
use Rattle.refusals.specs.After.{after}
use Rattle.refusals.proofs.After.{some-keeps}
use Rattle.field.specs.Field.{field_of}
use Rattle.field.specs.Encode.{encode_answer}
use Rattle.field.specs.Coded.{field_from}
use Rattle.decoding.specs.Decode.{decode_answer, payload_of}
use Rattle.wire.specs.Identifier.{identifier_of}
use Rattle.wire.specs.Answers.{payload_line, make_answer}
use Rattle.line.specs.Read.{acknowledged, own, read_answer, payload_in, line_numbers}
use Rattle.report.specs.Report.{line_at, reported_numbers}
use Rattle.prushgoli.specs.Packing.{pack, told}
use Rattle.prushgoli.proofs.Packed.{Fits, told_back}
use Rattle.prushgoli.proofs.Fits.{encode-fits, decode-fits, make-fits, read_fits}
use Rattle.demands.specs.Settled.{Settled, SettledWith}
use Rattle.demands.proofs.Settled.{settled, settled-with}
use Rattle.prushgoli.proofs.prushgoli_encode.Reads as c-encode
use Rattle.prushgoli.proofs.prushgoli_decode.Reads as c-decode
use Rattle.prushgoli.proofs.prushgoli_make_frame.Reads as c-make-frame
use Rattle.prushgoli.proofs.prushgoli_frame_length.Reads as c-frame-length
use Rattle.prushgoli.proofs.prushgoli_frame_bounds.Reads as c-frame-bounds
use Rattle.prushgoli.proofs.prushgoli_read_line.Reads as c-read-line
use Rattle.prushgoli.proofs.prushgoli_read_own_line.Reads as c-read-own-line
use Rattle.field.proofs.encode.Reads as encode
use Rattle.decoding.proofs.decode.Reads as decode
use Rattle.frame.proofs.make_frame.Reads as make-frame
use Rattle.frame.proofs.frame_length.Reads as frame-length
use Rattle.frame.proofs.frame_bounds.Reads as frame-bounds
use Rattle.line.proofs.read_line.Reads as read-line
use Rattle.line.proofs.read_own_line.Reads as read-own-line
use Rattle.records.proofs.record_at.Reads as record-at
use Rattle.report.proofs.line_at.Reads as line_at_lem
use Rattle.words.proofs.word.Reads as word
use Rattle.words.proofs.look_up.Reads as look_up
use Rattle.refusals.proofs.Refusal.number.Reads as number
use Rattle.refusals.proofs.Refusal.place.Reads as place
use Rattle.field.proofs.encoding.code.Reads as code
use Rattle.decoding.proofs.decode_number.Reads as decode-number
use Rattle.field.proofs.padding.number_of.Reads as padding-number
use Rattle.field.proofs.table.row_of.Reads as row_of
use Rattle.crc.proofs.of_frame.Reads as of-frame
use Rattle.scanning.proofs.scan.Reads as scan
use Rattle.line.proofs.read.Reads as read
use Rattle.words.proofs.word_in.Reads as word_in
use Rattle.words.proofs.entry_in.Reads as entry_in
use Rattle.words.proofs.carried.Reads as carried
use Rattle.words.proofs.is_escape.Reads as is-escape
use Rattle.words.proofs.word_list.list.Reads as word-list
use Rattle.words.proofs.short_list.list.Reads as short-list
use Rattle.bits.proofs.bytes.load.Reads as load
use Rattle.bits.proofs.bytes.store.Reads as store

-- what is left where the number that packs an answer tells a refusal
packed-old : (x : Numbers) (a : ℕ) (result old : List ℕ) → Fits x → a ≡ pack x → 0 < (told a).refusal → after x result old ≡ old
packed-old x a result old fits is refused =
    some-keeps result old x (subst (λ (y : Numbers). 0 < y.refusal) (ap told is ∙ told_back x fits) refused)

-- ---- the calls for C: an answer is one number, of which the refusal is a part

pub c-encode-settled : (κs : Lfts 2)
    → SettledWith (c-encode.Asked κs) (c-encode.Learnt κs) (λ a. (told a).refusal) (λ i. i.1.0.now) (λ s. s.1.0.now)
c-encode-settled κs =
    settled-with (λ i. tt) (λ i a s says. says) (λ i a is refused.
    let answer = encode_answer i.0.now (length i.1.0.now) in
    packed-old (answer_numbers answer) a (field_of i.0.now) i.1.0.now (encode-fits _ _ answer refl) is refused)

pub c-decode-settled : (κs : Lfts 2)
    → SettledWith (c-decode.Asked κs) (c-decode.Learnt κs) (λ a. (told a).refusal) (λ i. i.1.0.now) (λ s. s.1.0.now)
c-decode-settled κs =
    settled-with (λ i. tt) (λ i a s says. says) (λ i a is refused.
    let answer = decode_answer i.0.now (length i.1.0.now) in
    let fits = decode-fits i.0.now (length i.1.0.now) answer refl in
    packed-old (answer_numbers answer) a (payload_of i.0.now) i.1.0.now fits is refused)

pub c-make-frame-settled : (κs : Lfts 2)
    → SettledWith (c-make-frame.Asked κs) (c-make-frame.Learnt κs) (λ a. (told a).refusal) (λ i. i.1.1.0.now) (λ s. s.1.1.0.now)
c-make-frame-settled κs =
    settled-with (λ i. tt) (λ i a s says. says) (λ i a is refused.
    let answer = make_answer (identifier_of i.0) i.1.0.now (length i.1.1.0.now) in
    packed-old (answer_numbers answer) a (payload_line (identifier_of i.0) i.1.0.now) i.1.1.0.now (make-fits _ _ _ answer refl) is refused)

pub c-frame-length-settled : (κs : Lfts 1) → Settled (c-frame-length.Asked κs) (c-frame-length.Learnt κs)
c-frame-length-settled κs = settled (λ i. tt) (λ i a s says. says)

pub c-frame-bounds-settled : (κs : Lfts 0) → Settled (c-frame-bounds.Asked κs) (c-frame-bounds.Learnt κs)
c-frame-bounds-settled κs = settled (λ i. tt) (λ i a s says. says)

pub c-read-line-settled : (κs : Lfts 2)
    → SettledWith (c-read-line.Asked κs) (c-read-line.Learnt κs) (λ a. (told a).refusal) (λ i. i.1.0.now) (λ s. s.1.0.now)
c-read-line-settled κs =
    settled-with (λ i. tt) (λ i a s says. says) (λ i a is refused.
    let answer = read_answer acknowledged i.0.now (length i.1.0.now) in
    packed-old (line_numbers answer) a (payload_in acknowledged i.0.now) i.1.0.now (read_fits _ _ _ answer refl) is refused)

pub c-read-own-line-settled : (κs : Lfts 2)
    → SettledWith (c-read-own-line.Asked κs) (c-read-own-line.Learnt κs) (λ a. (told a).refusal) (λ i. i.1.0.now) (λ s. s.1.0.now)
c-read-own-line-settled κs =
    settled-with (λ i. tt) (λ i a s says. says) (λ i a is refused.
    let answer = read_answer own i.0.now (length i.1.0.now) in
    packed-old (line_numbers answer) a (payload_in own i.0.now) i.1.0.now (read_fits _ _ _ answer refl) is refused)

-- ---- the documents' calls in Rattle

pub encode-settled : (κs : Lfts 2)
    → SettledWith (encode.Asked κs) (encode.Learnt κs) (λ a. (answer_numbers a).refusal) (λ i. i.1.0.now) (λ s. s.1.0.now)
encode-settled κs = settled-with (λ i. tt) (λ i a s says. says) (λ i a is refused. some-keeps (field_of i.0.now) _ (answer_numbers a) refused)

pub decode-settled : (κs : Lfts 2)
    → SettledWith (decode.Asked κs) (decode.Learnt κs) (λ a. (answer_numbers a).refusal) (λ i. i.1.0.now) (λ s. s.1.0.now)
decode-settled κs = settled-with (λ i. tt) (λ i a s says. says) (λ i a is refused. some-keeps (payload_of i.0.now) _ (answer_numbers a) refused)

pub make-frame-settled : (κs : Lfts 2)
    → SettledWith (make-frame.Asked κs) (make-frame.Learnt κs) (λ a. (answer_numbers a).refusal) (λ i. i.1.1.0.now) (λ s. s.1.1.0.now)
make-frame-settled κs = settled-with (λ i. tt) (λ i a s says. says) (λ i a is refused. some-keeps (payload_line i.0 i.1.0.now) _ (answer_numbers a) refused)

pub frame-length-settled : (κs : Lfts 1) → Settled (frame-length.Asked κs) (frame-length.Learnt κs)
frame-length-settled κs = settled (λ i. tt) (λ i a s says. says)

pub frame-bounds-settled : (κs : Lfts 0) → Settled (frame-bounds.Asked κs) (frame-bounds.Learnt κs)
frame-bounds-settled κs = settled (λ i. tt) (λ i a s says. says)

pub read-line-settled : (κs : Lfts 2)
    → SettledWith (read-line.Asked κs) (read-line.Learnt κs) (λ a. (line_numbers a).refusal) (λ i. i.1.0.now) (λ s. s.1.0.now)
read-line-settled κs = settled-with (λ i. tt) (λ i a s says. says) (λ i a is refused. some-keeps (payload_in acknowledged i.0.now) _ (line_numbers a) refused)

pub read-own-line-settled : (κs : Lfts 2)
    → SettledWith (read-own-line.Asked κs) (read-own-line.Learnt κs) (λ a. (line_numbers a).refusal) (λ i. i.1.0.now) (λ s. s.1.0.now)
read-own-line-settled κs = settled-with (λ i. tt) (λ i a s says. says) (λ i a is refused. some-keeps (payload_in own i.0.now) _ (line_numbers a) refused)

pub record-at-settled : (κs : Lfts 1) → Settled (record-at.Asked κs) (record-at.Learnt κs)
record-at-settled κs = settled (λ i. tt) (λ i a s says. says)

pub line-at-settled : (κs : Lfts 2)
    → SettledWith (line_at_lem.Asked κs) (line_at_lem.Learnt κs) (λ a. (reported_numbers a).refusal) (λ i. i.1.1.1.0.now) (λ s. s.1.1.1.0.now)
line-at-settled κs = settled-with (λ i. tt) (λ i a s says. says) (λ i a is refused. some-keeps (line_at i.0.now i.1.0 i.1.1.0) _ (reported_numbers a) refused)

pub word-settled : (κs : Lfts 0) → Settled (word.Asked κs) (word.Learnt κs)
word-settled κs = settled (λ i. tt) (λ i a s says. says)

pub look-up-settled : (κs : Lfts 0) → Settled (look_up.Asked κs) (look_up.Learnt κs)
look-up-settled κs = settled (λ i. tt) (λ i a s says. says)

pub number-settled : (κs : Lfts 0) → Settled (number.Asked κs) (number.Learnt κs)
number-settled κs = settled (λ i. tt) (λ i a s says. says)

pub place-settled : (κs : Lfts 0) → Settled (place.Asked κs) (place.Learnt κs)
place-settled κs = settled (λ i. tt) (λ i a s says. says)

-- ---- the calls between the crates

pub code-settled : (κs : Lfts 1) → Settled (code.Asked κs) (code.Learnt κs)
code-settled κs = settled (λ i. tt) (λ i a s says. says)

pub decode-number-settled : (κs : Lfts 1)
    → SettledWith (decode-number.Asked κs) (decode-number.Learnt κs) (λ a. (answer_numbers a).refusal) (λ i. i.1.0.now) (λ s. s.1.0.now)
decode-number-settled κs =
    settled-with (λ i. tt) (λ i a s says. says)
    (λ i a is refused. some-keeps (payload_of (field_from i.0.n i.0.number)) _ (answer_numbers a) refused)

pub padding-number-settled : (κs : Lfts 0) → Settled (padding-number.Asked κs) (padding-number.Learnt κs)
padding-number-settled κs = settled (λ i. tt) (λ i a s says. says)

pub row-of-settled : (κs : Lfts 0) → Settled (row_of.Asked κs) (row_of.Learnt κs)
row-of-settled κs = settled (λ i. tt) (λ i a s says. says)

pub of-frame-settled : (κs : Lfts 0) → Settled (of-frame.Asked κs) (of-frame.Learnt κs)
of-frame-settled κs = settled (λ i. tt) (λ i a s says. says)

pub scan-settled : (κs : Lfts 1) → Settled (scan.Asked κs) (scan.Learnt κs)
scan-settled κs = settled (λ i. tt) (λ i a s says. says)

pub read-settled : (κs : Lfts 2)
    → SettledWith (read.Asked κs) (read.Learnt κs) (λ a. (line_numbers a).refusal) (λ i. i.1.0.now) (λ s. s.1.0.now)
read-settled κs =
    settled-with (λ i. tt) (λ i a s says. says) (λ i a is refused.
    some-keeps (payload_in i.1.1.0 i.0.now) _ (line_numbers a) refused)

pub word-in-settled : (κs : Lfts 1) → Settled (word_in.Asked κs) (word_in.Learnt κs)
word-in-settled κs = settled (λ i. tt) (λ i a s says. says)

pub entry-in-settled : (κs : Lfts 1) → Settled (entry_in.Asked κs) (entry_in.Learnt κs)
entry-in-settled κs = settled (λ i. tt) (λ i a s says. says)

pub carried-settled : (κs : Lfts 0) → Settled (carried.Asked κs) (carried.Learnt κs)
carried-settled κs = settled (λ i. tt) (λ i a s says. says)

pub is-escape-settled : (κs : Lfts 0) → Settled (is-escape.Asked κs) (is-escape.Learnt κs)
is-escape-settled κs = settled (λ i. tt) (λ i a s says. says)

pub word-list-settled : (κs : Lfts 0) → Settled (word-list.Asked κs) (word-list.Learnt κs)
word-list-settled κs = settled (λ i. tt) (λ i a s says. says)

pub short-list-settled : (κs : Lfts 0) → Settled (short-list.Asked κs) (short-list.Learnt κs)
short-list-settled κs = settled (λ i. tt) (λ i a s says. says)

pub load-settled : (κs : Lfts 1) → Settled (load.Asked κs) (load.Learnt κs)
load-settled κs = settled (λ i. tt) (λ i a s says. says)

-- it has no answer, and so no refusal
pub store-settled : (κs : Lfts 1)
    → SettledWith (store.Asked κs) (store.Learnt κs) (λ a. 0) (λ i. i.1.1.0.now) (λ s. s.1.1.0.now)
store-settled κs = settled-with (λ i. tt) (λ i a s says. (refl, says)) (λ i a is refused. absurd (omega (arith, refused)))
