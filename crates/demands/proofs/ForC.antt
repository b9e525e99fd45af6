-- Demand 1, at the calls for C: what C reads out of the one number that it is answered are document 01's numbers of the answer, the
-- refusal's number and its place, or 0 and the length, the bounds, or length and identifier. Each is about an outcome that the contract
-- allows. Assumes nothing.
--     encode-told, decode-told, make-frame-told, frame-length-told, frame-bounds-told, read-line-told, read-own-line-told
--     answer-exactly, bounds-exactly, line-exactly    C reads the numbers of an answer exactly when that is the answer: so of each call it
--                    reads the number and the place of a refusal exactly when Exactly and LineRefusals say
--     length-told    of an answer that is a length C reads no refusal, and the length
--     none_told      and where it reads no refusal, the answer is the length that it reads
--     frame-told     of a line that C reads no refusal of, the answer is the identifier and the length that it reads
use mathlib.Core.Path.{◌≡◌, refl, sym, ap, ap₂, ◌∙◌}
use mathlib.Core.Logic.{◌↔◌}
use Prim.Native.Nat.{ℕ}
use contract.Lifetimes.{Lfts}
use mathlib.Core.List.{List}
use lib.ListN.{length}
use Rattle.std.proofs.Common.{Result, Ok, Err}
use Rattle.refusals.specs.Table.{Numbers, given, in_table, answer_numbers}
use Rattle.refusals.specs.declared.Refusal.{Refusal}
use Rattle.refusals.proofs.Table.{number-some}
use Rattle.refusals.proofs.Answers.{answer-only}
use Rattle.field.specs.Encode.{encode_answer}
use Rattle.decoding.specs.Decode.{decode_answer}
use Rattle.wire.specs.declared.Identifier.{Identifier}
use Rattle.wire.specs.Identifier.{Allowed, number_for_c, identifier_of}
use Rattle.wire.specs.Answers.{make_answer, length_answer, bounds_answer, bounds_numbers}
use Rattle.wire.specs.declared.Bounds.{Bounds}
use Rattle.wire.proofs.Identifiers.{for-c-back, allowed-small}
use Rattle.wire.proofs.BoundsAnswers.{bounds-only}
use Rattle.line.specs.Read.{acknowledged, own, read_answer, line_numbers, framed}
use Rattle.line.specs.declared.Frame.{Frame}
use Rattle.reading.specs.declared.Reading.{Reading}
use Rattle.line.proofs.ReadAnswers.{Bit31Free, line-only}
use Rattle.line.proofs.Small.{read-free}
use Rattle.prushgoli.specs.Packing.{told}
use Rattle.prushgoli.proofs.Packed.{told_back}
use Rattle.prushgoli.proofs.Fits.{encode-fits, decode-fits, length-fits, make-fits, bounds-fit, read_fits}
use Rattle.prushgoli.proofs.prushgoli_encode.Reads as encode
use Rattle.prushgoli.proofs.prushgoli_decode.Reads as decode
use Rattle.prushgoli.proofs.prushgoli_make_frame.Reads as make-frame
use Rattle.prushgoli.proofs.prushgoli_frame_length.Reads as frame-length
use Rattle.prushgoli.proofs.prushgoli_frame_bounds.Reads as frame-bounds
use Rattle.prushgoli.proofs.prushgoli_read_line.Reads as read-line
use Rattle.prushgoli.proofs.prushgoli_read_own_line.Reads as read-own-line

pub encode-told : (κs : Lfts 2) (i : _) (a : ℕ) (s : _) → encode.Learnt κs i a s
    → told a ≡ answer_numbers (encode_answer i.0.now (length i.1.0.now))
encode-told κs i a s allowed =
    let answer = encode_answer i.0.now (length i.1.0.now) in
    ap told allowed.0 ∙ told_back (answer_numbers answer) (encode-fits _ _ answer refl)

pub decode-told : (κs : Lfts 2) (i : _) (a : ℕ) (s : _) → decode.Learnt κs i a s
    → told a ≡ answer_numbers (decode_answer i.0.now (length i.1.0.now))
decode-told κs i a s allowed =
    let answer = decode_answer i.0.now (length i.1.0.now) in
    ap told allowed.0 ∙ told_back (answer_numbers answer) (decode-fits i.0.now (length i.1.0.now) answer refl)

pub make-frame-told : (κs : Lfts 2) (i : _) (a : ℕ) (s : _) → make-frame.Learnt κs i a s
    → told a ≡ answer_numbers (make_answer (identifier_of i.0) i.1.0.now (length i.1.1.0.now))
make-frame-told κs i a s allowed =
    let answer = make_answer (identifier_of i.0) i.1.0.now (length i.1.1.0.now) in
    ap told allowed.0 ∙ told_back (answer_numbers answer) (make-fits _ _ _ answer refl)

pub frame-length-told : (κs : Lfts 1) (i : _) (a : ℕ) (s : _) → frame-length.Learnt κs i a s
    → told a ≡ answer_numbers (length_answer (identifier_of i.0) i.1.0.now)
frame-length-told κs i a s allowed =
    let answer = length_answer (identifier_of i.0) i.1.0.now in
    ap told allowed ∙ told_back (answer_numbers answer) (length-fits _ _ answer refl)

pub frame-bounds-told : (κs : Lfts 0) (i : _) (a : ℕ) (s : _) → frame-bounds.Learnt κs i a s
    → told a ≡ bounds_numbers (bounds_answer (identifier_of i.0) i.1.0)
frame-bounds-told κs i a s allowed =
    let answer = bounds_answer (identifier_of i.0) i.1.0 in
    ap told allowed ∙ told_back (bounds_numbers answer) (bounds-fit _ _ answer refl)

pub read-line-told : (κs : Lfts 2) (i : _) (a : ℕ) (s : _) → read-line.Learnt κs i a s
    → told a ≡ line_numbers (read_answer acknowledged i.0.now (length i.1.0.now))
read-line-told κs i a s allowed =
    let answer = read_answer acknowledged i.0.now (length i.1.0.now) in
    ap told allowed.0 ∙ told_back (line_numbers answer) (read_fits _ _ _ answer refl)

pub read-own-line-told : (κs : Lfts 2) (i : _) (a : ℕ) (s : _) → read-own-line.Learnt κs i a s
    → told a ≡ line_numbers (read_answer own i.0.now (length i.1.0.now))
read-own-line-told κs i a s allowed =
    let answer = read_answer own i.0.now (length i.1.0.now) in
    ap told allowed.0 ∙ told_back (line_numbers answer) (read_fits _ _ _ answer refl)

pub answer-exactly : {x : Result ℕ Refusal} (a : ℕ) → told a ≡ answer_numbers x → (y : Result ℕ Refusal) → told a ≡ answer_numbers y ↔ x ≡ y
answer-exactly a is y = (λ read. answer-only _ y (sym is ∙ read), λ same. is ∙ ap answer_numbers same)

pub bounds-exactly : {x : Result Bounds Refusal} (a : ℕ) → told a ≡ bounds_numbers x → (y : Result Bounds Refusal) → told a ≡ bounds_numbers y ↔ x ≡ y
bounds-exactly a is y = (λ read. bounds-only _ y (sym is ∙ read), λ same. is ∙ ap bounds_numbers same)

pub line-exactly : (reading : Reading) (bits : List ℕ) (room a : ℕ) → told a ≡ line_numbers (read_answer reading bits room)
    → ((r : Refusal) → told a ≡ in_table r ↔ read_answer reading bits room ≡ Err r)
    × ((n : ℕ) (identifier : Identifier) → Allowed identifier
    → told a ≡ given n (number_for_c identifier) ↔ read_answer reading bits room ≡ framed n identifier)
line-exactly reading bits room a is = (
  λ r. (λ read. line-only _ (Err r) free tt (sym is ∙ read), λ same. is ∙ ap line_numbers same),
  λ n identifier known.
      (λ read. line-only _ (framed n identifier) free (allowed-small identifier known) (sym is ∙ read), λ same. is ∙ ap line_numbers same),
)
  where
    free : Bit31Free (read_answer reading bits room)
    free = read-free reading bits room

pub length-told : {x : Result ℕ Refusal} {n : ℕ} (a : ℕ) → told a ≡ answer_numbers x → x ≡ Ok n → ((told a).refusal ≡ 0) × ((told a).low ≡ n)
length-told a read is =
    let numbers = read ∙ ap answer_numbers is in
    (ap (λ (x : Numbers). x.refusal) numbers, ap (λ (x : Numbers). x.low) numbers)

pub none_told : {x : Result ℕ Refusal} (a : ℕ) → told a ≡ answer_numbers x → (told a).refusal ≡ 0 → x ≡ Ok (told a).low
none_told {x = Ok n} a read none = ap Ok (ap (λ (x : Numbers). x.low) (sym read))
none_told {x = Err r} a read none = absurd (number-some r (sym none ∙ ap (λ (x : Numbers). x.refusal) read))

pub frame-told : (reading : Reading) (bits : List ℕ) (room a : ℕ) → told a ≡ line_numbers (read_answer reading bits room) → (told a).refusal ≡ 0
    → read_answer reading bits room ≡ framed (told a).low (identifier_of (told a).high)
frame-told reading bits room a read none = go (read_answer reading bits room) read (read-free reading bits room)
  where
    go : (x : Result Frame Refusal) → told a ≡ line_numbers x → Bit31Free x → x ≡ framed (told a).low (identifier_of (told a).high)
    go (Ok f) is free =
        ap₂ framed (ap (λ (x : Numbers). x.low) (sym is))
        (sym (ap (λ (x : Numbers). identifier_of x.high) is ∙ for-c-back f.identifier free))
    go (Err r) is free = absurd (number-some r (sym none ∙ ap (λ (x : Numbers). x.refusal) is))
