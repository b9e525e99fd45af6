-- The answer of reading a line, from its bits. Assumes nothing.
--     read-stopped     the first problem met is the answer, whatever the room
--     read_whole       where the bits are right, decoding the data field decides
--     payload-whole    and its words carry the payload
--     buffer-alone     what a lent buffer goes by is what decoding the data field answers
--     Bit31Free, line-only    the document's numbers tell which answer it is, as long as the identifier's number leaves bit 31 alone
use mathlib.Core.Path.{◌≡◌, refl, sym, ap, ap₂}
use mathlib.Core.List.{List}
use Prim.Native.Nat.{ℕ, ◌^◌, ◌<◌}
use Rattle.std.proofs.Common.{Result, Ok, Err}
use Rattle.refusals.specs.declared.Refusal.{Refusal}
use Rattle.refusals.specs.After.{after}
use Rattle.refusals.specs.Table.{Numbers, answer_numbers}
use Rattle.refusals.proofs.Table.{refusal-only, number-some}
use Rattle.decoding.specs.Decode.{decode_answer, payload_of}
use Rattle.wire.specs.declared.Identifier.{Identifier}
use Rattle.wire.specs.Identifier.{number_in}
use Rattle.wire.proofs.Identifiers.{for-c-only}
use Rattle.reading.specs.Scan.{identifier_in, Scanned, whole, stopped, scanned}
use Rattle.reading.specs.declared.Reading.{Reading}
use Rattle.line.specs.Read.{field_in, with_identifier, decoded, read_answer, carried, payload_in, line_numbers, framed}
use Rattle.line.specs.declared.Frame.{Frame}

pub framed-only : (n m : ℕ) (i j : Identifier) → framed n i ≡ framed m j → (n ≡ m) × (i ≡ j)
framed-only n m i j e =
    let f : Frame = record { length = n; identifier = i } in
    let g : Frame = record { length = m; identifier = j } in
    let same : f ≡ g = cc in
    (ap (λ (x : Frame). x.length) same, ap (λ (x : Frame). x.identifier) same)

pub read-stopped : (reading : Reading) (line : List ℕ) (room met : ℕ) (refusal : Refusal) → scanned reading line ≡ stopped met refusal
    → read_answer reading line room ≡ Err refusal
unfolding read_answer
read-stopped reading line room met refusal e = ap (λ (s : Scanned). decoded s room) e

pub read_whole : (reading : Reading) (line frame : List ℕ) (room : ℕ) → scanned reading line ≡ whole frame
    → read_answer reading line room ≡ with_identifier (identifier_in frame) (decode_answer (field_in frame) room)
unfolding read_answer
read_whole reading line frame room e = ap (λ (s : Scanned). decoded s room) e

pub payload-whole : (reading : Reading) (line frame : List ℕ) → scanned reading line ≡ whole frame → payload_in reading line ≡ payload_of (field_in frame)
unfolding payload_in
payload-whole reading line frame e = ap carried e

pub buffer-alone : (identifier : Identifier) (a : Result ℕ Refusal) (result old : List ℕ)
    → after (line_numbers (with_identifier identifier a)) result old ≡ after (answer_numbers a) result old
buffer-alone identifier (Ok n) result old = refl
buffer-alone identifier (Err refusal) result old = refl

-- the number of its identifier, if it has one, leaves bit 31 alone; that of every allowed one does
abbrev pub Bit31Free : Result Frame Refusal → Type 0
Bit31Free (Ok f) = number_in f.identifier < 2 ^ 31
Bit31Free (Err refusal) = Unit {0}

pub line-only : (a b : Result Frame Refusal) → Bit31Free a → Bit31Free b → line_numbers a ≡ line_numbers b → a ≡ b
line-only (Ok f) (Ok g) p q e =
    ap₂ framed (ap (λ (x : Numbers). x.low) e) (for-c-only f.identifier g.identifier p q (ap (λ (x : Numbers). x.high) e))
line-only (Ok f) (Err r) p q e = absurd (number-some r (ap (λ (x : Numbers). x.refusal) e))
line-only (Err r) (Ok g) p q e = absurd (number-some r (sym (ap (λ (x : Numbers). x.refusal) e)))
line-only (Err r) (Err o) p q e =
    ap Err (refusal-only r o (ap (λ (x : Numbers). x.refusal) e) (ap (λ (x : Numbers). x.low) e))
