-- Demand 2 at the calls for C, over outcomes that their contracts allow: each field or frame accepted is the one that coding gives, the
-- ACK slot apart. The payload is what the answered length takes of the lent buffer after the call. Assumes nothing.
--     field-coded   a field of which decoding tells no refusal is the field of the payload that it leaves
--     field-again   so encoding that payload, given room, leaves that field
--     line-coded    a line of which reading it as our own tells no refusal is, the ACK slot apart, that of the identifier that it answers and
--                   the payload that it leaves
--     line-again    so making a frame of them, given room, leaves that line, with 1 in its ACK slot
--     heard-coded   a line of which reading it from a live bus tells no refusal is the line of the identifier that it answers and the payload
--                   that it leaves, with 0 in its ACK slot
use mathlib.Core.Path.{◌≡◌, sym, ap, ap₂, ◌∙◌, subst}
use mathlib.Core.List.{List, ◌++◌}
use Prim.Native.Nat.{ℕ, ◌-◌, ◌≤◌}
use native.Mathlib.Omega.{arith}
use contract.Lifetimes.{Lfts}
use lib.ListN.{length, take, drop, length-set}
use Rattle.std.proofs.Common.{Result, Ok}
use Rattle.bits.specs.Below.{Below}
use Rattle.refusals.specs.declared.Refusal.{Refusal}
use Rattle.refusals.specs.Table.{given, answer_numbers}
use Rattle.refusals.specs.After.{after}
use Rattle.refusals.proofs.After.{accepted-result}
use Rattle.field.specs.Sizes.{field_bytes}
use Rattle.field.specs.Field.{field_of}
use Rattle.field.proofs.FieldBits.{field-length}
use Rattle.decoding.specs.Decode.{decode_answer, payload_of}
use Rattle.decoding.proofs.RoundTrip.{field-of-payload}
use Rattle.wire.specs.declared.Identifier.{Identifier}
use Rattle.wire.specs.Identifier.{Allowed, room_for, identifier_of}
use Rattle.wire.specs.Answers.{payload_line}
use Rattle.line.specs.Ack.{with_ack}
use Rattle.reading.specs.declared.Reading.{Reading}
use Rattle.line.specs.Read.{acknowledged, own, read_answer, payload_in, line_numbers, framed}
use Rattle.line.specs.declared.Frame.{Frame}
use Rattle.line.proofs.RoundTrip.{Coded, accepted-is-coded, coded-apart}
use Rattle.prushgoli.specs.Packing.{told}
use Rattle.prushgoli.proofs.prushgoli_encode.Reads as encode
use Rattle.prushgoli.proofs.prushgoli_decode.Reads as decode
use Rattle.prushgoli.proofs.prushgoli_decode.Kinds as decode-kinds
use Rattle.prushgoli.proofs.prushgoli_make_frame.Reads as make-frame
use Rattle.prushgoli.proofs.prushgoli_read_line.Reads as read-line
use Rattle.prushgoli.proofs.prushgoli_read_own_line.Reads as read-own-line
use Rattle.demands.specs.Runs.{Made}
use Rattle.demands.proofs.LentBytes.{decode-bytes}
use Rattle.demands.proofs.ForC.{decode-told, read-line-told, read-own-line-told, none_told, frame-told}
use Rattle.demands.proofs.RoundTrips.{encoded, made}

-- what the length of an accepted answer takes of a buffer is the result
taken : (n more : ℕ) (result old : List ℕ) → length result ≡ n → take n (after (given n more) result old) ≡ result
taken n more result old long = ap (λ (k : ℕ). take k (after (given n more) result old)) (sym long) ∙ accepted-result result old n more

-- decoding with the inputs i, its answer a, which is no refusal, the parameters s after it
module _ (κs : Lfts 2) (i : _) (a : ℕ) (s : _) (allowed : decode.Learnt κs i a s) (accepted : (told a).refusal ≡ 0)
    (called : Made decode-kinds.ps decode-kinds.r κs i) where
  abbrev field : List ℕ
  field = i.0.now

  abbrev payload : List ℕ
  payload = take (told a).low s.1.0.now

  answered : decode_answer field (length i.1.0.now) ≡ Ok (told a).low
  answered = none_told a (decode-told κs i a s allowed) accepted

  back : (field_of (payload_of field) ≡ field) × (length (payload_of field) ≡ (told a).low) × ((told a).low ≤ 7) × Below 256 (payload_of field)
  back = field-of-payload field (length i.1.0.now) (told a).low (decode-bytes κs i called) answered

  left : payload ≡ payload_of field
  left =
      ap (take (told a).low) (allowed.1 ∙ ap (λ (x : Result ℕ Refusal). after (answer_numbers x) (payload_of field) i.1.0.now) answered)
      ∙ taken (told a).low 0 (payload_of field) i.1.0.now back.1

  pub field-coded : (field ≡ field_of payload) × (length payload ≡ (told a).low) × ((told a).low ≤ 7) × Below 256 payload
  field-coded = (
    sym (ap field_of left ∙ back.0),
    ap length left ∙ back.1,
    back.2,
    subst (Below 256) (sym left) back.3,
  )

  -- encoding with the inputs j, its answer b, the parameters t after it
  pub field-again : (κs' : Lfts 2) (j : _) (b : ℕ) (t : _) → encode.Learnt κs' j b t → j.0.now ≡ payload → length field ≤ length j.1.0.now
      → ((told b).refusal ≡ 0) × ((told b).low ≡ length field) × (t.1.0.now ≡ field ++ drop (length field) j.1.0.now)
  field-again κs' j b t also handed room =
      let p = j.0.now in
      let old = j.1.0.now in
      let same : field_of p ≡ field = ap field_of handed ∙ sym field-coded.0 in
      let size : field_bytes (length p) ≡ length field = sym (field-length p) ∙ ap length same in
      let short : length p ≤ 7 = omega (arith, ap length handed, field-coded.1, field-coded.2) in
      let e = encoded κs' j b t also short (omega (arith, size, room)) in
      (e.0, e.1 ∙ size, e.2 ∙ ap₂ (λ (f : List ℕ) (k : ℕ). f ++ drop k old) same size)

-- ---- a line, of which a reading tells no refusal: its answer a, what it leaves in the lent buffer

module _ (reading : Reading) (line old after-it : List ℕ) (a : ℕ) (numbers : told a ≡ line_numbers (read_answer reading line (length old)))
    (leaves : after-it ≡ after (line_numbers (read_answer reading line (length old))) (payload_in reading line) old)
    (accepted : (told a).refusal ≡ 0) where
  abbrev read : List ℕ
  read = take (told a).low after-it

  abbrev identifier : Identifier
  identifier = identifier_of (told a).high

  answered-line : read_answer reading line (length old) ≡ framed (told a).low identifier
  answered-line = frame-told reading line (length old) a numbers accepted

  coded : Coded reading line (length old) identifier (told a).low
  coded = accepted-is-coded reading line (length old) identifier (told a).low answered-line

  left-line : read ≡ payload_in reading line
  left-line =
      ap (take (told a).low) (leaves ∙ ap (λ (x : Result Frame Refusal). after (line_numbers x) (payload_in reading line) old) answered-line)
      ∙ taken (told a).low (told a).high (payload_in reading line) old coded.length-is

  -- what is said of each reading alike
  sized : Allowed identifier × (length read ≡ (told a).low) × ((told a).low ≤ 7) × Below 256 read
  sized = (coded.known, ap length left-line ∙ coded.length-is, coded.short, subst (Below 256) (sym left-line) coded.bytes)

-- reading our own line with the inputs i, its answer a, which is no refusal, the parameters s after it
module _ (κs : Lfts 2) (i : _) (a : ℕ) (s : _) (allowed : read-own-line.Learnt κs i a s) (accepted : (told a).refusal ≡ 0) where
  abbrev line : List ℕ
  line = i.0.now

  abbrev payload-read : List ℕ
  payload-read = take (told a).low s.1.0.now

  own-told : told a ≡ line_numbers (read_answer own line (length i.1.0.now))
  own-told = read-own-line-told κs i a s allowed

  pub line-coded : (with_ack 1 line ≡ payload_line (identifier_of (told a).high) payload-read) × Below 2 line × Allowed (identifier_of (told a).high)
      × (length payload-read ≡ (told a).low) × ((told a).low ≤ 7) × Below 256 payload-read
  line-coded =
      let old = i.1.0.now in
      let c = coded own line old s.1.0.now a own-told allowed.1 accepted in
      let left = left-line own line old s.1.0.now a own-told allowed.1 accepted in
      let same = sized own line old s.1.0.now a own-told allowed.1 accepted in (
        coded-apart own line (length old) (identifier_of (told a).high) (told a).low c ∙ ap (payload_line (identifier_of (told a).high)) (sym left),
        c.line-below,
        same.0,
        same.1,
        same.2,
        same.3,
      )

  with-ack-length : length (with_ack 1 line) ≡ length line
  unfolding with_ack
  with-ack-length = length-set line (length line - 9) 1

  -- making a frame with the inputs j, its answer b, the parameters t after it
  pub line-again : (κs' : Lfts 2) (j : _) (b : ℕ) (t : _) → make-frame.Learnt κs' j b t → j.0 ≡ (told a).high → j.1.0.now ≡ payload-read
      → room_for (identifier_of j.0) ≤ length j.1.1.0.now
      → ((told b).refusal ≡ 0) × ((told b).low ≡ length line) × (t.1.1.0.now ≡ with_ack 1 line ++ drop (length line) j.1.1.0.now)
  line-again κs' j b t also named handed room =
      let whole = payload_line (identifier_of j.0) j.1.0.now in
      let old = j.1.1.0.now in
      let same : whole ≡ with_ack 1 line = ap₂ payload_line (ap identifier_of named) handed ∙ sym line-coded.0 in
      let size : length whole ≡ length line = ap length same ∙ with-ack-length in
      let short : length j.1.0.now ≤ 7 = omega (arith, ap length handed, line-coded.3, line-coded.4) in
      let e = made κs' j b t also (subst Allowed (sym (ap identifier_of named)) line-coded.2) short room in
      (e.0, e.1 ∙ size, e.2 ∙ ap₂ (λ (l : List ℕ) (k : ℕ). l ++ drop k old) same size)

-- reading a line from a live bus with the inputs i, its answer a, which is no refusal, the parameters s after it
pub heard-coded : (κs : Lfts 2) (i : _) (a : ℕ) (s : _) → read-line.Learnt κs i a s → (told a).refusal ≡ 0 →
    let read = take (told a).low s.1.0.now in
    (i.0.now ≡ with_ack 0 (payload_line (identifier_of (told a).high) read)) × Allowed (identifier_of (told a).high)
    × (length read ≡ (told a).low) × ((told a).low ≤ 7) × Below 256 read
heard-coded κs i a s allowed accepted =
    let line = i.0.now in
    let old = i.1.0.now in
    let numbers = read-line-told κs i a s allowed in
    let c = coded acknowledged line old s.1.0.now a numbers allowed.1 accepted in
    let left = left-line acknowledged line old s.1.0.now a numbers allowed.1 accepted in
    let same = sized acknowledged line old s.1.0.now a numbers allowed.1 accepted in
    let none : c.ack ≡ 0 = omega (arith, c.slot) in (
      c.line-is ∙ ap₂ (λ (ack : ℕ) (p : List ℕ). with_ack ack (payload_line (identifier_of (told a).high) p)) none (sym left),
      same.0,
      same.1,
      same.2,
      same.3,
    )
