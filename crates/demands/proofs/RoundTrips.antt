-- Demand 2 at the calls for C, over outcomes that their contracts allow: a payload comes back from its data field, and from its frame with
-- its identifier. Assumes nothing.
--     encoded       a payload that fits is not refused, its field's length is answered, and its field stands in the buffer
--     field-stands  so the field is what the answered length takes of it
--     made          a frame likewise, of identifier and payload, with its line
--     field_back    the field that encoding left, given to decoding, gives the payload back
--     frame_back    the line that making left, with 0 or 1 in its ACK slot, read as our own, gives identifier and payload back
--     frame-heard   and with 0 there, read as a line from a live bus
use mathlib.Core.Path.{◌≡◌, refl, ap, ap₂, ◌∙◌}
use mathlib.Core.List.{List, ◌++◌}
use Prim.Native.Nat.{ℕ, ◌≤◌, ◌<◌}
use native.Mathlib.Omega.{arith}
use contract.Lifetimes.{Lfts}
use lib.ListN.{length, take, drop}
use lib.Seq.{take_at}
use Rattle.std.proofs.Common.{Result}
use Rattle.refusals.specs.declared.Refusal.{Refusal}
use Rattle.refusals.specs.Table.{Numbers, answer_numbers}
use Rattle.refusals.specs.After.{after}
use Rattle.field.specs.Sizes.{field_bytes}
use Rattle.field.specs.Field.{field_of}
use Rattle.field.proofs.FieldBits.{field-length}
use Rattle.decoding.specs.Decode.{decode_answer, payload_of}
use Rattle.decoding.proofs.RoundTrip.{payload-of-field, decode-encode}
use Rattle.wire.specs.Identifier.{Allowed, room_for, identifier_of}
use Rattle.wire.specs.Answers.{payload_line}
use Rattle.wire.proofs.Identifiers.{from-c-back}
use Rattle.reading.specs.Scan.{slot_most}
use Rattle.reading.specs.declared.Reading.{Reading}
use Rattle.line.specs.Ack.{with_ack}
use Rattle.line.specs.Read.{acknowledged, own, read_answer, payload_in, line_numbers}
use Rattle.line.specs.declared.Frame.{Frame}
use Rattle.line.proofs.RoundTrip.{read_made}
use Rattle.prushgoli.specs.Packing.{told}
use Rattle.prushgoli.proofs.prushgoli_encode.Reads as encode
use Rattle.prushgoli.proofs.prushgoli_encode.Kinds as encode-kinds
use Rattle.prushgoli.proofs.prushgoli_decode.Reads as decode
use Rattle.prushgoli.proofs.prushgoli_make_frame.Reads as make-frame
use Rattle.prushgoli.proofs.prushgoli_make_frame.Kinds as make-frame-kinds
use Rattle.prushgoli.proofs.prushgoli_read_line.Reads as read-line
use Rattle.prushgoli.proofs.prushgoli_read_own_line.Reads as read-own-line
use Rattle.demands.specs.Runs.{Made}
use Rattle.demands.proofs.LentBytes.{encode-bytes, make-frame-bytes}
use Rattle.demands.proofs.ForC.{encode-told, decode-told, make-frame-told, read-line-told, read-own-line-told, length-told}
use Rattle.demands.proofs.Demand2.{field-left, line-left}

-- encoding with the inputs i, its answer a, the parameters s after it; the payload fits
module _ (κs : Lfts 2) (i : _) (a : ℕ) (s : _) (allowed : encode.Learnt κs i a s) (short : length i.0.now ≤ 7)
    (room : field_bytes (length i.0.now) ≤ length i.1.0.now) where
  abbrev payload : List ℕ
  payload = i.0.now

  abbrev n : ℕ
  n = field_bytes (length payload)

  pub encoded : ((told a).refusal ≡ 0) × ((told a).low ≡ n) × (s.1.0.now ≡ field_of payload ++ drop n i.1.0.now)
  encoded =
      let left = field-left payload i.1.0.now short room in
      let read = length-told a (encode-told κs i a s allowed) left.0 in
      (read.0, read.1, allowed.1 ∙ left.1)

  pub field-stands : take (told a).low s.1.0.now ≡ field_of payload
  field-stands = ap₂ take encoded.1 encoded.2 ∙ take_at (field_of payload) (drop n i.1.0.now) n (field-length payload)

  -- decoding with the inputs j, its answer b, the parameters t after it
  pub field_back : (κs' : Lfts 2) (j : _) (b : ℕ) (t : _) → decode.Learnt κs' j b t → j.0.now ≡ take (told a).low s.1.0.now
      → Made encode-kinds.ps encode-kinds.r κs i → length payload ≤ length j.1.0.now
      → ((told b).refusal ≡ 0) × ((told b).low ≡ length payload) × (t.1.0.now ≡ payload ++ drop (length payload) j.1.0.now)
  field_back κs' j b t also handed called fits =
      let bytes = encode-bytes κs i called in
      let old = j.1.0.now in
      let field = handed ∙ field-stands in
      let answered = ap (λ (f : List ℕ). decode_answer f (length old)) field ∙ decode-encode payload (length old) bytes short fits in
      let carried = ap payload_of field ∙ payload-of-field payload bytes short in
      let read = length-told b (decode-told κs' j b t also) answered in
      (read.0, read.1, also.1 ∙ ap₂ (λ (x : Result ℕ Refusal) (p : List ℕ). after (answer_numbers x) p old) answered carried)

-- making with the inputs i, its answer a, the parameters s after it; identifier, payload and room are in order
module _ (κs : Lfts 2) (i : _) (a : ℕ) (s : _) (allowed : make-frame.Learnt κs i a s) (known : Allowed (identifier_of i.0))
    (short : length i.1.0.now ≤ 7) (room : room_for (identifier_of i.0) ≤ length i.1.1.0.now) where
  abbrev line : List ℕ
  line = payload_line (identifier_of i.0) i.1.0.now

  pub made : ((told a).refusal ≡ 0) × ((told a).low ≡ length line) × (s.1.1.0.now ≡ line ++ drop (length line) i.1.1.0.now)
  made =
      let left = line-left (identifier_of i.0) i.1.0.now i.1.1.0.now known short room in
      let read = length-told a (make-frame-told κs i a s allowed) left.0 in
      (read.0, read.1, allowed.1 ∙ left.1)

  line-stands : take (told a).low s.1.1.0.now ≡ line
  line-stands = ap₂ take made.1 made.2 ∙ take_at line (drop (length line) i.1.1.0.now) (length line) refl

  -- what a reading tells and leaves of that line with a bit in the ACK slot that it takes
  back : (reading : Reading) (line' old left : List ℕ) (b ack : ℕ) → told b ≡ line_numbers (read_answer reading line' (length old))
      → left ≡ after (line_numbers (read_answer reading line' (length old))) (payload_in reading line') old
      → line' ≡ with_ack ack (take (told a).low s.1.1.0.now) → ack ≤ slot_most reading.slot
      → Made make-frame-kinds.ps make-frame-kinds.r κs i → length i.1.0.now ≤ length old →
      let payload = i.1.0.now in
      ((told b).refusal ≡ 0) × ((told b).high ≡ i.0) × ((told b).low ≡ length payload) × (left ≡ payload ++ drop (length payload) old)
  back reading line' old left b ack tells leaves handed slot called fits =
      let bytes = make-frame-bytes κs i called in
      let payload = i.1.0.now in
      let given = handed ∙ ap (with_ack ack) line-stands in
      let own = read_made reading (identifier_of i.0) payload ack (length old) known bytes short fits slot in
      let answered = ap (λ (l : List ℕ). read_answer reading l (length old)) given ∙ own.0 in
      let carried = ap (payload_in reading) given ∙ own.1 in
      let numbers = tells ∙ ap line_numbers answered in (
        ap (λ (x : Numbers). x.refusal) numbers,
        ap (λ (x : Numbers). x.high) numbers ∙ from-c-back i.0,
        ap (λ (x : Numbers). x.low) numbers,
        leaves ∙ ap₂ (λ (x : Result Frame Refusal) (p : List ℕ). after (line_numbers x) p old) answered carried,
      )

  -- reading with the inputs j, its answer b, the parameters t after it
  pub frame_back : (κs' : Lfts 2) (j : _) (b ack : ℕ) (t : _) → read-own-line.Learnt κs' j b t
      → j.0.now ≡ with_ack ack (take (told a).low s.1.1.0.now) → ack < 2
      → Made make-frame-kinds.ps make-frame-kinds.r κs i → length i.1.0.now ≤ length j.1.0.now →
      let payload = i.1.0.now in
      ((told b).refusal ≡ 0) × ((told b).high ≡ i.0) × ((told b).low ≡ length payload)
      × (t.1.0.now ≡ payload ++ drop (length payload) j.1.0.now)
  frame_back κs' j b ack t also handed slot called fits =
      back own j.0.now j.1.0.now t.1.0.now b ack (read-own-line-told κs' j b t also) also.1 handed (omega arith) called fits

  pub frame-heard : (κs' : Lfts 2) (j : _) (b : ℕ) (t : _) → read-line.Learnt κs' j b t
      → j.0.now ≡ with_ack 0 (take (told a).low s.1.1.0.now)
      → Made make-frame-kinds.ps make-frame-kinds.r κs i → length i.1.0.now ≤ length j.1.0.now →
      let payload = i.1.0.now in
      ((told b).refusal ≡ 0) × ((told b).high ≡ i.0) × ((told b).low ≡ length payload)
      × (t.1.0.now ≡ payload ++ drop (length payload) j.1.0.now)
  frame-heard κs' j b t also handed called fits =
      back acknowledged j.0.now j.1.0.now t.1.0.now b 0 (read-line-told κs' j b t also) also.1 handed (omega arith) called fits
