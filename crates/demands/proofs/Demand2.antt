-- Demand 2: 8B9B as published, words by document 01's ordering rule; frames are CAN data frames (ISO 11898-1), of the base form or, by
-- change request #110, of the long one. Given room, each
-- payload of 0 to 7 bytes comes back from its data field, and from its frame with its identifier. Each field or frame accepted is the
-- one that coding gives, the ACK slot apart. Assumes nothing.
--     words-ordered    258 words keep the rule, and stand in order
--     escapes          the first is J, the last is K, and both stand for an escape
--     byte-carried     byte x is carried by the word at place x + 1, and by no other nine bits
--     rule-exactly     nine bits stand for nothing, no byte and no escape, exactly when they do not keep the rule
--     field-bits       a field is the break bit, the words in payload order, and padding
--     frame-bits       a frame is header, field and CRC, stuffed to the last CRC bit, and ten bits 1
--     field-left       given room, encoding leaves the field at the start of a lent buffer, and behind it the old bytes
--     line-left        and making a frame the line
--     field_back       what encoding leaves in a lent buffer decodes to the payload, into another
--     frame_back       what making leaves, read as our own line, gives identifier and payload, as it is and with 0 in the ACK slot
--     frame-heard      with 0 there, a frame that was heard, it gives them read as a line from a live bus too
--     field-accepted   an accepted field is the one that coding gives for the payload that it answers
--     line-accepted    a line accepted as our own is the one that making gives for identifier and payload, the ACK slot apart; what is
--                      accepted from a live bus is exactly said in Acknowledged
use mathlib.Core.Path.{◌≡◌, refl, sym, ap, ap₂, ◌∙◌}
use mathlib.Core.Bool.{false}
use mathlib.Core.Logic.{◌↔◌}
use lib.Dec.{T}
use mathlib.Core.List.{List, [], ◌∷◌, ◌++◌, map}
use Prim.Native.Nat.{ℕ, ◌+◌, ◌≤◌, ◌<◌}
use native.Mathlib.Omega.{arith}
use lib.ListN.{length, get_or, take, drop, replicate}
use lib.Seq.{take_at}
use Rattle.std.proofs.Common.{Result, Ok, Some, None}
use Rattle.bits.specs.Below.{Below}
use Rattle.bits.specs.Rows.{bits}
use Rattle.bits.specs.Packing.{unpacked}
use Rattle.bits.specs.Neighbours.{equal_neighbours}
use Rattle.bits.specs.Stuffing.{nothing_sent, stuffed}
use Rattle.refusals.specs.declared.Refusal.{Refusal}
use Rattle.refusals.specs.Table.{answer_numbers}
use Rattle.refusals.specs.After.{after}
use Rattle.words.specs.Words.{keeps_rule, words, word_of}
use Rattle.words.specs.Symbols.{place_in, symbol_of, byte}
use Rattle.words.specs.declared.Symbol.TheVariants.{Escape}
use Rattle.words.proofs.Words.{words-258, J-is, K-is, words-keep-rule, words-rise}
use Rattle.words.proofs.Symbols.{word_back, word-only, nothing-exactly}
use Rattle.field.specs.Sizes.{field_bytes, break_bit, padding_bits}
use Rattle.field.specs.Padding.{padding}
use Rattle.field.specs.Field.{field_bits, field_of}
use Rattle.field.specs.Encode.{encode_answer}
use Rattle.field.proofs.FieldBits.{field-length, bits-of-field}
use Rattle.field.proofs.EncodeAnswers.{encode-accepts}
use Rattle.decoding.specs.Decode.{decode_answer, payload_of}
use Rattle.decoding.proofs.RoundTrip.{payload-of-field, decode-encode, field-of-payload}
use Rattle.crc.specs.Crc.{crc}
use Rattle.wire.specs.declared.Identifier.{Identifier}
use Rattle.wire.specs.Identifier.{Allowed, room_for}
use Rattle.wire.specs.Header.{header}
use Rattle.wire.specs.Answers.{payload_line, make_answer}
use Rattle.wire.proofs.PayloadLine.{frame_is}
use Rattle.wire.proofs.FrameAnswers.{make-accepts}
use Rattle.reading.specs.Scan.{slot_most}
use Rattle.reading.specs.declared.Reading.{Reading}
use Rattle.line.specs.Ack.{with_ack}
use Rattle.line.specs.Read.{acknowledged, own, read_answer, payload_in, line_numbers, framed}
use Rattle.line.specs.declared.Frame.{Frame}
use Rattle.line.proofs.RoundTrip.{Coded, own-ack, read_made, accepted-is-coded, coded-apart}

-- ---- 8B9B as published, words by the ordering rule

pub words-ordered : (length words ≡ 258)
    × ((i : ℕ) → i < 258 → T (keeps_rule (bits 9 (get_or words i 0))))
    × ((i j : ℕ) → i < j → j < 258 → get_or words i 0 < get_or words j 0)
words-ordered = (words-258, words-keep-rule, words-rise)

pub escapes :
    (bits 9 (get_or words 0 0) ≡ 0 ∷ 0 ∷ 1 ∷ 0 ∷ 0 ∷ 0 ∷ 0 ∷ 1 ∷ 0 ∷ [])
    × (bits 9 (get_or words 257 0) ≡ 1 ∷ 1 ∷ 0 ∷ 1 ∷ 1 ∷ 1 ∷ 1 ∷ 0 ∷ 1 ∷ [])
    × (symbol_of (get_or words 0 0) ≡ Some Escape) × (symbol_of (get_or words 257 0) ≡ Some Escape)
unfolding bits equal_neighbours words place_in symbol_of
escapes = (J-is, K-is, refl, refl)

pub byte-carried : (x : ℕ) → x < 256
    → (word_of x ≡ get_or words (x + 1) 0) × (symbol_of (word_of x) ≡ byte x) × ((nine : ℕ) → symbol_of nine ≡ byte x → nine ≡ word_of x)
unfolding word_of
byte-carried x byte = (refl, word_back x byte, λ nine stands. (word-only nine x stands).0)

pub rule-exactly : (nine : ℕ) → nine < 512 → (symbol_of nine ≡ None) ↔ (keeps_rule (bits 9 nine) ≡ false)
rule-exactly = nothing-exactly

pub field-bits : (payload : List ℕ) → length payload ≤ 7 →
    let n = field_bytes (length payload) in
    (unpacked 8 (field_of payload) ≡ field_bits payload)
    × (field_bits payload ≡ break_bit n ++ (unpacked 9 (map word_of payload) ++ padding 0 (padding_bits (length payload))))
unfolding field_bits
field-bits payload short = (bits-of-field payload short, refl)

-- ---- frames are CAN data frames

pub frame-bits : (identifier : Identifier) (payload : List ℕ) → length payload ≤ 7 →
    let header_bits = header identifier (field_bytes (length payload)) in
    let check = crc (header_bits ++ field_bits payload) in
    payload_line identifier payload
    ≡ stuffed nothing_sent (header_bits ++ (field_bits payload ++ bits 15 check)) ++ replicate 10 1
frame-bits = frame_is

-- ---- given room, each payload of 0 to 7 bytes comes back

pub field-left : (payload buffer : List ℕ) → length payload ≤ 7 → field_bytes (length payload) ≤ length buffer →
    let n = field_bytes (length payload) in
    (encode_answer payload (length buffer) ≡ Ok n)
    × (after (answer_numbers (encode_answer payload (length buffer))) (field_of payload) buffer ≡ field_of payload ++ drop n buffer)
field-left payload buffer short room =
    let encoded = encode-accepts payload (length buffer) short room in (
      encoded,
      ap (λ (a : Result ℕ Refusal). after (answer_numbers a) (field_of payload) buffer) encoded
          ∙ ap (λ (k : ℕ). field_of payload ++ drop k buffer) (field-length payload),
    )

pub line-left : (identifier : Identifier) (payload buffer : List ℕ) → Allowed identifier → length payload ≤ 7 → room_for identifier ≤ length buffer →
    let line = payload_line identifier payload in
    (make_answer identifier payload (length buffer) ≡ Ok (length line))
    × (after (answer_numbers (make_answer identifier payload (length buffer))) line buffer ≡ line ++ drop (length line) buffer)
line-left identifier payload buffer known short room =
    let made = make-accepts identifier payload (length buffer) known short room in
    (made, ap (λ (a : Result ℕ Refusal). after (answer_numbers a) (payload_line identifier payload) buffer) made)

module _ (payload buffer buffer' : List ℕ) (bytes : Below 256 payload) (short : length payload ≤ 7) (fits : length payload ≤ length buffer') where
  pub field_back : field_bytes (length payload) ≤ length buffer →
      let field = take (field_bytes (length payload)) (after (answer_numbers (encode_answer payload (length buffer))) (field_of payload) buffer) in
      (field ≡ field_of payload)
      × (decode_answer field (length buffer') ≡ Ok (length payload))
      × (after (answer_numbers (decode_answer field (length buffer'))) (payload_of field) buffer' ≡ payload ++ drop (length payload) buffer')
  field_back room =
      let n = field_bytes (length payload) in
      let left = ap (take n) (field-left payload buffer short room).1
      ∙ take_at (field_of payload) (drop n buffer) n (field-length payload) in
      let decoded = ap (λ (f : List ℕ). decode_answer f (length buffer')) left ∙ decode-encode payload (length buffer') bytes short fits in
      let carried = ap payload_of left ∙ payload-of-field payload bytes short in
      (left, decoded, ap₂ (λ (a : Result ℕ Refusal) (p : List ℕ). after (answer_numbers a) p buffer') decoded carried)

  -- what the frame's length takes of the buffer that making leaves
  abbrev left-of : Identifier → List ℕ
  left-of identifier =
      let line = payload_line identifier payload in
      take (length line) (after (answer_numbers (make_answer identifier payload (length buffer))) line buffer)

  left_is : (identifier : Identifier) → Allowed identifier → room_for identifier ≤ length buffer → left-of identifier ≡ payload_line identifier payload
  left_is identifier known room =
      let whole = payload_line identifier payload in
      ap (take (length whole)) (line-left identifier payload buffer known short room).1 ∙ take_at whole (drop (length whole) buffer) (length whole) refl

  -- what a reading gives of what making leaves, with a bit in the ACK slot that it takes
  read_back : (reading : Reading) (identifier : Identifier) (ack : ℕ) → Allowed identifier → ack ≤ slot_most reading.slot
      → room_for identifier ≤ length buffer →
      let line = with_ack ack (left-of identifier) in
      (read_answer reading line (length buffer') ≡ framed (length payload) identifier)
      × (after (line_numbers (read_answer reading line (length buffer'))) (payload_in reading line) buffer' ≡ payload ++ drop (length payload) buffer')
  read_back reading identifier ack known slot room =
      let left = left_is identifier known room in
      let own = read_made reading identifier payload ack (length buffer') known bytes short fits slot in
      let read = ap (λ (l : List ℕ). read_answer reading (with_ack ack l) (length buffer')) left ∙ own.0 in
      let carried = ap (λ (l : List ℕ). payload_in reading (with_ack ack l)) left ∙ own.1 in
      (read, ap₂ (λ (a : Result Frame Refusal) (p : List ℕ). after (line_numbers a) p buffer') read carried)

  pub frame_back : (identifier : Identifier) (ack : ℕ) → Allowed identifier → ack < 2 → room_for identifier ≤ length buffer →
      let made = left-of identifier in
      let line = with_ack ack made in
      (with_ack 1 made ≡ made)
      × (read_answer own line (length buffer') ≡ framed (length payload) identifier)
      × (after (line_numbers (read_answer own line (length buffer'))) (payload_in own line) buffer' ≡ payload ++ drop (length payload) buffer')
  frame_back identifier ack known slot room =
      let left = left_is identifier known room in
      let read = read_back own identifier ack known (omega arith) room in
      (ap (with_ack 1) left ∙ own-ack identifier payload ∙ sym left, read.0, read.1)

  pub frame-heard : (identifier : Identifier) → Allowed identifier → room_for identifier ≤ length buffer →
      let line = with_ack 0 (left-of identifier) in
      (read_answer acknowledged line (length buffer') ≡ framed (length payload) identifier)
      × (after (line_numbers (read_answer acknowledged line (length buffer'))) (payload_in acknowledged line) buffer' ≡ payload ++ drop (length payload) buffer')
  frame-heard identifier known room = read_back acknowledged identifier 0 known (omega arith) room

-- ---- each field or frame accepted is the one that coding gives, the ACK slot apart

pub field-accepted : (field : List ℕ) (room n : ℕ) → Below 256 field → decode_answer field room ≡ Ok n
    → (field_of (payload_of field) ≡ field) × (length (payload_of field) ≡ n) × (n ≤ 7) × Below 256 (payload_of field)
field-accepted = field-of-payload

pub line-accepted : (line : List ℕ) (room : ℕ) (identifier : Identifier) (n : ℕ) → read_answer own line room ≡ framed n identifier
    → (with_ack 1 line ≡ payload_line identifier (payload_in own line)) × Below 2 line × Allowed identifier
    × (length (payload_in own line) ≡ n) × (n ≤ 7) × Below 256 (payload_in own line)
line-accepted line room identifier n accepted =
    let coded : Coded own line room identifier n = accepted-is-coded own line room identifier n accepted in
    (coded-apart own line room identifier n coded, coded.line-below, coded.known, coded.length-is, coded.short, coded.bytes)
