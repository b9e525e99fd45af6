-- The line of a record's body, from the buffer that its result was written to. Assumes nothing.
--     Whole           an accepted answer's length is that of the result, and at most 8
--     coded-whole     what coding and decoding answer
--     Coded           what they leave in a buffer
--     coded-held      the result stands at the start of the buffer
--     coded-shown     so that the line is that of the record
use Rattle.std.proofs.Common.{◌≡◌, ℕ, ◌≤◌, ◌<◌, List, length, drop, Result, Ok, Err, refl, sym, ap, arith, length-append}
use Rattle.std.specs.Result.{IfOk}
use Rattle.std.proofs.Math.Seq.{take_at}
use Rattle.refusals.specs.After.{after}
use Rattle.refusals.specs.Table.{answer_numbers}
use Rattle.refusals.specs.declared.Refusal.{Refusal}
use Rattle.field.specs.Field.{field_of}
use Rattle.field.specs.Encode.{encode_answer}
use Rattle.field.proofs.Small.{encode-small}
use Rattle.field.proofs.Lengths.{encode-result}
use Rattle.decoding.specs.Decode.{decode_answer, payload_of}
use Rattle.decoding.proofs.Small.{decode-small}
use Rattle.decoding.proofs.Lengths.{decode-result}
use Rattle.records.specs.declared.Record.{Record}
use Rattle.records.specs.declared.Record.TheVariants as found
use Rattle.report.specs.Writing.{Holds, held_in}
use Rattle.report.specs.Report.{outcome_text, encoded_text, decoded_text, coded_text}

abbrev pub Whole : Result ℕ Refusal → List ℕ → Type 0
Whole a result = IfOk a (λ n. (n ≡ length result) × (n ≤ 8))

whole : (a : Result ℕ Refusal) (result : List ℕ) (k : ℕ) → k ≤ 9 → (answer_numbers a).low < k → ((n : ℕ) → a ≡ Ok n → n ≡ length result)
    → Whole a result
whole (Ok n) result k h small is = (is n refl, omega (arith, h, small))
whole (Err refusal) result k h small is = tt

-- the letter of a record, the answer and the result
abbrev pub letter_of : Record → ℕ
letter_of (found.Payload n) = 0x45
letter_of (found.Field n) = 0x44

abbrev pub coded_answer : Record → List ℕ → Result ℕ Refusal
coded_answer (found.Payload n) body = encode_answer body 8
coded_answer (found.Field n) body = decode_answer body 8

abbrev pub coded_result : Record → List ℕ → List ℕ
coded_result (found.Payload n) = field_of
coded_result (found.Field n) = payload_of

pub coded-whole : (r : Record) (body : List ℕ) → Whole (coded_answer r body) (coded_result r body)
coded-whole (found.Payload n) body = whole (encode_answer body 8) (field_of body) 9 (omega arith) (encode-small body 8) (encode-result body 8)
coded-whole (found.Field n) body = whole (decode_answer body 8) (payload_of body) 8 (omega arith) (decode-small body 8) (decode-result body 8)

pub coded-is : (r : Record) (number : ℕ) (body : List ℕ)
    → coded_text r number body ≡ outcome_text number (letter_of r) (coded_answer r body) (coded_result r body)
unfolding encoded_text decoded_text
coded-is (found.Payload n) number body = refl
coded-is (found.Field n) number body = refl

-- what coding a record's body leaves in a buffer
pub record Coded (r : Record) (body : List ℕ) (letter : ℕ) (a : Result ℕ Refusal) (bytes : List ℕ) : Type 0 where
  pub letter-is : letter ≡ letter_of r
  pub answer-is : a ≡ coded_answer r body
  pub old : List ℕ
  pub left : bytes ≡ after (answer_numbers a) (coded_result r body) old

module _ (r : Record) (body : List ℕ) (letter : ℕ) (a : Result ℕ Refusal) (bytes : List ℕ) (k : Coded r body letter a bytes) where
  given : Whole a (coded_result r body)
  given = rw k.answer-is (coded-whole r body)

  pub coded-held : Holds a bytes
  coded-held = rw k.left (held a given)
    where
      held : (b : Result ℕ Refusal) → Whole b (coded_result r body) → Holds b (after (answer_numbers b) (coded_result r body) k.old)
      held (Ok n) w = (w.1, omega (arith, w.0, length-append (coded_result r body) (drop (length (coded_result r body)) k.old)))
      held (Err refusal) w = tt

  pub coded-shown : (number : ℕ) → outcome_text number letter a (held_in a bytes) ≡ coded_text r number body
  unfolding outcome_text
  coded-shown number = rw (coded-is r number body, ← k.letter-is, ← k.answer-is, k.left) (shown a given)
    where
      shown : (b : Result ℕ Refusal) → Whole b (coded_result r body)
          → outcome_text number letter b (held_in b (after (answer_numbers b) (coded_result r body) k.old))
          ≡ outcome_text number letter b (coded_result r body)
      shown (Ok n) w =
          ap (outcome_text number letter (Ok n)) (take_at (coded_result r body) (drop (length (coded_result r body)) k.old) n (sym w.0))
      shown (Err refusal) w = refl
