-- What the report says at an offset, and what is left of the lent text. Assumes nothing.
--     reported-short     2, below 96 bytes of room
--     reported-found     else by what stands at the offset
--     outcome-most       a line has at most 82 bytes
--     text-most          so has that of what stands at an offset
--     Said, record-said  once it is written to the start of a text, the contract is met
--     reported-goes      behind a line the report goes on further right, within the trace
use Rattle.std.proofs.Common.{◌≡◌, ℕ, ◌+◌, ◌≤◌, ◌<◌, Bool, true, false, cond, List, [], ◌++◌, length, drop, Option, Some, None, Result, Ok, Err, refl, sym, ap, ◌∙◌, arith, length-append}
use native.Mathlib.Nat.{zero-add}
use Rattle.std.proofs.Math.Dec.{ltb}
use Rattle.std.proofs.lemmas.Bool.Decides.{nat_tests}
use Rattle.std.proofs.lemmas.List.Edits.{sets-eq}
use Rattle.refusals.specs.Table.{number_of, place_of}
use Rattle.refusals.specs.declared.Refusal.{Refusal}
use Rattle.refusals.specs.declared.Refusal.TheVariants.{RoomShort}
use Rattle.records.specs.Records.{body_of, record_at, body_at}
use Rattle.records.specs.declared.Record.{Record}
use Rattle.records.proofs.Records.{Inside, record-inside}
use Rattle.report.specs.Text.{dash}
use Rattle.report.specs.Report.{line_text, outcome_text, record_text, line_at, record_reported, reported_at}
use Rattle.report.specs.Writing.{Wrote}
use Rattle.report.specs.declared.Line.{Line}
use Rattle.report.specs.declared.text.Text.{Text}
use Rattle.report.proofs.Decimal.{decimal-most}
use Rattle.report.proofs.HexBytes.{bytes_most}
use Rattle.report.proofs.Outcomes.{Whole, coded_answer, coded_result, letter_of, coded-whole, coded-is}

module _ (trace : List ℕ) (offset number room : ℕ) where
  pub reported-short : room < 96 → reported_at trace offset number room ≡ Err RoomShort
  unfolding reported_at
  reported-short h = grind (arith, nat_tests)

  pub reported-found : (r : Result (Option Record) Refusal) → 96 ≤ room → record_at trace offset ≡ r
      → reported_at trace offset number room ≡ Ok (record_reported r trace offset (length (record_text r trace offset number)))
  unfolding reported_at line_at
  reported-found r h e = rw e (grind (arith, nat_tests))

line-most : (number letter refusal place : ℕ) (result : List ℕ) → length result ≤ 8 → length (line_text number letter refusal place result) ≤ 82
unfolding line_text
line-most number letter refusal place result h =
    simp length-append (omega (arith, decimal-most number, decimal-most refusal, decimal-most place, bytes_most result h))

pub outcome-most : (number letter : ℕ) (a : Result ℕ Refusal) (result : List ℕ) → Whole a result → length (outcome_text number letter a result) ≤ 82
unfolding outcome_text
outcome-most number letter (Ok n) result w = line-most number letter 0 0 result (omega (arith, w.0, w.1))
outcome-most number letter (Err refusal) result w =
    line-most number letter (number_of refusal) (place_of refusal) [] (omega arith)

pub text-most : (r : Result (Option Record) Refusal) (trace : List ℕ) (offset number : ℕ) → length (record_text r trace offset number) ≤ 82
text-most (Ok (Some found)) trace offset number =
    let body = body_at trace offset (body_of found) in
    rw (coded-is found number body) (outcome-most number (letter_of found) (coded_answer found body) (coded_result found body) (coded-whole found body))
text-most (Err refusal) trace offset number = outcome-most number dash (Err refusal) [] tt
text-most (Ok None) trace offset number = omega arith

-- the line of what stands at an offset is written to this text from its start on, and the next record stands there
pub record Said (trace : List ℕ) (offset number : ℕ) (start text : Text) (next : ℕ) : Type 0 where
  pub same : text.bytes.ghost_name ≡ start.bytes.ghost_name
  pub bytes-are : text.bytes.now ≡ line_at trace offset number ++ drop (length (line_at trace offset number)) start.bytes.now
  pub answer-is : Ok (Some (record { length = text.end; next = next })) ≡ reported_at trace offset number (length start.bytes.now)

pub record-said : (trace : List ℕ) (offset number : ℕ) (r : Result (Option Record) Refusal) (row : List ℕ) (start text : Text) (next : ℕ)
    → 96 ≤ length start.bytes.now → start.end ≡ 0
    → record_at trace offset ≡ r → row ≡ record_text r trace offset number
    → ((k : ℕ) → record_reported r trace offset k ≡ Some (record { length = k; next = next }))
    → Wrote row start text → Said trace offset number start text next
unfolding line_at
record-said trace offset number r row start text next room begins found is goes w =
    let line : row ≡ record_text (record_at trace offset) trace offset number = is ∙ rw found in
    let fits : 0 + length row ≤ length start.bytes.now = omega (arith, text-most r trace offset number, ap length is) in
    let long : text.end ≡ length row = omega (arith, w.end-is, begins) in
    record {
      same = w.same;
      bytes-are = rw (w.bytes-are, begins, sets-eq row start.bytes.now 0 fits, zero-add, line) refl;
      answer-is = sym (reported-found trace offset number (length start.bytes.now) r room found ∙ rw (← is, ← long) (ap Ok (goes text.end)));
    }

-- behind a line the trace goes on, or is at its end
pub record Goes (trace : List ℕ) (offset n next : ℕ) : Type 0 where
  pub short : n ≤ 82
  pub later : offset < next
  pub inside : next ≤ length trace

found-goes : (r : Result (Option Record) Refusal) (trace : List ℕ) (offset k n next : ℕ) → Inside r trace offset → k ≤ 82
    → record_reported r trace offset k ≡ Some (record { length = n; next = next }) → Goes trace offset n next
found-goes (Ok (Some found)) trace offset k n next inside few e =
    let same : ◌≡◌ {A = Line} (record { length = k; next = offset + 1 + body_of found }) (record { length = n; next = next }) = cc in
    let long = ap (λ (x : Line). x.length) same in
    let behind = ap (λ (x : Line). x.next) same in
    record { short = omega arith; later = omega arith; inside = omega arith }
found-goes (Err refusal) trace offset k n next inside few e =
    let same : ◌≡◌ {A = Line} (record { length = k; next = length trace }) (record { length = n; next = next }) = cc in
    let long = ap (λ (x : Line). x.length) same in
    let behind = ap (λ (x : Line). x.next) same in
    record { short = omega arith; later = omega arith; inside = omega arith }
found-goes (Ok None) trace offset k n next inside few e = cc

pub reported-goes : (trace : List ℕ) (offset number room n next : ℕ) → reported_at trace offset number room ≡ Ok (Some (record { length = n; next = next }))
    → Goes trace offset n next
unfolding reported_at line_at
reported-goes trace offset number room n next e = go (ltb room 96) e
  where
    r : Result (Option Record) Refusal
    r = record_at trace offset

    go : (t : Bool) → cond t (Err RoomShort) (Ok (record_reported r trace offset (length (record_text r trace offset number)))) ≡ Ok (Some (record { length = n; next = next }))
        → Goes trace offset n next
    go true d = cc
    go false d = found-goes r trace offset _ n next (record-inside trace offset) (text-most r trace offset number) (cc)
