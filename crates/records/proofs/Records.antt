-- What stands at an offset of a trace. Assumes nothing.
--     record-end       nothing, from the trace's end on, or from byte 65,536
--     record-whole     a body that ends within the trace, and before byte 65,536, makes a record
--     record-cut       one that does not is 14
--     payload-whole, field-whole, payload_cut, field_cut    the same of each kind by itself
--     RecordGiven      what holds where it is this
--     record-given, given-record    that holds of what stands there, and of nothing else
--     Inside, record-inside, record-fits    where a record lies
--     body-part        its body is the part of the trace between its kind byte and the next record
use Rattle.std.proofs.Common.{◌≡◌, ℕ, ◌+◌, ◌-◌, ◌≤◌, ◌<◌, min, Bool, true, false, List, length, get_or, take, drop, Option, Some, None, Result, Ok, Err, ◌⊎◌, inl, inr, refl, sym, ap, ◌∙◌, subst, arith}
use Rattle.std.proofs.Math.Dec.{leb, ltb}
use Rattle.std.proofs.lemmas.Bool.Decides.{nat_tests}
use borrow.Author.Tests.{leb-true, leb-false, ltb-true, ltb-false}
use Rattle.refusals.specs.declared.Refusal.{Refusal}
use Rattle.refusals.specs.declared.Refusal.TheVariants as refusal
use Rattle.records.specs.Records.{kind_of, body_of, record_of, record_at, body_at}
use Rattle.records.specs.declared.Record.{Record}
use Rattle.records.specs.declared.Record.TheVariants.{Payload, Field}
use Rattle.records.proofs.KindBytes.{NoKind, KindGiven, given-kind, kind-given}

module _ (trace : List ℕ) (offset : ℕ) where
  abbrev byte : ℕ
  byte = get_or trace offset 0

  abbrev end : ℕ
  end = min (length trace) 65536

  -- a body of so many bytes at most, of the kinds from this one on, is cut
  abbrev pub Cut : ℕ → ℕ → Type 0
  Cut most first = (n : ℕ) × (n ≤ most) × (byte ≡ first + n) × (end < offset + 1 + n)

  abbrev pub RecordGiven : Result (Option Record) Refusal → Type 0
  RecordGiven (Ok (Some found)) = (offset + 1 + body_of found ≤ end) × KindGiven byte (Some found)
  RecordGiven (Ok None) = end ≤ offset
  RecordGiven (Err r) = (offset < end) × (r ≡ refusal.Record offset) × (NoKind byte ⊎ Cut 8 0x10 ⊎ Cut 9 0x20)

  pub record-end : end ≤ offset → record_at trace offset ≡ Ok None
  unfolding record_at
  record-end h = grind (arith, nat_tests)

  begun : (k : Option Record) → offset < end → KindGiven byte k → record_at trace offset ≡ record_of k (end - offset - 1) offset
  unfolding record_at
  begun k h given = rw (given-kind byte k given) (grind (arith, nat_tests))

  kind-is : {found : Record} → kind_of byte ≡ Some found → KindGiven byte (Some found)
  kind-is e = subst (KindGiven byte) e (kind-given byte)

  pub record-whole : (found : Record) → KindGiven byte (Some found) → offset + 1 + body_of found ≤ end → record_at trace offset ≡ Ok (Some found)
  record-whole found k fits = begun (Some found) (omega (arith, fits)) k ∙ grind (arith, nat_tests)

  pub record-cut : (found : Record) → KindGiven byte (Some found) → offset < end → end < offset + 1 + body_of found
      → record_at trace offset ≡ Err (refusal.Record offset)
  record-cut found k h short = begun (Some found) h k ∙ grind (arith, nat_tests)

  module _ (h : offset < end) (body : ℕ) where
    pub payload-whole : kind_of byte ≡ Some (Payload body) → offset + 1 + body ≤ end → record_at trace offset ≡ Ok (Some (Payload body))
    payload-whole e = record-whole (Payload body) (kind-is e)

    pub field-whole : kind_of byte ≡ Some (Field body) → offset + 1 + body ≤ end → record_at trace offset ≡ Ok (Some (Field body))
    field-whole e = record-whole (Field body) (kind-is e)

    pub payload_cut : kind_of byte ≡ Some (Payload body) → end < offset + 1 + body → record_at trace offset ≡ Err (refusal.Record offset)
    payload_cut e = record-cut (Payload body) (kind-is e) h

    pub field_cut : kind_of byte ≡ Some (Field body) → end < offset + 1 + body → record_at trace offset ≡ Err (refusal.Record offset)
    field_cut e = record-cut (Field body) (kind-is e) h

  pub given-record : (r : Result (Option Record) Refusal) → RecordGiven r → record_at trace offset ≡ r
  given-record (Ok (Some found)) h = record-whole found h.1 h.0
  given-record (Ok None) h = record-end h
  given-record (Err r) h = bad h.2 ∙ ap Err (sym h.1)
    where
      bad : NoKind byte ⊎ Cut 8 0x10 ⊎ Cut 9 0x20 → record_at trace offset ≡ Err (refusal.Record offset)
      bad (inl none) = begun None h.0 none
      bad (inr (inl (n, few, is, short))) = record-cut (Payload n) (few, is) h.0 short
      bad (inr (inr (n, few, is, short))) = record-cut (Field n) (few, is) h.0 short

  why : (found : Record) → KindGiven byte (Some found) → end < offset + 1 + body_of found → Cut 8 0x10 ⊎ Cut 9 0x20
  why (Payload n) k short = inl (n, k.0, k.1, short)
  why (Field n) k short = inr (n, k.0, k.1, short)

  pub record-given : RecordGiven (record_at trace offset)
  record-given = at-end (leb end offset) refl
    where
      here : Type 0
      here = RecordGiven (record_at trace offset)

      given : (r : Result (Option Record) Refusal) → RecordGiven r → here
      given r h = subst RecordGiven (sym (given-record r h)) h

      by-body : (found : Record) → KindGiven byte (Some found) → offset < end
          → (t : Bool) → ltb end (offset + 1 + body_of found) ≡ t → here
      by-body found k h true e = given (Err (refusal.Record offset)) (h, refl, inr (why found k (ltb-true end _ e)))
      by-body found k h false e = given (Ok (Some found)) (ltb-false end _ e, k)

      by-kind : offset < end → (k : Option Record) → KindGiven byte k → here
      by-kind h (Some found) k = by-body found k h _ refl
      by-kind h None k = given (Err (refusal.Record offset)) (h, refl, inl k)

      at-end : (t : Bool) → leb end offset ≡ t → here
      at-end true e = given (Ok None) (leb-true end offset e)
      at-end false e = by-kind (leb-false end offset e) (kind_of byte) (kind-given byte)

-- a whole record lies within the trace, and before byte 65,536; so does the kind byte of one that is refused, which is its place
abbrev pub Inside : Result (Option Record) Refusal → List ℕ → ℕ → Type 0
Inside (Ok (Some found)) trace offset = offset + 1 + body_of found ≤ min (length trace) 65536
Inside (Ok None) trace offset = Unit {0}
Inside (Err r) trace offset = (offset < min (length trace) 65536) × (r ≡ refusal.Record offset)

pub record-inside : (trace : List ℕ) (offset : ℕ) → Inside (record_at trace offset) trace offset
record-inside trace offset = go (record_at trace offset) (record-given trace offset)
  where
    go : (r : Result (Option Record) Refusal) → RecordGiven trace offset r → Inside r trace offset
    go (Ok (Some found)) h = h.0
    go (Ok None) h = tt
    go (Err r) h = (h.0, h.1)

pub record-fits : (trace : List ℕ) (offset : ℕ) (found : Record) → record_at trace offset ≡ Ok (Some found) → offset + 1 + body_of found ≤ length trace
record-fits trace offset found e = omega (arith, rw e at (record-inside trace offset))

pub body-part : (trace : List ℕ) (offset body : ℕ) → body_at trace offset body ≡ take (offset + 1 + body - (offset + 1)) (drop (offset + 1) trace)
unfolding body_at
body-part trace offset body = grind arith
