-- What stands at an offset of a trace, each exactly when. Refusal 14 is demand 1's; its place is the offset of the kind byte. A trace
-- ends at its last byte, and before byte 65,536. Assumes nothing.
--     record-refused    14, at this place: a record of unknown kind, or its body cut
--     record-14         the same in the document's numbers
--     record-payload    a payload of n bytes, of a kind from 10 to 18 hex
--     record-field      a data field of n bytes, of a kind from 20 to 29 hex
--     record-kind       the numbers of both are that length and the kind byte
--     record-end        nothing
use Rattle.std.proofs.Common.{◌≡◌, ℕ, ◌+◌, ◌≤◌, ◌<◌, min, List, length, get_or, Option, Some, None, Result, Ok, Err, ◌↔◌, ◌⊎◌, inl, inr, refl, sym, ap, ◌∙◌, subst, arith}
use Rattle.refusals.specs.Table.{Numbers, given, ◌at◌, place_of}
use Rattle.refusals.specs.declared.Refusal.{Refusal}
use Rattle.refusals.specs.declared.Refusal.TheVariants as refusal
use Rattle.records.specs.Records.{record_at, record_numbers}
use Rattle.records.specs.declared.Record.{Record}
use Rattle.records.specs.declared.Record.TheVariants as found
use Rattle.records.proofs.Records as records

module _ (trace : List ℕ) (offset : ℕ) where
  -- the trace's end, and the byte at the offset
  abbrev end : ℕ
  end = min (length trace) 65536

  abbrev byte : ℕ
  byte = get_or trace offset 0

  -- a kind byte from this one on, for a body of at most so many bytes, and the body is cut
  abbrev Cut : ℕ → ℕ → Type 0
  Cut most first = (n : ℕ) × (n ≤ most) × (byte ≡ first + n) × (end < offset + 1 + n)

  abbrev NoKind : Type 0
  NoKind = (0x10 ≤ byte → byte ≤ 0x18 → ⊥) × (0x20 ≤ byte → byte ≤ 0x29 → ⊥)

  exactly : (r : Result (Option Record) Refusal) → record_at trace offset ≡ r ↔ records.RecordGiven trace offset r
  exactly r = (λ e. subst (records.RecordGiven trace offset) e (records.record-given trace offset), records.given-record trace offset r)

  regrouped : (P Q R : Type 0) {S : Type 0} → S ↔ P × (Q × R) → S ↔ P × Q × R
  regrouped P Q R e = (λ s. let h = e.0 s in (h.0, h.1.0, h.1.1), λ h. e.1 (h.0, (h.1, h.2)))

  pub record-refused : (r : Refusal)
      → record_at trace offset ≡ Err r
      ↔ (offset < end) × (r ≡ refusal.Record offset) × (NoKind ⊎ Cut 8 0x10 ⊎ Cut 9 0x20)
  record-refused r = exactly (Err r)

  pub record-14 : (place : ℕ)
      → record_numbers (record_at trace offset) ≡ (14 at place) ↔ (offset < end) × (place ≡ offset) × (NoKind ⊎ Cut 8 0x10 ⊎ Cut 9 0x20)
  record-14 place = (
    go (record_at trace offset) refl,
    λ h. ap record_numbers ((record-refused (refusal.Record offset)).1 (h.0, refl, h.2)) ∙ ap (λ (k : ℕ). 14 at k) (sym h.1),
  )
    where
      no : {A : Type 0} → ◌≡◌ {A = ℕ} 0 14 → A
      no e = absurd (omega arith)

      go : (r : Result (Option Record) Refusal) → record_at trace offset ≡ r → record_numbers r ≡ (14 at place)
          → (offset < end) × (place ≡ offset) × (NoKind ⊎ Cut 8 0x10 ⊎ Cut 9 0x20)
      go (Ok (Some (found.Payload n))) e numbers = no (ap (λ (x : Numbers). x.refusal) numbers)
      go (Ok (Some (found.Field n))) e numbers = no (ap (λ (x : Numbers). x.refusal) numbers)
      go (Ok None) e numbers = no (ap (λ (x : Numbers). x.refusal) numbers)
      go (Err r) e numbers =
          let given = (record-refused r).0 e in
          (given.0, sym (ap (λ (x : Numbers). x.low) numbers) ∙ ap place_of given.1, given.2)

  pub record-payload : (n : ℕ) → record_at trace offset ≡ Ok (Some (found.Payload n)) ↔ (offset + 1 + n ≤ end) × (n ≤ 8) × (byte ≡ 0x10 + n)
  record-payload n = regrouped _ _ _ (exactly (Ok (Some (found.Payload n))))

  pub record-field : (n : ℕ) → record_at trace offset ≡ Ok (Some (found.Field n)) ↔ (offset + 1 + n ≤ end) × (n ≤ 9) × (byte ≡ 0x20 + n)
  record-field n = regrouped _ _ _ (exactly (Ok (Some (found.Field n))))

  pub record-kind : (n : ℕ) → (record_at trace offset ≡ Ok (Some (found.Payload n))) ⊎ (record_at trace offset ≡ Ok (Some (found.Field n)))
      → record_numbers (record_at trace offset) ≡ given n byte
  record-kind n (inl e) = ap record_numbers e ∙ ap (given n) (sym ((record-payload n).0 e).2)
  record-kind n (inr e) = ap record_numbers e ∙ ap (given n) (sym ((record-field n).0 e).2)

  pub record-end : record_at trace offset ≡ Ok None ↔ end ≤ offset
  record-end = exactly (Ok None)
