-- What the line of a record is answered with, each exactly when. Assumes nothing.
--     report-room        2, room below 96 bytes, whatever stands at the offset
--     report-end         nothing: no record stands there
--     report-line        a line of this length, and where the next record stands
--     report-no-other    no other refusal is given
use Rattle.std.proofs.Common.{◌≡◌, ℕ, ◌≤◌, ◌<◌, Bool, true, false, cond, List, length, Option, Some, None, Result, Ok, Err, ◌↔◌, refl, ap, ◌∙◌}
use Rattle.std.proofs.Math.Dec.{ltb}
use borrow.Author.Tests.{lt-ltb, le-ltb, ltb-true, ltb-false}
use Rattle.refusals.specs.declared.Refusal.{Refusal}
use Rattle.refusals.specs.declared.Refusal.TheVariants.{RoomShort}
use Rattle.records.specs.Records.{record_at}
use Rattle.records.specs.declared.Record.{Record}
use Rattle.report.specs.Report.{line_at, record_reported, reported_at}
use Rattle.report.specs.declared.Line.{Line}

module _ (trace : List ℕ) (offset number room : ℕ) where
  -- what is said of the record that stands there
  abbrev said : Result (Option Record) Refusal → Option Line
  said r = record_reported r trace offset (length (line_at trace offset number))

  -- a record has a line, and so has a refusal of one; the trace's end has none
  ends : (r : Result (Option Record) Refusal) → said r ≡ None → r ≡ Ok None
  ends (Ok (Some found)) e = cc
  ends (Err q) e = cc
  ends (Ok None) e = refl

  -- given room, what is said of the record
  enough : 96 ≤ room → reported_at trace offset number room ≡ Ok (said (record_at trace offset))
  unfolding reported_at
  enough h = simp (le-ltb room 96 h)

  little : room < 96 → reported_at trace offset number room ≡ Err RoomShort
  unfolding reported_at
  little h = simp (lt-ltb room 96 h)

  -- room, where something is said
  roomy : (a : Option Line) → reported_at trace offset number room ≡ Ok a → (96 ≤ room) × (said (record_at trace offset) ≡ a)
  unfolding reported_at
  roomy a e = go (ltb room 96) refl e
    where
      go : (t : Bool) → ltb room 96 ≡ t → cond t (Err RoomShort) (Ok (said (record_at trace offset))) ≡ Ok a
          → (96 ≤ room) × (said (record_at trace offset) ≡ a)
      go true d q = cc
      go false d q = (ltb-false room 96 d, cc)

  pub report-no-other : (r : Refusal) → reported_at trace offset number room ≡ Err r → (r ≡ RoomShort) × (room < 96)
  unfolding reported_at
  report-no-other r e = go (ltb room 96) refl e
    where
      go : (t : Bool) → ltb room 96 ≡ t → cond t (Err RoomShort) (Ok (said (record_at trace offset))) ≡ Err r
          → (r ≡ RoomShort) × (room < 96)
      go true d q = (cc, ltb-true room 96 d)
      go false d q = cc

  pub report-room : reported_at trace offset number room ≡ Err RoomShort ↔ room < 96
  report-room = (λ e. (report-no-other RoomShort e).1, little)

  pub report-end : reported_at trace offset number room ≡ Ok None ↔ (96 ≤ room) × (record_at trace offset ≡ Ok None)
  report-end = (
    λ e. let both = roomy None e in (both.0, ends (record_at trace offset) both.1),
    λ h. enough h.0 ∙ ap (λ (r : Result (Option Record) Refusal). Ok (said r)) h.1,
  )

  pub report-line : (n next : ℕ)
      → reported_at trace offset number room ≡ Ok (Some (record { length = n; next = next }))
      ↔ (96 ≤ room)
      × (record_reported (record_at trace offset) trace offset (length (line_at trace offset number)) ≡ Some (record { length = n; next = next }))
  report-line n next = (roomy (Some (record { length = n; next = next })), λ h. enough h.0 ∙ ap Ok h.1)
