-- What stands at the offset decides the line.
use Rattle.std.proofs.Common.{◌≡◌, ◌+◌, ◌≤◌, length, refl, sym, ap, ◌∙◌, arith}
use Rattle.records.specs.Records.{body_of}
use Rattle.records.proofs.Records.{record-fits, body-part}
use Rattle.report.specs.Report.{coded_text, outcome_text}
use Rattle.report.proofs.Reports.{Said, record-said}
use Rattle.report.proofs.line_at.Goals as goal
use Rattle.report.proofs.line_at.Goals.{Joined-record_at, Joined-record, In-Ok-Some, in-Err, in-Ok-Some}

-- the record that was found lies within the trace
inside : (c : In-Ok-Some) → c.args.offset + 1 + body_of c.in-Ok-Some.record ≤ length c.args.trace.now
inside c = record-fits _ _ _ (sym (rw c.in-Ok-Some.field-0-is at c.in-Ok-Some.ensures))

body : (c : Joined-record) → c.match-record.body ≡ body_of c.in-Ok-Some.record
body c = grind arith

pub overflow_add-start : goal.overflow_add-start
overflow_add-start c = omega (arith, inside (goal.at.overflow_add-start c).In-Ok-Some)

pub overflow_add-next : goal.overflow_add-next
overflow_add-next c =
    let at = goal.at.overflow_add-next c in
    omega (arith, body at.Joined-record, inside at.In-Ok-Some)

pub slice_bounds-coded-end : goal.slice_bounds-coded-end
slice_bounds-coded-end c =
    let at = goal.at.slice_bounds-coded-end c in
    omega (arith, body at.Joined-record, inside at.In-Ok-Some)

said : (c : Joined-record_at) → Said c.args.trace.now c.args.offset c.args.number c.new-line.result c.match-record_at.line c.match-record_at.next
unfolding outcome_text
said c =
    let new = c.new-line.ensures in
    let room = rw (← new.bytes) at c.if-text-lt-LINE_ROOM.false in
    elim c.match-record_at.branch [
      | in-Ok-Some w ↦
          let found = sym (rw w.in-Ok-Some.field-0-is at w.in-Ok-Some.ensures) in
          let same : w.match-record.record ≡ w.in-Ok-Some.record = grind arith in
          let long : w.match-record.body ≡ body_of w.in-Ok-Some.record = grind arith in
          rw (w.line-is, w.next-is, long)
          (record-said _ _ _ _ _ _ _ _ room new.end found (ap (coded_text w.in-Ok-Some.record c.args.number) (sym (rw long (body-part _ _ _)))) (λ k. refl) (rw same at w.coded.ensures))
      | in-Err w ↦
          let found = sym c.record_at.ensures ∙ w.in-Err.is in
          rw (w.line-is, w.next-is) (record-said _ _ _ _ _ _ _ _ room new.end found refl (λ k. refl) w.line.ensures)
    ]

pub returns-clause-memory : goal.returns-clause-memory
returns-clause-memory c =
    let s = said (goal.at.returns-clause-memory c).Joined-record_at in
    let same = s.same in
    let row = rw c.new-line.ensures.bytes at s.bytes-are in
    grind arith

pub returns-clause-answer : goal.returns-clause-answer
returns-clause-answer c =
    let s = said (goal.at.returns-clause-answer c).Joined-record_at in
    rw (c.length.ensures, ← c.new-line.ensures.bytes) s.answer-is
