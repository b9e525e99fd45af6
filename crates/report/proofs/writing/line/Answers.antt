-- The parts stand one behind the other.
use Rattle.report.specs.Report.{line_text, outcome_text}
use Rattle.report.proofs.Wrote.{wrote-behind}
use Rattle.report.proofs.writing.line.Goals as goal
use Rattle.report.proofs.writing.line.Goals.{in-Ok, in-Err}

pub returns : goal.returns
unfolding line_text outcome_text
returns c =
    let front = wrote-behind c.spaced.ensures.written (wrote-behind c.byte.ensures c.byte-2.ensures) in
    let middle = wrote-behind c.spaced-2.ensures.written c.spaced-3.ensures.written in
    let end = wrote-behind c.bytes.ensures.written c.byte-3.ensures in
    let whole = wrote-behind front (wrote-behind middle end) in
    elim c.match-answer.branch [
      | in-Ok w ↦ rw w.in-Ok.is (rw w.refusal-is at whole)
      | in-Err w ↦ rw w.in-Err.is (rw (w.refusal-is, w.number.ensures, w.place.ensures) at whole)
    ]
