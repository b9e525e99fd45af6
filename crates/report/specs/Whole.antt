-- The whole report over a trace, which the program writes; no contract can say so, and none cites it. Assumes nothing.
use Rattle.std.specs.Prelude.{ℕ, zero, suc, ◌+◌, List, [], ◌++◌, length, Option, Some, None, Result, Ok, Err}
use Rattle.refusals.specs.declared.Refusal.{Refusal}
use Rattle.report.specs.Report.{line_at, reported_at}
use Rattle.report.specs.declared.Line.{Line}

-- a line, and behind it what stands from the next record on [15.10]
abbrev pub onward : Result (Option Line) Refusal → List ℕ → (ℕ → List ℕ) → List ℕ
onward (Ok (Some said)) line rest = line ++ rest said.next
onward (Ok None) line rest = []
onward (Err refusal) line rest = []

-- the lines of the records from an offset on, at most k of them, the first with this number [15.2, 15.10]
unfoldable pub lines_from : ℕ → List ℕ → ℕ → ℕ → List ℕ
lines_from zero trace offset number = []
lines_from (suc k) trace offset number =
    onward (reported_at trace offset number 96) (line_at trace offset number) (λ next. lines_from k trace next (number + 1))

-- the whole report: a record has at least one byte, so there are no more lines than bytes [15.2, 15.10]
unfoldable pub report : List ℕ → List ℕ
report trace = lines_from (length trace) trace 0 1
