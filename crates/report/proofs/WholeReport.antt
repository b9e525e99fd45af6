-- A report has a line for each record there is: as many steps as the trace has bytes are enough. Assumes nothing.
--     report-enough    more steps than the report takes give no more lines
use Rattle.std.proofs.Common.{◌≡◌, ℕ, zero, suc, ◌+◌, ◌≤◌, List, ◌++◌, length, Option, Some, None, Result, Ok, Err, refl, ap, ◌∙◌, arith}
use Rattle.refusals.specs.declared.Refusal.{Refusal}
use Rattle.records.proofs.Records.{record-end}
use Rattle.report.specs.Report.{line_at, reported_at}
use Rattle.report.specs.Whole.{onward, lines_from, report}
use Rattle.report.specs.declared.Line.{Line}
use Rattle.report.proofs.Reports.{reported-found, reported-goes}

nothing_left : (trace : List ℕ) (offset number : ℕ) → length trace ≤ offset → reported_at trace offset number 96 ≡ Ok None
nothing_left trace offset number h = reported-found trace offset number 96 _ (omega arith) (record-end trace offset (omega arith))

-- from where no more than k bytes are left, k steps come to the end
lines-enough : (k : ℕ) (trace : List ℕ) (offset number : ℕ) → length trace ≤ offset + k
    → lines_from (suc k) trace offset number ≡ lines_from k trace offset number
unfolding lines_from
lines-enough zero trace offset number h = rw (nothing_left trace offset number (omega arith))
lines-enough (suc k) trace offset number h =
    go (reported_at trace offset number 96) refl (λ (next : ℕ). lines-enough k trace next (number + 1))
  where
    go : (r : Result (Option Line) Refusal) → reported_at trace offset number 96 ≡ r
        → ((next : ℕ) → length trace ≤ next + k → lines_from (suc k) trace next (number + 1) ≡ lines_from k trace next (number + 1))
        → onward r (line_at trace offset number) (λ next. lines_from (suc k) trace next (number + 1))
        ≡ onward r (line_at trace offset number) (λ next. lines_from k trace next (number + 1))
    go (Ok (Some said)) e later =
        let goes = reported-goes trace offset number 96 said.length said.next e in
        ap (λ (rest : List ℕ). line_at trace offset number ++ rest) (later said.next (omega (arith, goes.later, h)))
    go (Ok None) e later = refl
    go (Err refusal) e later = refl

pub report-enough : (k : ℕ) (trace : List ℕ) → lines_from (length trace + k) trace 0 1 ≡ report trace
unfolding report
report-enough zero trace = ap (λ (n : ℕ). lines_from n trace 0 1) (omega arith)
report-enough (suc k) trace =
    let one : length trace + suc k ≡ suc (length trace + k) = omega arith in
    rw one (lines-enough (length trace + k) trace 0 1 (omega arith)) ∙ report-enough k trace
