-- Each line is followed by what stands further right in the trace.
use Rattle.std.proofs.Common.{sym, ◌∙◌, arith, length-take}
use Rattle.report.proofs.Reports.{Goes, reported-goes}
use Rattle.trace.proofs.write_report.Goals as goal
use Rattle.trace.proofs.write_report.Goals.{In-Ok-Some}

goes : (g : _) (c : In-Ok-Some g) → Goes c.args.trace.now c.loop-line.offset c.in-Ok-Some.line.length c.in-Ok-Some.line.next
goes g c = reported-goes _ _ _ _ _ _ (sym (rw c.in-Ok-Some.field-0-is at c.in-Ok-Some.ensures.answer))

pub slice_bounds-text-end : goal.slice_bounds-text-end
slice_bounds-text-end g c =
    let line = goes g (goal.at.slice_bounds-text-end g c).In-Ok-Some in
    omega (arith, line.short, c.loop-line.invariant.0, c.line_at.auto.text)

pub slice_bounds-write_all-end : goal.slice_bounds-write_all-end
slice_bounds-write_all-end g c =
    let line = goes g (goal.at.slice_bounds-write_all-end g c).In-Ok-Some in
    omega (arith, length-take c.in-Ok-Some.line.length c.line_at.new.text, line.short, c.loop-line.invariant.0, c.line_at.auto.text)

pub loop-line-smaller : goal.loop-line-smaller
loop-line-smaller g c =
    let line = goes g (goal.at.loop-line-smaller g c).In-Ok-Some in
    omega (arith, line.later, line.inside)

pub loop-line-preserved : goal.loop-line-preserved
loop-line-preserved g c =
    let line = goes g (goal.at.loop-line-preserved g c).In-Ok-Some in
    (c.line_at.auto.text ∙ c.loop-line.invariant.0, line.inside, omega (arith, line.later, c.loop-line.invariant.2))
