-- `frame::stuffing::behind` meets its contract: a field that draws no stuff bit leaves the run of its last four bits.
-- Assumes nothing.
use mathlib.Core.Path.{◌≡◌, refl, ap, ◌∙◌}
use Prim.Native.Nat.{◌%◌}
use native.Mathlib.Omega.{arith}
use Rattle.bits.specs.Rows.{bits}
use Rattle.bits.specs.Stuffing.{run_after_row}
use Rattle.frame.specs.Fours.{run_of}
use Rattle.frame.proofs.Quiet.{quiet-field}
use Rattle.frame.proofs.stuffing.behind.Goals as goal

pub returns-then-field-eq0 : goal.returns-then-field-eq0
unfolding bits run_after_row
returns-then-field-eq0 c = rw c.if-field-eq0.true refl

pub returns-else-field-eq0 : goal.returns-else-field-eq0
returns-else-field-eq0 c =
    let args = c.args in
    let low : c.at.result.bits ≡ args.field.number % 16 = omega arith in
    ap run_of low ∙ quiet-field args.last.bits args.field.n args.field.number (omega arith) c.requires
