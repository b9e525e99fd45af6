-- `frame::make_frame` meets its contract: the parts of the frame decide the answer, room permitting, or their refusal.
-- Assumes nothing.
use mathlib.Core.Path.{sym, ap, ◌∙◌}
use lib.ListN.{length}
use Rattle.std.proofs.Common.{Ok}
use Rattle.wire.proofs.FrameAnswers.{make-short, make-accepts}
use Rattle.frame.proofs.make_frame.Goals as goal

pub returns-then-line-room-clause-answer : goal.returns-then-line-room-clause-answer
returns-then-line-room-clause-answer c =
    let frame = c.in-Ok.ensures in
    sym (make-short _ _ _ frame.allowed frame.short (rw c.room.ensures at c.if-line-room.true))

pub returns-clause-answer : goal.returns-clause-answer
returns-clause-answer c =
    let frame = c.in-Ok.ensures in
    ap Ok (c.whole.ensures.length ∙ ap length frame.line-is)
    ∙ sym (make-accepts _ _ _ frame.allowed frame.short (rw c.room.ensures at c.if-line-room.false))
