-- `frame::frame_length` meets its contract: the parts of the frame decide the answer, or their refusal. Assumes nothing.
use mathlib.Core.Path.{sym, ap, ◌∙◌}
use lib.ListN.{length}
use Rattle.std.proofs.Common.{Ok}
use Rattle.wire.proofs.FrameAnswers.{length-accepts}
use Rattle.frame.proofs.frame_length.Goals as goal

pub returns-in-Ok : goal.returns-in-Ok
returns-in-Ok c =
    let frame = c.in-Ok.ensures in
    ap Ok (c.of-in-Ok.ensures ∙ ap length frame.line-is) ∙ sym (length-accepts _ _ frame.allowed frame.short)
