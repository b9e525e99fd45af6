-- `prushgoli::read` meets its contract: it passes on what `line::read` answered and left. Assumes nothing.
use Rattle.std.proofs.Common.{Result}
use Rattle.refusals.specs.declared.Refusal.{Refusal}
use Rattle.refusals.specs.After.{after}
use Rattle.line.specs.Read.{payload_in, line_numbers}
use Rattle.line.specs.declared.Frame.{Frame}
use Rattle.prushgoli.proofs.Packed.{same-packed}
use Rattle.prushgoli.proofs.Fits.{read_fits}
use Rattle.prushgoli.proofs.read.Goals as goal

pub answer-requires : goal.answer-requires
answer-requires c =
    let fits = read_fits _ _ _ _ c.read.ensures.answer in
    record { low = fits.low; high = fits.high }

pub returns : goal.returns
returns c =
    let args = c.args in
    let called = c.read in
    let both =
    same-packed line_numbers (λ (l : Result Frame Refusal). after (line_numbers l) (payload_in args.reading args.line.now) args.payload.now) called.result _ _ _
    called.ensures.answer c.answer.ensures called.ensures.memory in
    record { answer = both.0; memory = both.1 }
