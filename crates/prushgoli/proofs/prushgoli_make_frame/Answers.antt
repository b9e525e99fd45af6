-- `prushgoli::prushgoli_make_frame` meets its contract: it passes on what `frame::make_frame` answered and left. Assumes nothing.
use Rattle.std.proofs.Common.{ℕ, Result}
use Rattle.refusals.specs.declared.Refusal.{Refusal}
use Rattle.refusals.specs.After.{after}
use Rattle.refusals.specs.Table.{answer_numbers}
use Rattle.wire.specs.Answers.{payload_line}
use Rattle.prushgoli.proofs.Packed.{same-packed}
use Rattle.prushgoli.proofs.Fits.{make-fits}
use Rattle.prushgoli.proofs.prushgoli_make_frame.Goals as goal

pub answer-requires : goal.answer-requires
answer-requires c =
    let fits = make-fits _ _ _ _ c.make_frame.ensures.answer in
    record { low = fits.low; high = fits.high }

pub returns : goal.returns
returns c =
    let args = c.args in
    let called = c.make_frame in
    let both =
    rw c.of.ensures at
    (same-packed answer_numbers (λ (a : Result ℕ Refusal). after (answer_numbers a) (payload_line c.of.result args.payload.now) args.line.now) called.result
    _ _ _ called.ensures.answer c.answer.ensures called.ensures.memory) in
    record { answer = both.0; memory = both.1 }
