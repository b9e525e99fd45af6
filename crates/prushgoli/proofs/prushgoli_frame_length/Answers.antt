-- `prushgoli::prushgoli_frame_length` meets its contract: it passes on what `frame::frame_length` answered. Assumes nothing.
use mathlib.Core.Path.{ap, ◌∙◌}
use Rattle.std.proofs.Common.{ℕ, Result}
use Rattle.refusals.specs.declared.Refusal.{Refusal}
use Rattle.refusals.specs.Table.{answer_numbers}
use Rattle.wire.specs.declared.Identifier.{Identifier}
use Rattle.wire.specs.Answers.{length_answer}
use Rattle.prushgoli.specs.Packing.{pack}
use Rattle.prushgoli.proofs.Fits.{length-fits}
use Rattle.prushgoli.proofs.prushgoli_frame_length.Goals as goal

pub answer-requires : goal.answer-requires
answer-requires c =
    let fits = length-fits _ _ _ c.frame_length.ensures in
    record { low = fits.low; high = fits.high }

pub returns : goal.returns
returns c =
    let payload = c.args.payload.now in
    c.answer.ensures ∙ ap (λ (a : Result ℕ Refusal). pack (answer_numbers a)) c.frame_length.ensures
    ∙ ap (λ (x : Identifier). pack (answer_numbers (length_answer x payload))) c.of.ensures
