-- `prushgoli::prushgoli_frame_bounds` meets its contract: it passes on what `frame::frame_bounds` answered. Assumes nothing.
use mathlib.Core.Path.{ap, ◌∙◌}
use Rattle.std.proofs.Common.{Result}
use Rattle.refusals.specs.declared.Refusal.{Refusal}
use Rattle.wire.specs.declared.Identifier.{Identifier}
use Rattle.wire.specs.Answers.{bounds_answer, bounds_numbers}
use Rattle.wire.specs.declared.Bounds.{Bounds}
use Rattle.prushgoli.specs.Packing.{pack}
use Rattle.prushgoli.proofs.Fits.{bounds-fit}
use Rattle.prushgoli.proofs.prushgoli_frame_bounds.Goals as goal

pub answer-requires : goal.answer-requires
answer-requires c =
    let fits = bounds-fit _ _ _ c.frame_bounds.ensures in
    record { low = fits.low; high = fits.high }

pub returns : goal.returns
returns c =
    let size = c.args.size in
    c.answer.ensures ∙ ap (λ (b : Result Bounds Refusal). pack (bounds_numbers b)) c.frame_bounds.ensures
    ∙ ap (λ (x : Identifier). pack (bounds_numbers (bounds_answer x size))) c.of.ensures
