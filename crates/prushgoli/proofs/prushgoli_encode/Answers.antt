-- `prushgoli::prushgoli_encode` meets its contract: it passes on what `field::encode` answered and left. Assumes nothing.
use Rattle.std.proofs.Common.{ℕ, Result}
use Rattle.refusals.specs.declared.Refusal.{Refusal}
use Rattle.refusals.specs.After.{after}
use Rattle.refusals.specs.Table.{answer_numbers}
use Rattle.field.specs.Field.{field_of}
use Rattle.prushgoli.proofs.Packed.{same-packed}
use Rattle.prushgoli.proofs.Fits.{encode-fits}
use Rattle.prushgoli.proofs.prushgoli_encode.Goals as goal

pub answer-requires : goal.answer-requires
answer-requires c =
    let fits = encode-fits _ _ _ c.encode.ensures.answer in
    record { low = fits.low; high = fits.high }

pub returns : goal.returns
returns c =
    let args = c.args in
    let called = c.encode in
    let both =
    same-packed answer_numbers (λ (a : Result ℕ Refusal). after (answer_numbers a) (field_of args.payload.now) args.field.now) called.result _ _ _
    called.ensures.answer c.answer.ensures called.ensures.memory in
    record { answer = both.0; memory = both.1 }
