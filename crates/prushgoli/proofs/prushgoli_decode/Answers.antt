-- `prushgoli::prushgoli_decode` meets its contract: it passes on what `decoding::decode` answered and left. Assumes nothing.
use Rattle.std.proofs.Common.{ℕ, Result}
use Rattle.refusals.specs.declared.Refusal.{Refusal}
use Rattle.refusals.specs.After.{after}
use Rattle.refusals.specs.Table.{answer_numbers}
use Rattle.decoding.specs.Decode.{payload_of}
use Rattle.prushgoli.proofs.Packed.{same-packed}
use Rattle.prushgoli.proofs.Fits.{decode-fits}
use Rattle.prushgoli.proofs.prushgoli_decode.Goals as goal

pub answer-requires : goal.answer-requires
answer-requires c =
    let fits = decode-fits _ _ _ c.decode.ensures.answer in
    record { low = fits.low; high = fits.high }

pub returns : goal.returns
returns c =
    let args = c.args in
    let called = c.decode in
    let both =
    same-packed answer_numbers (λ (a : Result ℕ Refusal). after (answer_numbers a) (payload_of args.field.now) args.payload.now) called.result _ _ _
    called.ensures.answer c.answer.ensures called.ensures.memory in
    record { answer = both.0; memory = both.1 }
