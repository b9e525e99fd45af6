-- `decoding::decode` meets its contract: the number that is loaded holds the field. Assumes nothing.
use mathlib.Core.Path.{◌∙◌}
use native.Mathlib.Omega.{arith}
use lib.ListN.{length}
use Rattle.bits.specs.Below.{Below}
use Rattle.bits.proofs.Below.{below_at}
use Rattle.decoding.proofs.NumberAnswers.{loaded-answer, loaded-payload}
use Rattle.decoding.proofs.decode.Goals as goal
use Rattle.decoding.proofs.decode.Goals.{After-load-number}

below : (c : After-load-number) → Below 256 c.args.field.now
below c = below_at 256 c.args.field.now (λ i. omega (arith, c.type_inv.field i))

pub returns-clause-answer : goal.returns-clause-answer
returns-clause-answer c =
    c.decode_number.ensures.answer
    ∙ rw c.load-number.ensures (loaded-answer c.args.field.now _ (below (goal.at.returns-clause-answer c).After-load-number))

pub returns-clause-memory : goal.returns-clause-memory
returns-clause-memory c =
    let below = below (goal.at.returns-clause-memory c).After-load-number in
    let loaded = c.load-number.ensures in
    let answer = c.decode_number.ensures.answer ∙ rw loaded (loaded-answer c.args.field.now (length c.args.payload.now) below) in
    rw answer (rw (loaded, answer) at c.decode_number.ensures.memory ∙ loaded-payload c.args.field.now (length c.args.payload.now) below c.args.payload.now)
