-- `prushgoli::packing::answer` meets its contract: what is given is no refusal, and a refusal gives nothing else. Assumes nothing.
use native.Mathlib.Omega.{arith}
use Rattle.refusals.proofs.Table.{high-none}
use Rattle.prushgoli.specs.Packing.{pack}
use Rattle.prushgoli.proofs.packing.answer.Goals as goal

pub returns-in-Ok : goal.returns-in-Ok
unfolding pack
returns-in-Ok g c =
    rw c.in-Ok.is (omega (arith, c.pack.ensures, c.low.ensures, c.high.ensures, g.T.Given.accepted c.in-Ok.given))

pub returns-in-Err : goal.returns-in-Err
unfolding pack
returns-in-Err g c =
    rw c.in-Err.is (omega (arith, c.pack-in-Err.ensures, c.place.ensures, c.number.ensures, high-none c.in-Err.refusal))
