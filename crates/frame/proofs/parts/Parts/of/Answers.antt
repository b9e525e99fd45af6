-- `frame::parts::Parts::of` meets its contract: what the payload is coded into decides the answer. Assumes nothing.
use mathlib.Core.Path.{sym, ap, ◌∙◌}
use Prim.Native.Nat.{◌≤◌}
use native.Mathlib.Omega.{arith}
use Rattle.std.proofs.Common.{Err}
use Rattle.bits.proofs.Below.{below_at}
use Rattle.field.proofs.Coded.{IsField, coded-field, coded-refused}
use Rattle.wire.specs.Identifier.{Allowed}
use Rattle.wire.proofs.Identifiers.{told-refused, told-allowed}
use Rattle.wire.proofs.Demand3.{room-enough}
use Rattle.wire.proofs.FrameAnswers.{length-identifier, length-payload-long, make-identifier, make-payload-long}
use Rattle.wire.proofs.PayloadLine.{coded-few, coded-quiet, coded-line}
use Rattle.frame.proofs.parts.Parts.of.Goals as goal
use Rattle.frame.proofs.parts.Parts.of.Goals.{Else-is_refused, In-Ok}

pub returns-then-is_refused : goal.returns-then-is_refused
returns-then-is_refused c =
    let above = told-refused c.args.identifier _ c.is_refused.ensures c.if-is_refused.true in
    (length-identifier _ _ above, λ room. make-identifier _ _ room above)

allowed : (c : Else-is_refused) → Allowed c.args.identifier
allowed c = told-allowed c.args.identifier _ c.is_refused.ensures c.if-is_refused.false

pub returns-in-Err : goal.returns-in-Err
returns-in-Err c =
    let long = coded-refused _ _ (sym c.code.ensures ∙ c.in-Err.is) in
    let within = allowed (goal.at.returns-in-Err c).Else-is_refused in
    let same = ap Err (sym long.1) in
    (length-payload-long _ _ within long.0 ∙ same, λ room. make-payload-long _ _ room within long.0 ∙ same)

-- what the payload was coded into
found : (c : In-Ok) → IsField c.args.payload.now c.in-Ok.field.n c.in-Ok.field.number
found c = coded-field _ _ _ (sym c.code.ensures ∙ c.in-Ok.is)

few : (c : In-Ok) → c.in-Ok.field.n ≤ 8
few c = coded-few _ _ _ (found c)

pub of-requires : goal.of-requires
of-requires c = (allowed (goal.at.of-requires c).Else-is_refused, omega (arith, few (goal.at.of-requires c).In-Ok))

pub invariant_of-result : goal.invariant_of-result
invariant_of-result c =
    let in-field = (goal.at.invariant_of-result c).In-Ok in
    let payload = c.args.payload.now in
    record {
      dlc = c.of.ensures.dlc;
      few = few in-field;
      quiet = coded-quiet _ payload _ _ _ (found in-field) c.of.ensures.bits_are (below_at 256 payload (λ i. omega (arith, c.type_inv.payload i)));
    }

pub returns-in-Ok : goal.returns-in-Ok
returns-in-Ok c =
    let in-field = (goal.at.returns-in-Ok c).In-Ok in
    let payload = c.args.payload.now in
    let line = coded-line _ payload _ _ _ (found in-field) c.of.ensures.bits_are in
    record {
      allowed = allowed (goal.at.returns-in-Ok c).Else-is_refused;
      short = (found in-field).short;
      line-is = line;
      enough = rw line (room-enough _ payload (below_at 256 payload (λ i. omega (arith, c.type_inv.payload i))) (found in-field).short);
    }
