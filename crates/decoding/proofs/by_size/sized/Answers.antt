-- `decoding::by_size::sized` meets its contract: what stands above the lowest bytes but one is a byte, or there is no such field; and
-- what was read decides both the answer and what is written. Assumes nothing.
use mathlib.Core.Path.{◌≡◌, sym, ap, ◌∙◌}
use Prim.Native.Nat.{ℕ, ◌+◌}
use native.Mathlib.Omega.{arith}
use lib.ListN.{length}
use Rattle.std.proofs.Common.{Ok}
use Rattle.bits.proofs.Loading.{store-result}
use Rattle.field.specs.Coded.{field_from}
use Rattle.field.proofs.Coded.{from-length}
use Rattle.decoding.specs.Decode.{payload_of}
use Rattle.decoding.proofs.FieldParts.{payload-below, payload-length}
use Rattle.decoding.proofs.Accepted.{accepted}
use Rattle.decoding.proofs.NumberAnswers.{number_fits, number-wide, wide, narrow}
use Rattle.decoding.proofs.by_size.sized.Goals as goal

long : (size v : ℕ) → size ≡ length (payload_of (field_from (size + 1) v))
long size v = omega (arith, from-length (size + 1) v, payload-length (field_from (size + 1) v))

pub returns-then-number-gt255-clause-answer : goal.returns-then-number-gt255-clause-answer
returns-then-number-gt255-clause-answer g c = sym (number-wide _ _ _ (wide _ _ (omega (arith, c.if-number-gt255.true))))

pub returns-in-Err-clause-answer : goal.returns-in-Err-clause-answer
returns-in-Err-clause-answer g c = sym (number_fits _ _ _ (narrow _ _ c.if-number-gt255.false) ∙ c.in-Err.ensures)

pub returns-in-Ok-clause-answer : goal.returns-in-Ok-clause-answer
returns-in-Ok-clause-answer g c =
    let says = c.in-Ok.ensures in
    ap Ok (long g.row.SIZE c.args.number) ∙ sym (number_fits _ _ _ (narrow _ _ c.if-number-gt255.false) ∙ says.0)

pub returns-in-Ok-clause-memory : goal.returns-in-Ok-clause-memory
returns-in-Ok-clause-memory g c =
    let says = c.in-Ok.ensures in
    let size = long g.row.SIZE c.args.number in
    let field = field_from (g.row.SIZE + 1) c.args.number in
    c.store.ensures.memory
    ∙ store-result _ _ _ _ (payload-below _) says.1 size
    (omega (arith, size, payload-length field, (accepted _ _ _ says.0).begun.fits))
    (omega (arith, c.requires.1))
