-- `frame::writing::Writer::plain` meets its contract. Assumes nothing.
use mathlib.Core.Path.{◌≡◌, refl, sym, ◌∙◌}
use Prim.Native.Nat.{◌<◌}
use native.Mathlib.Numerals.{add-one}
use native.Mathlib.Omega.{arith}
use lib.ListN.{length-set}
use Rattle.bits.specs.Rows.{bits}
use Rattle.bits.proofs.Rows.{bits-length, bits-next}
use Rattle.frame.proofs.writing.Writer.plain.Goals as goal

pub loop-left-preserved : goal.loop-left-preserved
loop-left-preserved c =
    let loop = c.loop-left in
    let some : 0 < loop.left = omega arith in
    record {
      place = omega arith;
      long = simp length-set loop.invariant.long;
      same = loop.invariant.same;
      last = loop.invariant.last;
      line = loop.invariant.line ∙ rw (bits-next loop.left c.args.number some, add-one) refl;
    }

pub returns-clause-row : goal.returns-clause-row
unfolding bits
returns-clause-row c =
    let invariant = c.loop-left.invariant in
    let none : c.loop-left.left ≡ 0 = omega arith in
    record { line-is = sym (rw none at invariant.line); at-is = omega (arith, bits-length c.args.count c.args.number); same = invariant.same }
