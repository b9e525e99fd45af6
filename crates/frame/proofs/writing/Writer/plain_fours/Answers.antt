-- `frame::writing::Writer::plain_fours` meets its contract. Assumes nothing.
use mathlib.Core.Path.{sym, ap, ◌∙◌}
use Prim.Native.Nat.{◌-◌, ◌*◌}
use native.Mathlib.Omega.{arith}
use lib.Seq.{sets}
use Rattle.bits.specs.Fours.{four_at}
use Rattle.bits.proofs.Rows.{bits-length}
use Rattle.bits.proofs.Fours.{fours-none}
use Rattle.frame.proofs.Written.{placed-length, placed_next}
use Rattle.frame.proofs.writing.Writer.plain_fours.Goals as goal

pub loop-left-preserved : goal.loop-left-preserved
loop-left-preserved c =
    let loop = c.loop-left in
    let placed = rw c.at.ensures at c.plain_four.ensures.row in
    record {
      place = omega (arith, loop.invariant.place, placed.at-is, bits-length 4 (four_at c.args.number (loop.left - 1)));
      long = placed-length placed ∙ loop.invariant.long;
      same = placed.same ∙ loop.invariant.same;
      last = c.plain_four.ensures.last ∙ loop.invariant.last;
      line = loop.invariant.line ∙ placed_next loop.self c.plain_four.new.self loop.left c.args.number (omega arith) placed;
    }

pub returns-clause-row : goal.returns-clause-row
returns-clause-row c =
    let loop = c.loop-left in
    let none = fours-none loop.left c.args.number (omega arith) in
    record {
      line-is = sym (loop.invariant.line ∙ ap (sets loop.self.line.now loop.self.at) none);
      at-is = omega (arith, bits-length (4 * c.args.count) c.args.number);
      same = loop.invariant.same;
    }
