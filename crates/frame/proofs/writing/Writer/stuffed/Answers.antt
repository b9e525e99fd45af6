-- `frame::writing::Writer::stuffed` meets its contract. Assumes nothing.
use mathlib.Core.Path.{sym, ap, ◌∙◌}
use mathlib.Core.List.{List}
use Prim.Native.Nat.{ℕ}
use native.Mathlib.Omega.{arith}
use lib.ListN.{length, length-append}
use lib.Seq.{sets}
use Rattle.bits.specs.Stuffing.{stuffed, run_after_row}
use Rattle.bits.proofs.Fours.{fours-none}
use Rattle.frame.specs.Fours.{run_of}
use Rattle.frame.proofs.FourBits.{sent-fours}
use Rattle.frame.proofs.Written.{written-length, written_next}
use Rattle.frame.proofs.writing.Writer.stuffed.Goals as goal

pub four-requires : goal.four-requires
four-requires c =
    let loop = c.loop-left in
    let e = ap length (sent-fours (run_of loop.self.last.bits) loop.left c.args.number (omega arith)) in
    rw c.at.ensures (omega (arith, loop.invariant.place, c.requires.1, loop.invariant.long, simp length-append at e))

pub loop-left-preserved : goal.loop-left-preserved
loop-left-preserved c =
    let loop = c.loop-left in
    let written = rw c.at.ensures at c.four.ensures in
    let next = written_next loop.self c.four.new.self loop.left c.args.number (omega arith) written in
    record {
      long = written-length written ∙ loop.invariant.long;
      same = written.placed.same ∙ loop.invariant.same;
      line = loop.invariant.line ∙ next.0;
      run = loop.invariant.run ∙ next.1;
      place = loop.invariant.place ∙ next.2;
    }

pub returns : goal.returns
unfolding stuffed run_after_row
returns c =
    let loop = c.loop-left in
    let none = fours-none loop.left c.args.number (omega arith) in
    let r = run_of loop.self.last.bits in
    record {
      placed =
          record {
            line-is = sym (loop.invariant.line ∙ ap (λ (l : List ℕ). sets loop.self.line.now loop.self.at (stuffed r l)) none);
            at-is = omega (arith, loop.invariant.place, ap (λ (l : List ℕ). length (stuffed r l)) none);
            same = loop.invariant.same;
          };
      run_is = sym (loop.invariant.run ∙ ap (run_after_row r) none);
    }
