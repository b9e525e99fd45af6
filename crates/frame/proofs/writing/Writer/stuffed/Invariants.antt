-- `frame::writing::Writer::stuffed`, the invariant: what is left to send leads to the line, the run and the place that the whole leads
-- to. Assumes nothing.
use mathlib.Core.Path.{◌≡◌}
use Prim.Native.Nat.{◌+◌, ◌*◌}
use lib.ListN.{length}
use lib.Seq.{sets}
use Rattle.bits.specs.Rows.{bits}
use Rattle.bits.specs.Stuffing.{stuffed, run_after_row}
use Rattle.frame.specs.Fours.{run_of}
use Rattle.frame.proofs.writing.Writer.stuffed.Given as goal

abbrev pub invariant-loop-left : goal.invariant-loop-left
invariant-loop-left l =
    let before = l.initial.self in
    let all = bits (4 * l.count) l.number in
    let rest = bits (4 * l.left) l.number in
    record {
      long : length l.self.line.now ≡ length before.line.now;
      same : l.self.line.ghost_name ≡ before.line.ghost_name;
      line : sets before.line.now before.at (stuffed (run_of before.last.bits) all) ≡ sets l.self.line.now l.self.at (stuffed (run_of l.self.last.bits) rest);
      run : run_after_row (run_of before.last.bits) all ≡ run_after_row (run_of l.self.last.bits) rest;
      place : before.at + length (stuffed (run_of before.last.bits) all) ≡ l.self.at + length (stuffed (run_of l.self.last.bits) rest);
    }
