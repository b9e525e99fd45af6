-- `frame::writing::Writer::plain_fours`, the invariant: what is left to write leads to the line that the whole leads to. Assumes nothing.
use mathlib.Core.Path.{◌≡◌}
use Prim.Native.Nat.{◌+◌, ◌*◌}
use lib.ListN.{length}
use lib.Seq.{sets}
use Rattle.bits.specs.Rows.{bits}
use Rattle.frame.proofs.writing.Writer.plain_fours.Given as goal

abbrev pub invariant-loop-left : goal.invariant-loop-left
invariant-loop-left l =
    record {
      place : l.self.at + 4 * l.left ≡ l.initial.self.at + 4 * l.count;
      long : length l.self.line.now ≡ length l.initial.self.line.now;
      same : l.self.line.ghost_name ≡ l.initial.self.line.ghost_name;
      last : l.self.last.bits ≡ l.initial.self.last.bits;
      line : sets l.initial.self.line.now l.initial.self.at (bits (4 * l.count) l.number) ≡ sets l.self.line.now l.self.at (bits (4 * l.left) l.number);
    }
