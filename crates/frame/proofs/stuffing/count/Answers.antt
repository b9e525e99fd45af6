-- `frame::stuffing::count` meets its contract. Assumes nothing.
use mathlib.Core.Path.{sym, ap, ◌∙◌}
use mathlib.Core.List.{List}
use Prim.Native.Nat.{ℕ, ◌+◌, ◌-◌, ◌*◌, ◌≤◌, ◌<◌}
use native.Mathlib.Nat.{add-zero}
use native.Mathlib.Omega.{arith}
use Rattle.std.specs.Prelude.{Option, Some, None}
use lib.Dec.{lit≤}
use lib.ListN.{length}
use Rattle.bits.specs.declared.Run.{Run}
use Rattle.bits.specs.Rows.{bits}
use Rattle.bits.specs.Stuffing.{stuff_count, run_after_row}
use Rattle.bits.proofs.Rows.{bits-length}
use Rattle.bits.proofs.Fours.{fours-none}
use Rattle.frame.specs.Fours.{run_of}
use Rattle.frame.specs.Sent.{first_bits}
use Rattle.frame.proofs.FourBits.{run-fours, drawn-fours}
use Rattle.frame.proofs.stuffing.count.Goals as goal

-- no more than one stuff bit is among four
one-drawn : (first : Option ℕ) → length (first_bits first) ≤ 1
one-drawn (Some bit) = lit≤ tt
one-drawn None = lit≤ tt

pub loop-left-preserved : goal.loop-left-preserved
loop-left-preserved c =
    let loop = c.loop-left in
    let number = c.args.number in
    let some : 0 < loop.left = omega arith in
    let sent = rw c.at.ensures at c.behind-sent.ensures in
    record {
      few = omega (arith, c.drawn.ensures, one-drawn c.behind-sent.result.first);
      run =
          loop.invariant.run ∙ run-fours (run_of loop.counted.last.bits) loop.left number some
          ∙ ap (λ (r : Run). run_after_row r (bits (4 * (loop.left - 1)) number)) (sym sent.run_is);
      drawn =
          loop.invariant.drawn
          ∙ ap (λ (n : ℕ). loop.counted.drawn + n) (drawn-fours (run_of loop.counted.last.bits) loop.left number some)
          ∙ rw (sent.run_is, c.drawn.ensures, sent.drawn_is) (omega arith);
    }

pub returns : goal.returns
unfolding stuff_count run_after_row
returns c =
    let loop = c.loop-left in
    let none = fours-none loop.left c.args.number (omega arith) in
    record {
      run_is = sym (loop.invariant.run ∙ ap (run_after_row (run_of loop.counted.last.bits)) none);
      drawn-is = sym (loop.invariant.drawn ∙ ap (λ (l : List ℕ). loop.counted.drawn + stuff_count (run_of loop.counted.last.bits) l) none ∙ add-zero _);
      few = omega (arith, loop.invariant.few, bits-length (4 * c.args.count) c.args.number);
    }
