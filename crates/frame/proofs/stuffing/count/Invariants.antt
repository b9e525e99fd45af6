-- `frame::stuffing::count`, the invariant: the bits that are left lead where all of them lead. Assumes nothing.
use mathlib.Core.Path.{◌≡◌}
use Prim.Native.Nat.{◌+◌, ◌*◌, ◌≤◌}
use Rattle.bits.specs.Rows.{bits}
use Rattle.bits.specs.Stuffing.{stuff_count, run_after_row}
use Rattle.frame.specs.Fours.{run_of}
use Rattle.frame.proofs.stuffing.count.Given as goal

abbrev pub invariant-loop-left : goal.invariant-loop-left
invariant-loop-left l =
    let all = bits (4 * l.count) l.number in
    let rest = bits (4 * l.left) l.number in
    let r = run_of l.initial.counted.last.bits in
    let s = run_of l.counted.last.bits in
    record {
      few : l.counted.drawn + l.left ≤ l.count;
      run : run_after_row r all ≡ run_after_row s rest;
      drawn : stuff_count r all ≡ l.counted.drawn + stuff_count s rest;
    }
