-- `scanning::walk::along`, the invariants: what is left of the line leads to the answer of the whole. Assumes nothing.
use mathlib.Core.Path.{◌≡◌}
use mathlib.Core.Bool.{Bool}
use mathlib.Core.List.{List}
use Prim.Native.Nat.{ℕ, ◌-◌, ◌<◌}
use lib.ListN.{length}
use Rattle.bits.specs.declared.Run.{Run}
use Rattle.scanning.specs.Rows.{fields_of}
use Rattle.scanning.proofs.Keeping.{bytes, Told, Between, Within}
use Rattle.scanning.proofs.walk.along.Given as goal

abbrev pub invariant-loop-seen : goal.invariant-loop-seen
invariant-loop-seen l =
    (l.i < 10)
    × ((long : Bool) × (frame : List ℕ) × (run : Run) × (left : ℕ) × Within l.fn.reading l.line l.i long l.seen run left frame
    × Told l.seen run frame × (l.fields ≡ fields_of l.fn.reading long (bytes l.seen)))

abbrev pub decreases-loop-seen : goal.decreases-loop-seen
decreases-loop-seen l = length l.line - l.seen.place

abbrev pub invariant-loop-i : goal.invariant-loop-i
invariant-loop-i l =
    (long : Bool) × (frame : List ℕ) × (run : Run) × Between l.fn.reading l.line l.i long l.seen run frame
    × (l.fields ≡ fields_of l.fn.reading long (bytes l.seen))
