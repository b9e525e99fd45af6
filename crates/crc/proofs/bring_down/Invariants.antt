-- `crc::bring_down`, the invariant: the register is the CRC of the front and of the bits brought down, so that with those that are
-- left it leads to the CRC of all. Assumes nothing.
use mathlib.Core.Path.{◌≡◌}
use mathlib.Core.List.{List, ◌++◌}
use Prim.Native.Nat.{ℕ, ◌*◌}
use Rattle.bits.specs.Rows.{bits}
use Rattle.crc.specs.Crc.{crc}
use Rattle.crc.proofs.bring_down.Given as goal

abbrev pub invariant-loop-left : goal.invariant-loop-left
invariant-loop-left l =
    (row : List ℕ) → l.fn.register ≡ crc row * 2 →
    (m : List ℕ) × (l.register ≡ crc m * 2) × (m ++ bits (4 * l.left) l.number ≡ row ++ bits (4 * l.count) l.number)
