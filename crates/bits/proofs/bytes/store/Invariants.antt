-- `bits::bytes::store`, the invariant: what is written, with the bytes that are left behind it, is all that is to be written.
-- Assumes nothing.
use mathlib.Core.Path.{◌≡◌}
use mathlib.Core.List.{◌++◌}
use Prim.Native.Nat.{◌*◌, ◌-◌}
use lib.ListN.{take}
use Rattle.bits.specs.Rows.{bits}
use Rattle.bits.specs.Packing.{packed}
use Rattle.bits.proofs.bytes.store.Given as goal

abbrev pub invariant-loop-byte : goal.invariant-loop-byte
invariant-loop-byte l =
    record {
      left : l.at ≡ 8 * (l.count - l.byte-index);
      written : take l.byte-index l.byte-items ++ packed 8 (l.count - l.byte-index) (bits l.at l.number) ≡ packed 8 l.count (bits (8 * l.count) l.number);
    }
