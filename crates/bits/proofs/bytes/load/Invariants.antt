-- `bits::bytes::load`, the invariant: the number so far, with the bytes that are left behind it, is the number of all bytes; and it is
-- no longer than the bytes that were read. Assumes nothing.
use mathlib.Core.Path.{◌≡◌}
use Prim.Native.Nat.{◌^◌, ◌<◌}
use lib.ListN.{drop}
use Rattle.bits.specs.Rows.{number}
use Rattle.bits.specs.Packing.{unpacked}
use Rattle.bits.proofs.bytes.load.Given as goal

abbrev pub invariant-loop-byte : goal.invariant-loop-byte
invariant-loop-byte l =
    record {
      leads : number l.number (unpacked 8 (drop l.byte-index l.bytes)) ≡ number 0 (unpacked 8 l.bytes);
      small : l.number < 256 ^ l.byte-index;
    }
