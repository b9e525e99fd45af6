-- `field::encoding::with_words`, the invariant: the words that are left, behind the number so far, give the whole number; and the
-- number so far has 1 + 9 i bits. Assumes nothing.
use mathlib.Core.Path.{◌≡◌}
use Prim.Native.Nat.{◌*◌, ◌^◌, ◌<◌}
use lib.ListN.{drop}
use Rattle.bits.specs.Rows.{number}
use Rattle.field.specs.Field.{word_bits}
use Rattle.field.proofs.encoding.with_words.Given as goal

abbrev pub invariant-loop-i : goal.invariant-loop-i
invariant-loop-i g l = record {
  left : number l.number (word_bits (drop l.i l.payload)) ≡ number l.first (word_bits l.payload);
  few : l.number < 2 * 512 ^ l.i;
}
