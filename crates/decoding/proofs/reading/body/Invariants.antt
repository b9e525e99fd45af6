-- `decoding::reading::body`, the invariant: the words that are left lead to the answer that all of them lead to, and behind the bytes
-- so far, which are i, they give the payload's number. Assumes nothing.
use mathlib.Core.List.{map}
use Prim.Native.Nat.{◌+◌, ◌-◌, ◌*◌, ◌^◌, ◌<◌}
use Rattle.bits.specs.Rows.{bits}
use Rattle.bits.specs.Packing.{packed}
use Rattle.words.specs.Symbols.{symbol_of}
use Rattle.decoding.proofs.Leads.{Leads}
use Rattle.decoding.proofs.reading.body.Given as goal

abbrev pub invariant-loop-i : goal.invariant-loop-i
invariant-loop-i l = record {
  few : l.payload < 256 ^ l.i;
  leads : Leads l.number l.size l.count l.i l.payload (map symbol_of (packed 9 (l.size - l.i) (bits (9 * (l.size - l.i) + l.count) l.number)));
}
