-- `bits::bytes::store` meets its contract. Assumes nothing.
use mathlib.Core.Path.{◌≡◌}
use mathlib.Core.List.{append_assoc, append-nil}
use Prim.Native.Nat.{◌-◌}
use native.Mathlib.Omega.{arith}
use Rattle.std.proofs.lemmas.List.{take_all, take_more_set, length-take-le}
use Rattle.bits.specs.Packing.{packed}
use Rattle.bits.proofs.Packing.{packed-next}
use Rattle.bits.proofs.Loading.{store-few}
use Rattle.bits.proofs.bytes.store.Goals as goal

pub loop-byte-init : goal.loop-byte-init
loop-byte-init c = record { left = omega arith; written = grind arith }

pub loop-byte-preserved : goal.loop-byte-preserved
loop-byte-preserved c =
    let count = c.args.count in
    let i = c.loop-byte.byte-index in
    let long = length-take-le count c.args.bytes.now (omega arith) in
    record {
      left = omega arith;
      written = grind (arith, append_assoc, take_more_set c.loop-byte.byte-items i, packed-next 8 count i c.loop-byte.at c.args.number);
    }

pub returns : goal.returns
unfolding packed
returns c =
    let count = c.args.count in
    let old = c.args.bytes.now in
    let long = length-take-le count old (omega arith) in
    let none : count - c.loop-byte.byte-index ≡ 0 = omega arith in
    record {
      memory = grind (arith, append-nil, none, take_all c.loop-byte.byte-index c.loop-byte.byte-items, store-few c.args.number count old);
    }
