-- `bits::bytes::load` meets its contract. Assumes nothing.
use mathlib.Core.Path.{sym, ◌∙◌}
use mathlib.Core.List.{List}
use Prim.Native.Nat.{ℕ, ◌+◌, ◌<◌}
use native.Mathlib.Omega.{arith}
use lib.ListN.{drop, get_or}
use lib.Pow.{pow-add}
use Rattle.std.proofs.lemmas.List.{at_drop_more, at_drop_all}
use Rattle.bits.specs.Rows.{number}
use Rattle.bits.specs.Packing.{unpacked}
use Rattle.bits.proofs.Packing.{number-unpacked}
use Rattle.bits.proofs.Loading.{load-all}
use Rattle.bits.proofs.bytes.load.Goals as goal

pub loop-byte-preserved : goal.loop-byte-preserved
loop-byte-preserved c =
    let i = c.loop-byte.byte-index in
    let bytes = c.args.bytes.now in
    let byte : get_or bytes i 0 < 256 = omega (arith, c.type_inv.bytes i) in
    let left = at_drop_more (λ (l : List ℕ). number c.loop-byte.number (unpacked 8 l)) bytes i 0 (omega arith) in
    record {
      leads = sym (left ∙ number-unpacked 8 c.loop-byte.number (get_or bytes i 0) (drop (i + 1) bytes) byte) ∙ c.loop-byte.invariant.leads;
      small = omega (arith, pow-add 256 i 1);
    }

pub returns : goal.returns
unfolding number unpacked
returns c =
    let bytes = c.args.bytes.now in
    sym (at_drop_all (λ (l : List ℕ). number c.loop-byte.number (unpacked 8 l)) bytes c.loop-byte.byte-index (omega arith))
    ∙ c.loop-byte.invariant.leads ∙ sym (load-all _ bytes (omega arith) (omega arith))
