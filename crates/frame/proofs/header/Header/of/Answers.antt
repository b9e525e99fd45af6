-- `frame::header::Header::of` meets its contract: the number's bits are the header's. Assumes nothing.
use mathlib.Core.Path.{◌≡◌, sym, ap, ◌∙◌, subst}
use Prim.Native.Nat.{ℕ, ◌+◌, ◌*◌, ◌/◌, ◌%◌, ◌^◌, ◌≤◌, ◌<◌}
use native.Mathlib.Omega.{arith}
use Rattle.bits.specs.Rows.{bits}
use Rattle.wire.specs.declared.Identifier.{Identifier}
use Rattle.wire.specs.declared.Identifier.TheVariants.{Base, Long}
use Rattle.wire.specs.Header.{header}
use Rattle.wire.specs.Identifier.{Allowed}
use Rattle.wire.proofs.HeaderBits.{header-number, long-number}
use Rattle.frame.proofs.header.Header.of.Goals as goal
use Rattle.frame.proofs.header.Header.of.Goals.{in-Base, in-Long}

module _ (identifier : Identifier) (number n : ℕ) (allowed : Allowed identifier) (few : n < 16) where
  base-bits : identifier ≡ Base number → bits 19 (number * 128 + n) ≡ header identifier n
  base-bits e =
      let most : number ≤ 2047 = subst Allowed e allowed in
      header-number number n (omega arith) few ∙ ap (λ (x : Identifier). header x n) (sym e)

  long-bits : (front : ℕ) → identifier ≡ Long number → front ≡ number / 2 ^ 18 * 2 ^ 20 + 3 * 2 ^ 18 + number % 2 ^ 18
      → bits 39 (front * 128 + n) ≡ header identifier n
  long-bits front e put =
      let most : number ≤ 536870911 = subst Allowed e allowed in
      ap (λ (x : ℕ). bits 39 (x * 128 + n)) put ∙ long-number number n (omega arith) few ∙ ap (λ (x : Identifier). header x n) (sym e)

pub returns : goal.returns
returns c = elim c.match-identifier.branch [
  | in-Base w ↦ record {
    bits_are = rw w.result-is (base-bits c.args.identifier _ c.args.n c.requires.0 c.requires.1 w.in-Base.is);
    dlc = rw w.result-is (omega arith);
  }
  | in-Long w ↦ record {
    bits_are = rw w.result-is (long-bits c.args.identifier _ c.args.n c.requires.0 c.requires.1 _ w.in-Long.is w.long.ensures);
    dlc = rw w.result-is (omega arith);
  }
]
