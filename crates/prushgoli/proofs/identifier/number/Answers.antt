-- `prushgoli::identifier::number` meets its contract: bit 31 is set for the long form. Assumes nothing.
use mathlib.Core.Path.{◌≡◌, sym, ap, subst}
use Prim.Native.Nat.{◌^◌, ◌<◌}
use native.Mathlib.Omega.{arith}
use Rattle.wire.specs.declared.Identifier.{Identifier}
use Rattle.wire.specs.Identifier.{number_for_c}
use Rattle.prushgoli.proofs.identifier.number.Goals as goal
use Rattle.prushgoli.proofs.identifier.number.Goals.{Start}

-- in its case
small : (c : Start) (x : Identifier) → c.args.identifier ≡ x → number_for_c x < 2 ^ 32
small c x e = subst (λ (y : Identifier). number_for_c y < 2 ^ 32) e c.requires

pub overflow_add-result : goal.overflow_add-result
overflow_add-result c = omega (arith, small (goal.at.overflow_add-result c).Start _ c.in-Long.is)

pub returns-in-Base : goal.returns-in-Base
returns-in-Base c = sym (ap number_for_c c.in-Base.is)

pub returns-in-Long : goal.returns-in-Long
returns-in-Long c = sym (ap number_for_c c.in-Long.is)
