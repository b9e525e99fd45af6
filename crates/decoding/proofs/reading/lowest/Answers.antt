-- `decoding::reading::lowest` meets its contract: the shifted 1 does not leave its 64 bits. Assumes nothing.
use mathlib.Core.Path.{◌≡◌, ◌∙◌}
use Prim.Native.Nat.{ℕ, ◌*◌, ◌%◌, ◌^◌, ◌<◌}
use native.Mathlib.Nat.{one-mul}
use borrow.Author.Rules.{rules}
use lib.Dec.{lit<}
use lib.Pow.{shl_exact}
use Rattle.decoding.proofs.reading.lowest.Goals as goal

shifted : (count : ℕ) → count < 64 → 1 * 2 ^ count % 2 ^ 64 ≡ 2 ^ count
shifted count h = shl_exact {a = 1} 1 count 64 (lit< tt) (search rules) ∙ one-mul (2 ^ count)

pub returns : goal.returns
returns c = rw (shifted c.args.count c.requires)
