-- The laws of a number four bits at a time. Assumes nothing.
--     fours-next    the next four bits where a loop counts down those that are left; fours-none where none is left
use mathlib.Core.Path.{◌≡◌, sym, ap, ◌∙◌}
use mathlib.Core.List.{List, [], ◌++◌}
use Prim.Native.Nat.{ℕ, ◌+◌, ◌-◌, ◌*◌, ◌<◌}
use native.Mathlib.Omega.{arith}
use Rattle.bits.specs.Rows.{bits}
use Rattle.bits.specs.Fours.{four_at}
use Rattle.bits.proofs.Rows.{bits-split, bits-low}

pub fours-next : (left n : ℕ) → 0 < left → bits (4 * left) n ≡ bits 4 (four_at n (left - 1)) ++ bits (4 * (left - 1)) n
fours-next left n h =
    let more : 4 * left ≡ 4 + 4 * (left - 1) = omega arith in
    ap (λ (k : ℕ). bits k n) more ∙ bits-split 4 (4 * (left - 1)) n
    ∙ ap (λ (l : List ℕ). l ++ bits (4 * (left - 1)) n) (sym (bits-low 4 _))

pub fours-none : (left n : ℕ) → left ≡ 0 → bits (4 * left) n ≡ []
unfolding bits
fours-none left n e = ap (λ (k : ℕ). bits (4 * k) n) e
