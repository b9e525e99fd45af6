-- What a lent buffer holds after an answer. Assumes nothing.
--     refused-keeps      after a refusal, its old bytes
--     some-keeps         and so where the number of the refusal is not 0
--     accepted-result    on success, the result in front
--     accepted-behind    and behind it the old bytes
--     accepted-length    a buffer with room for the result stays as long as it was
use mathlib.Core.Path.{◌≡◌, sym}
use mathlib.Core.List.{List}
use Prim.Native.Nat.{ℕ, ◌≤◌, ◌<◌}
use native.Mathlib.Omega.{arith}
use lib.ListN.{length, take, drop, length-append, length-drop}
use lib.Seq.{take-append_seam, drop-append_seam}
use borrow.Author.Tests.{ne_eqb}
use Rattle.refusals.specs.After.{after}
use Rattle.refusals.specs.Table.{Numbers, given, in_table}
use Rattle.refusals.specs.declared.Refusal.{Refusal}
use Rattle.refusals.proofs.Table.{number-some}

module _ (result old : List ℕ) where
  other : (x : Numbers) → (x.refusal ≡ 0 → ⊥) → after x result old ≡ old
  other x some = simp (ne_eqb x.refusal 0 some)

  pub some-keeps : (x : Numbers) → 0 < x.refusal → after x result old ≡ old
  some-keeps x some = other x (λ e. omega arith)

  pub refused-keeps : (r : Refusal) → after (in_table r) result old ≡ old
  refused-keeps r = other (in_table r) (λ e. number-some r (sym e))

  pub accepted-result : (n more : ℕ) → take (length result) (after (given n more) result old) ≡ result
  accepted-result n more = take-append_seam result _

  pub accepted-behind : (n more : ℕ) → drop (length result) (after (given n more) result old) ≡ drop (length result) old
  accepted-behind n more = drop-append_seam result _

  pub accepted-length : (n more : ℕ) → length result ≤ length old → length (after (given n more) result old) ≡ length old
  accepted-length n more h = simp (length-append, length-drop) (omega arith)
