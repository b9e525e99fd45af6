-- An answer in the document's numbers. Assumes nothing.
--     numbers-only    the document's numbers tell which answer it is, where they tell what is given
--     answer-only     so of a length
use mathlib.Core.Path.{◌≡◌, refl, sym, ap, ◌∙◌}
use Rattle.std.proofs.Common.{ℕ, Result, Ok, Err}
use Rattle.refusals.specs.declared.Refusal.{Refusal}
use Rattle.refusals.specs.Table.{Numbers, given, numbers, answer_numbers}
use Rattle.refusals.proofs.Table.{refusal-only, number-some}

pub numbers-only : {A : Type 0} (told : A → Numbers) → ((x : A) → (told x).refusal ≡ 0) → ((x y : A) → told x ≡ told y → x ≡ y)
    → (a b : Result A Refusal) → numbers told a ≡ numbers told b → a ≡ b
numbers-only told none only (Ok x) (Ok y) e = ap Ok (only x y e)
numbers-only told none only (Ok x) (Err r) e = absurd (number-some r (sym (none x) ∙ ap (λ (x : Numbers). x.refusal) e))
numbers-only told none only (Err r) (Ok y) e = absurd (number-some r (sym (none y) ∙ sym (ap (λ (x : Numbers). x.refusal) e)))
numbers-only told none only (Err r) (Err q) e = ap Err (refusal-only r q (ap (λ (x : Numbers). x.refusal) e) (ap (λ (x : Numbers). x.low) e))

pub answer-only : (a b : Result ℕ Refusal) → answer_numbers a ≡ answer_numbers b → a ≡ b
answer-only = numbers-only (λ n. given n 0) (λ n. refl) (λ m n e. ap (λ (x : Numbers). x.low) e)
