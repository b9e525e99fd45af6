-- The general law: a contract that gives the answer, and what a lent buffer then holds, as functions of the inputs allows one
-- outcome. Assumes nothing.
--     settled         of a call that is lent no buffer to write
--     settled-with    of one that is
use mathlib.Core.Path.{◌≡◌, sym, ap, ◌∙◌}
use mathlib.Core.List.{List}
use Prim.Native.Nat.{ℕ, ◌<◌}
use Rattle.demands.specs.Settled.{Settled, SettledWith}

module _ {Inputs Answers Exit : Type 0} {allows : Inputs → Answers → Exit → Type 0} {answer : Inputs → Answers} where
  same_answer : ((i : Inputs) (a : Answers) (s : Exit) → allows i a s → a ≡ answer i)
      → (i : Inputs) (a b : Answers) (s t : Exit) → allows i a s → allows i b t → a ≡ b
  same_answer says i a b s t p q = says i a s p ∙ sym (says i b t q)

  pub settled : {asks : Inputs → Type 0} → ((i : Inputs) → asks i)
      → ((i : Inputs) (a : Answers) (s : Exit) → allows i a s → a ≡ answer i) → Settled asks allows
  settled every says = record { every-input = every; one_answer = same_answer says }

  pub settled-with : {asks : Inputs → Type 0} {refusal : Answers → ℕ} {held : Inputs → List ℕ} {holds : Exit → List ℕ}
      {left : Inputs → Answers → List ℕ}
      → ((i : Inputs) → asks i)
      → ((i : Inputs) (a : Answers) (s : Exit) → allows i a s → (a ≡ answer i) × (holds s ≡ left i a))
      → ((i : Inputs) (a : Answers) → a ≡ answer i → 0 < refusal a → left i a ≡ held i)
      → SettledWith asks allows refusal held holds
  settled-with {asks} {refusal} {held} {holds} {left} every says keeps =
      record {
        every-input = every;
        one_answer = same;
        one-content =
            λ i a b s t p q. (says i a s p).1 ∙ ap (left i) (same i a b s t p q) ∙ sym (says i b t q).1;
        old-bytes = λ i a s p refused. (says i a s p).1 ∙ keeps i a (says i a s p).0 refused;
      }
    where
      same : (i : Inputs) (a b : Answers) (s t : Exit) → allows i a s → allows i b t → a ≡ b
      same = same_answer (λ i a s p. (says i a s p).0)
