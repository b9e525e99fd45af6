-- What is shown of each call: its contract asks nothing of the inputs and leaves nothing of the outcome open. `asks` is what the
-- contract asks, `allows` what it says of answer and memory, both as the toolchain reads them out of its clauses. Assumes nothing.
use Rattle.std.specs.Prelude.{◌≡◌, List, ℕ, ◌<◌}

-- of a contract that asks and allows this [7.2, 7.7]
module _ {Inputs Answers Exit : Type 0} (asks : Inputs → Type 0) (allows : Inputs → Answers → Exit → Type 0) where
  -- of a call that is lent no buffer to write
  pub record Settled : Type 0 where
    pub every-input : (i : Inputs) → asks i
    pub one_answer : (i : Inputs) (a b : Answers) (s t : Exit) → allows i a s → allows i b t → a ≡ b

  -- of a call that is lent one: the number of the refusal that an answer is, what the buffer held before the call and holds after it
  pub record SettledWith (refusal : Answers → ℕ) (held : Inputs → List ℕ) (holds : Exit → List ℕ) : Type 0 where
    pub every-input : (i : Inputs) → asks i
    pub one_answer : (i : Inputs) (a b : Answers) (s t : Exit) → allows i a s → allows i b t → a ≡ b
    pub one-content : (i : Inputs) (a b : Answers) (s t : Exit) → allows i a s → allows i b t → holds s ≡ holds t
    pub old-bytes : (i : Inputs) (a : Answers) (s : Exit) → allows i a s → 0 < refusal a → holds s ≡ held i
