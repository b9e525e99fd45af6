-- What is said of every public call on the toolchain's machine, in the words of the toolchain's logic at its closed model: an assertion
-- speaks of memory and of who may read and write it, P ∗ Q of two separate parts, and σ ⊨ P says that P holds of the memory σ beside the
-- token that the one thread runs by. Assumes nothing. [7.8]
use Rattle.std.specs.Prelude.{◌≡◌, List, [], ◌∷◌, ℕ}
use mir.Val.{Val}
use base.Logic.{SProp, sep}
use prog.Memory.{Memory}
use prog.Machine.{done}
use prog.Routine.{Routine, Env, Callee, step}
use prog.Wired.{Code, Wired}
use ghost.Atoms.{Atoms}
use ghost.Model.{𝓤, H, model}
use types.Logic.{sem}
use contract.BorrowModel.{logic₀}
use contract.Closed.{model⁺}
use contract.Adequate.{Satisfies}
use denote.Triple.Bound.{Bound, passed}
use contract.Lifetimes.{Lfts, Shares}
use denote.Triple.Entry.{Args, Vals, on_entry}
use denote.Triple.Spec.{Back}
use denote.Triple.Clauses.{Lasts, at_exit, lasts}
use borrow.Fn.Kinds.{ParamKind, ResultKind, In, Out, sig_of, ended_of, res_t}

abbrev pub A : Atoms 𝓤
A = logic₀.A

abbrev pub Assertion : Type 2
Assertion = SProp 𝓤

infixr 35 ◌∗◌
abbrev pub ◌∗◌ : Assertion → Assertion → Assertion
P ∗ Q = sep 𝓤 P Q

infix 26 ◌⊨◌
abbrev pub ◌⊨◌ : Memory → Assertion → Type 1
σ ⊨ P = Satisfies 𝓤 H model⁺ σ P

-- P holds of the memory, with no token beside it
abbrev pub Has : Memory → Assertion → Type 1
Has σ P = Satisfies 𝓤 H model σ P

module _ {n : ℕ} (parameters : List (ParamKind n)) (result : ResultKind n) where
  -- a call: n lifetimes of what is lent, the shares of them, their bounds, the arguments, and the machine's values for these
  abbrev pub Call : Type 0
  Call = Bound logic₀ (sig_of n parameters result)

  abbrev pub values : Call → List Val
  values = passed logic₀ (sig_of n parameters result)

  -- what the call is handed: the lifetimes, and what the types of the parameters own
  abbrev pub Handed : Call → Assertion
  Handed c = on_entry logic₀ (sig_of n parameters result) c.0 c.1 c.3 c.4

  -- a call with these arguments is made: some memory has what it is handed, beside something
  abbrev pub Made : (κs : Lfts n) → Args (sig_of n parameters result) κs → Type 2
  Made κs i =
      (qs : Shares n) × (vs : Vals (sig_of n parameters result) κs) × (σ : Memory) × (Beside : Assertion)
      × Has σ (on_entry logic₀ (sig_of n parameters result) κs qs i vs ∗ Beside)

  abbrev pub Answer : Call → Type 0
  Answer c = (res_t result c.0).Denot

  -- what the parameters that are lent to write hold in the end
  abbrev pub Last : Call → Type 0
  Last c = Lasts (ended_of n parameters result) c.0 c.3

  -- what the call leaves: that they hold this; the lifetimes, and what the type of the answer owns
  abbrev pub Left : (c : Call) → Last c → Assertion
  Left c last = sem logic₀ (lasts (ended_of n parameters result) c.0 c.3 last)

  abbrev pub Answered : (c : Call) → Val → Answer c → Assertion
  Answered = Back logic₀ (sig_of n parameters result)

  -- from each memory that has what the call is handed, beside anything else, the run is done with fuel enough, its value stands for an
  -- answer that the contract allows, and what stood beside is as it was
  pub record Runs (Asked : In n parameters) (Learnt : Out n parameters result) (routine : Routine) : Type 2 where
    pub ends : (c : Call) → Asked c.0 c.3 → (σ : Memory) (Beside : Assertion) → σ ⊨ Handed c ∗ Beside
        → ∥ ((fuel : ℕ) × (value : Val) × (σ' : Memory) × (answer : Answer c) × (last : Last c)
        × (step routine fuel (values c) σ ≡ done (value, σ')) × result.is.Is c.0 answer (value ∷ [])
        × Learnt c.0 c.3 answer (at_exit (ended_of n parameters result) c.0 c.3 last)
        × (σ' ⊨ (Left c last ∗ Answered c value answer) ∗ Beside)) ∥₁

  -- the same of a function, by its code and its name: of what its name means in each environment that has its code and that of all that it
  -- calls. A program that has them is one
  abbrev pub RunsEverywhere : In n parameters → Out n parameters result → Code → Callee → Type 2
  RunsEverywhere Asked Learnt code name = (environment : Env) → Wired environment code → Runs Asked Learnt (environment name)
