-- From a contract to the machine's run, by the toolchain's theorem on calls that meet theirs (denote.Triple.Adequate), at the closed model
-- of its logic. Assumes nothing.
--     running  the machine's runs, where each name means what an environment says
--     runs     a call that meets its contract wherever its code is, runs as `Runs` says wherever its code is
--     given    a call that runs, runs with its first parameter set to a number
--     ended    a call that runs and answers a number ends as `Ends` says, if what it leaves is what is wanted
use mathlib.Core.Path.{◌≡◌, refl, ap, subst, ◌∙◌}
use mathlib.Core.Logic.{∥∥₁_prop, ∥∥₁_elim, ∥∥₁_map}
use mathlib.Core.List.{List, [], ◌∷◌}
use Prim.Native.Nat.{ℕ, ◌<◌, ◌^◌}
use mir.Syntax.{Width}
use mir.Val.{Val, vint, bits}
use base.Logic.{ent, ex, emp, via, mono_l, fst∗, snd∗}
use prog.Memory.{Memory}
use prog.Machine.{done}
use prog.Routine.{Routine, Env, Callee, step}
use prog.Wired.{Code, Wired}
use ghost.Model.{𝓤, H}
use types.Logic.{sem}
use types.Kit.{‵, raw, ◌⊛◌, ◌$◌, ◌∵◌, !, qed, by, move, use1, split, fjoin, feq_i, flt_i, done as shown}
use contract.BorrowModel.{logic₀}
use contract.Lifetimes.{Lfts}
use contract.Monad.{fact, fact_i}
use contract.Running.{Running, tables, tables_of, within}
use contract.Closed.{model⁺, real⁺, real⁺_strict}
use contract.Adequate.{sat_weaken, sat_fact, sat_ex∗, sat_⇛}
use denote.Plain.{UInt}
use denote.RattleType.{owns}
use denote.Signature.{types_at}
use denote.Steps.{only, heard}
use denote.Triple.Entry.{alive}
use denote.Triple.Clauses.{at_exit}
use denote.Triple.Walked.{Fit}
use denote.Triple.Adequate.{adequate}
use borrow.Fn.Claims.{with_fact}
use borrow.Fn.Function.{known_of}
use borrow.Fn.Kinds.{ParamKind, ResultKind, In, Out, Dens, sig_of, slots, ended_of, stays, res_t, p_num, r_num}
use borrow.Fn.Plain.{Known}
use borrow.Fn.Run.{Over}
use borrow.Fn.World.{World}
use Rattle.demands.specs.Ends.{Ends}
use Rattle.demands.specs.Runs.{Assertion, ◌∗◌, ◌⊨◌, Call, values, Handed, Answer, Last, Left, Answered, Runs, RunsEverywhere}

infix 26 ◌⊢◌
abbrev pub ◌⊢◌ : Assertion → Assertion → Type 1
P ⊢ Q = ent 𝓤 P Q

-- ---- a contract that is met
module _ {n : ℕ} (ps : List (ParamKind n)) (r : ResultKind n) (Q : Out n ps r) (c : Call ps r) (answer : Answer ps r c) (last : Last ps r c) where
  -- what the contract says of an answer and of what was lent to write, and what stands beside it in the toolchain's theorem
  abbrev Said : Type 0
  Said = Fit (ended_of n ps r) (stays ps) c.0 c.3 last × Q c.0 c.3 answer (at_exit (ended_of n ps r) c.0 c.3 last)

  abbrev After : Val → Assertion
  After value = (Left ps r c last ∗ fact 𝓤 Said) ∗ Answered ps r c value answer

  learnt : (value : Val) → After value ⊢ fact 𝓤 (Said × r.is.Is c.0 answer (value ∷ []))
  learnt value =
      let Is : Type 0 = r.is.Is c.0 answer (value ∷ []) in
      qed logic₀ ((raw (Left ps r c last) ⊛ raw (fact 𝓤 Said))
      ∷ (raw (alive logic₀ (sig_of n ps r) c.0 c.1) ⊛ ‵ ((res_t r c.0).own_val answer (value ∷ []))) ∷ []) ∵
      split ! $ move ! (1 ∷ []) $ heard ! Said (λ said. move ! (1 ∷ []) $ split ! $ move ! (1 ∷ []) $
      use1 logic₀ (raw (fact 𝓤 Is)) ((r.laws _ 𝓤 logic₀).seen c.0 answer (value ∷ [])) $ heard ! Is (λ is.
      by ! (fact_i 𝓤 (Said × Is) _ (said, is))))

-- the machine's runs where a name means what an environment says, and the closed model with them
abbrev pub running : Env → Running 𝓤 H model⁺
running γ = within 𝓤 H model⁺ real⁺ γ

abbrev pub world : Env → World
world γ = record { M = _; 𝓤 = 𝓤; 𝓛 = logic₀; 𝓜 = model⁺; 𝓡 = running γ }

module _ {n : ℕ} {ps : List (ParamKind n)} {r : ResultKind n} {P : In n ps} {Q : Out n ps r} where
  known_runs : (γ : Env) (name : Callee) → Known logic₀ (Over logic₀ model⁺ (running γ) γ) n ps r P Q name → Runs ps r P Q (γ name)
  unfolding tables_of
  known_runs γ name known = record {
    ends = λ c p σ F s.
        ∥∥₁_elim (adequate 𝓤 H model⁺ (tables 𝓤 H model⁺ (running γ) γ) real⁺_strict name (known_of logic₀ n ps r P Q) known (c, tt) σ F
        (sat_weaken 𝓤 H model⁺ σ (mono_l 𝓤 F (with_fact 𝓤 (P c.0 c.3) (Handed ps r c) p)) s)) ∥∥₁_prop (λ e.
        let Behind : Answer ps r c → Last ps r c → Assertion = λ a l. After ps r Q c a l e.1 in
        ∥∥₁_elim (sat_ex∗ 𝓤 H model⁺ e.2 (λ a. ex 𝓤 (Behind a)) F (sat_⇛ 𝓤 H model⁺ e.2 _ F e.4)) ∥∥₁_prop (λ a.
        ∥∥₁_elim (sat_ex∗ 𝓤 H model⁺ e.2 (Behind a.0) F a.1) ∥∥₁_prop (λ l.
        let B : Assertion = Behind a.0 l.0 in
        let L : Assertion = Left ps r c l.0 in
        let S : Assertion = fact 𝓤 (Said ps r Q c a.0 l.0) in
        let left = sat_weaken 𝓤 H model⁺ e.2 (mono_l 𝓤 F (mono_l 𝓤 (Answered ps r c e.1 a.0) (fst∗ 𝓤 L S))) l.1 in
        ∥∥₁_map (sat_fact 𝓤 H model⁺ e.2 (B ∗ F) _ (via 𝓤 (B ∗ F) (snd∗ 𝓤 (model⁺.mem e.2) (B ∗ F))
        (via 𝓤 B (fst∗ 𝓤 B F) (learnt ps r Q c a.0 l.0 e.1))) l.1) (λ t.
        (e.0, e.1, e.2, a.0, l.0, e.3, t.1, t.0.1, left)))));
  }

  pub runs : {Met : World → Routine → Type 1} (code : Code) (name : Callee)
      → ((w : World) (γ : Env) (k : Callee) (ρ : Routine) → γ k ≡ ρ → Met w ρ → Known w.𝓛 (Over w.𝓛 w.𝓜 w.𝓡 γ) n ps r P Q k)
      → ((γ : Env) → Wired γ code → Met (world γ) (γ name)) → RunsEverywhere ps r P Q code name
  runs code name known met = λ γ wired. known_runs γ name (known (world γ) γ name (γ name) refl (met γ wired))

-- ---- a number given
abbrev pub after-number : Width → ℕ → Routine → Routine
after-number w m ρ = record { tree = λ fuel vs. ρ.tree fuel (vint w m ∷ vs); spreads = λ k j vs. ρ.spreads k j (vint w m ∷ vs) }

with_number : (w : Width) (m : ℕ) → m < 2 ^ bits w → (T R : Assertion) → T ∗ R ⊢ T ∗ sem logic₀ ((UInt w).own_val m (vint w m ∷ [])) ∗ R
with_number w m fits T R =
    qed logic₀ (raw T ∷ raw R ∷ []) ∵ flt_i ! m (2 ^ bits w) fits $ feq_i ! (List Val) (vint w m ∷ []) (vint w m ∷ []) refl $ fjoin ! $
    move ! (1 ∷ 0 ∷ 2 ∷ []) $ shown !

module _ {n : ℕ} {ps : List (ParamKind n)} {r : ResultKind n} {w : Width} {P : In n (p_num w ∷ ps)} {Q : Out n (p_num w ∷ ps) r} {ρ : Routine} where
  pub given : Runs (p_num w ∷ ps) r P Q ρ → (m : ℕ) → m < 2 ^ bits w
      → Runs ps r (λ κs i. P κs (m, i)) (λ κs i a s. Q κs (m, i) a (m, s)) (after-number w m ρ)
  given runs m fits = record {
    ends = λ c p σ F s.
        let T : Assertion = alive logic₀ (sig_of n ps r) c.0 c.1 in
        let R : Assertion = sem logic₀ (owns (types_at (slots ps) c.0) c.3 c.4) in
        ∥∥₁_map (runs.ends (c.0, c.1, c.2, (m, c.3), (vint w m ∷ [], c.4)) p σ F
        (sat_weaken 𝓤 H model⁺ σ (mono_l 𝓤 F (with_number w m fits T R)) s)) (λ e.
        let L : Assertion = Left ps r c e.4.1 in
        let left = sat_weaken 𝓤 H model⁺ e.2 (mono_l 𝓤 F (mono_l 𝓤 (Answered ps r c e.1 e.3) (snd∗ 𝓤 (emp 𝓤) L))) e.8 in
        (e.0, e.1, e.2, e.3, e.4.1, e.5, e.6, e.7, left));
  }

-- ---- a run that ends
module _ {n : ℕ} {ps : List (ParamKind n)} {w : Width} {P : In n ps} {Q : Out n ps (r_num w)} {ρ : Routine} where
  pub ended : Runs ps (r_num w) P Q ρ → ((κs : Lfts n) (i : Dens κs ps) → P κs i)
      → (c : Call ps (r_num w)) (answer : ℕ) (Leaves : Memory → Type 0) →
      let Says : ℕ → Last ps (r_num w) c → Type 0 = λ a last. Q c.0 c.3 a (at_exit (ended_of n ps (r_num w)) c.0 c.3 last) in
      (σ : Memory) (F : Assertion) → σ ⊨ Handed ps (r_num w) c ∗ F
      → ((a : ℕ) (last : Last ps (r_num w) c) → Says a last → a ≡ answer)
      → ((a : ℕ) (last : Last ps (r_num w) c) → Says a last → (v : Val) (σ' : Memory)
      → σ' ⊨ (Left ps (r_num w) c last ∗ Answered ps (r_num w) c v a) ∗ F → ∥ Leaves σ' ∥₁)
      → Ends ρ (values ps (r_num w) c) σ (vint w answer) Leaves
  ended runs every c answer Leaves σ F s answers leaves =
      ∥∥₁_elim (runs.ends c (every c.0 c.3) σ F s) ∥∥₁_prop (λ e.
      let is : e.1 ≡ vint w answer = ap only e.6.0 ∙ ap (vint w) (answers e.3 e.4 e.7) in
      ∥∥₁_map (leaves e.3 e.4 e.7 e.1 e.2 e.8) (λ left.
      (e.0, e.2, subst (λ (v : Val). step ρ e.0 (values ps (r_num w) c) σ ≡ done (v, e.2)) is e.5, left)))
