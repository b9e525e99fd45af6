-- Bytes in blocks of their own beside a memory, lent to a call and read again after it: from a run in the words of the toolchain's logic
-- (`Runs`) to one without them (`Ends`). Assumes nothing.
--     ends-alone      a call that is lent nothing
--     ends-reading    one that is lent bytes to read
--     ends-writing    one that is lent bytes to read and bytes to write
use mathlib.Core.Path.{◌≡◌, subst}
use mathlib.Core.Logic.{∥∥₁_prop, ∥∥₁_elim, ∥∥₁_map}
use mathlib.Core.List.{List, [], ◌∷◌}
use Prim.Native.Nat.{ℕ}
use native.Mathlib.Omega.{arith}
use seplogic.Bi.Sat
use lib.ListN.{length}
use mir.Syntax.{Width, w8}
use mir.Val.{Val, vint}
use base.Logic.{ex, emp, via, mono_l, mono_r, assoc∗, assoc', comm∗, fst∗, emp∗, upd, upd_mono, upd_frame}
use base.Fml.{GName}
use prog.Memory.{Memory}
use prog.Routine.{Routine}
use prog.Model.{AllFit}
use prog.AdequacyRun.{Holds, run_adq}
use store.Cells.{mem_h}
use store.Instance as instance
use store.Instance.{heap×, model×, ι×}
use store.Typed as typed
use store.Typed.{block_run}
use ghost.Frac.{World²}
use ghost.World.{⟦◌⟧}
use ghost.Model.{𝓤, 𝓖, H, A, model, setup}
use contract.Lifetimes.{Lfts}
use contract.Monad.{fact, fact_i}
use base.Mask.{every}
use contract.Beside.{turn}
use contract.Closed.{model⁺, any_memory⁺}
use contract.Adequate.{Satisfies, sat_weaken, sat_upd, sat_fact, sat_ex, sat_⇛}
use denote.Builtin.{u8}
use denote.Slice.{Room}
use denote.Triple.Clauses.{AtExit}
use borrow.Fn.Kinds.{ParamKind, In, Out, Dens, ended_of, r_num}
use Rattle.bits.specs.Below.{Below}
use Rattle.demands.specs.Ends.{Lendable, beside, slice, Ends}
use Rattle.demands.specs.Runs.{Assertion, ◌∗◌, ◌⊨◌, Runs}
use Rattle.demands.proofs.Running.{◌⊢◌, ended}
use Rattle.demands.proofs.Lending.{Bytes, to_read, to_write, one_slice, call_one, KeptOne, LentOne, lends_one, back_one, two_slices, call_two, KeptTwo, LentTwo, lends-two, back-two}

weaken : (σ : Memory) {P Q : Assertion} → P ⊢ Q → σ ⊨ P → σ ⊨ Q
weaken σ h s = sat_weaken 𝓤 H model⁺ σ h s

with_none : (P : Assertion) → P ⊢ P ∗ emp 𝓤
with_none P = via 𝓤 (emp 𝓤 ∗ P) (emp∗ 𝓤 P) (comm∗ 𝓤 (emp 𝓤) P)

-- an update changes nothing in memory
updated : (σ : Memory) (P Q : Assertion) → P ⊢ H.⇛ Q → σ ⊨ P → σ ⊨ Q
updated σ P Q h s =
    weaken σ (fst∗ 𝓤 Q (emp 𝓤)) (sat_⇛ 𝓤 H model⁺ σ Q (emp 𝓤) (weaken σ (via 𝓤 (H.⇛ Q) h (with_none (H.⇛ Q))) s))

-- ---- a block beside a memory
none_owned : (σ : Memory) → σ ⊨ emp 𝓤
unfolding Satisfies
none_owned σ = Sat.mono 𝓤.op (with_none (model⁺.mem σ)) (any_memory⁺ σ)

framed : (N R F : Assertion) → upd 𝓤 (N ∗ R) ∗ F ⊢ upd 𝓤 (N ∗ R ∗ F)
framed N R F = via 𝓤 (upd 𝓤 ((N ∗ R) ∗ F)) (upd_frame 𝓤 (N ∗ R) F) (upd_mono 𝓤 (assoc∗ 𝓤 N R F))

block : (σ : Memory) (xs : List ℕ) → AllFit w8 xs → model.mem σ ⊢ upd 𝓤 (model.mem (beside σ xs) ∗ Bytes (length σ) xs)
unfolding model H model× instance.model heap× typed.mem
block σ xs fits =
    let G : Assertion = World² 𝓤 setup in
    let N : Assertion = mem_h 𝓤 (ι× 𝓖) (beside σ xs) in
    let R : Assertion = Bytes (length σ) xs in
    via 𝓤 (upd 𝓤 (N ∗ R) ∗ G) (mono_l 𝓤 G (block_run 𝓤 (ι× 𝓖) G (⟦◌⟧ 𝓤 setup) σ xs fits))
    (via 𝓤 (upd 𝓤 (N ∗ R ∗ G)) (framed N R G) (upd_mono 𝓤 (via 𝓤 (N ∗ G ∗ R) (mono_r 𝓤 N (comm∗ 𝓤 R G)) (assoc' 𝓤 N G R))))

-- the same with the thread's token, which stands beside the memory of the closed model
block⁺ : (σ : Memory) (xs : List ℕ) → AllFit w8 xs → model⁺.mem σ ⊢ upd 𝓤 (model⁺.mem (beside σ xs) ∗ Bytes (length σ) xs)
unfolding model⁺
block⁺ σ xs fits =
    let N : Assertion = model.mem (beside σ xs) in
    let R : Assertion = Bytes (length σ) xs in
    let T : Assertion = A.tok every in
    via 𝓤 (upd 𝓤 (N ∗ R) ∗ T) (mono_l 𝓤 T (block σ xs fits))
    (via 𝓤 (upd 𝓤 ((N ∗ R) ∗ T)) (upd_frame 𝓤 (N ∗ R) T) (upd_mono 𝓤 (turn 𝓤 H N R T)))

fit : (xs : List ℕ) → Below 256 xs → AllFit w8 xs
fit [] bytes = tt
fit (x ∷ xs) bytes = (record { fits = bytes.0 }, fit xs bytes.1)

made : (σ : Memory) (xs : List ℕ) (F : Assertion) → Lendable xs → σ ⊨ F → beside σ xs ⊨ Bytes (length σ) xs ∗ F
made σ xs F lendable =
    let N : Assertion = model⁺.mem (beside σ xs) in
    let R : Assertion = Bytes (length σ) xs in
    sat_upd 𝓤 H model⁺ σ (beside σ xs) F (R ∗ F)
    (via 𝓤 (upd 𝓤 (N ∗ R) ∗ F) (mono_l 𝓤 F (block⁺ σ xs (fit xs lendable.0))) (framed N R F))

-- bytes that are owned stand in memory
there : (σ : Memory) (b : ℕ) (xs : List ℕ) (F : Assertion) → σ ⊨ Bytes b xs ∗ F → ∥ Holds σ b 0 xs ∥₁
there σ b xs F = sat_fact 𝓤 H model⁺ σ (Bytes b xs ∗ F) (Holds σ b 0 xs)
    (run_adq 𝓤 H model⁺ σ b xs 0 F (fact 𝓤 (Holds σ b 0 xs)) (λ h f. fact_i 𝓤 (Holds σ b 0 xs) (model⁺.mem σ ∗ F) h))

-- the logic asks that the count fits 64 bits and the bytes 63
room : (xs : List ℕ) → Lendable xs → Room u8 (length xs)
room xs lendable = (omega (arith, lendable.1), omega (arith, lendable.1))

-- ---- the calls
ends-prop : (ρ : Routine) (vs : List Val) (σ : Memory) (answer : Val) (Leaves : Memory → Type 0) → IsProp (Ends ρ vs σ answer Leaves)
ends-prop ρ vs σ answer Leaves = ∥∥₁_prop

abbrev pub alone : List (ParamKind 0)
alone = []

module _ {w : Width} {P : In 0 alone} {Q : Out 0 alone (r_num w)} {ρ : Routine} where
  pub ends-alone : Runs alone (r_num w) P Q ρ → P tt tt → (σ : Memory) {answer : ℕ} → ((a : ℕ) → Q tt tt a tt → a ≡ answer)
      → Ends ρ [] σ (vint w answer) (λ σ'. Unit {0})
  ends-alone runs every σ {answer} says =
      ended runs (λ κs i. every) (tt, tt, tt, tt, tt) answer (λ σ'. Unit {0}) σ (emp 𝓤)
      (weaken σ (via 𝓤 (emp 𝓤 ∗ emp 𝓤) (with_none (emp 𝓤)) (with_none (emp 𝓤 ∗ emp 𝓤))) (none_owned σ))
      (λ a last told. says a told) (λ a last told v σ' s. ∣ tt ∣₁)

module _ {w : Width} {P : In 1 one_slice} {Q : Out 1 one_slice (r_num w)} {ρ : Routine} where
  pub ends-reading : Runs one_slice (r_num w) P Q ρ → ((κs : Lfts 1) (i : Dens κs one_slice) → P κs i)
      → (σ : Memory) (xs : List ℕ) → Lendable xs → {answer : ℕ}
      → ((κs : Lfts 1) (a : ℕ) (s : AtExit (ended_of 1 one_slice (r_num w)) κs) → Q κs (to_read (length σ) xs, tt) a s → a ≡ answer)
      → Ends ρ (slice σ xs ∷ []) (beside σ xs) (vint w answer) (λ σ'. Holds σ' (length σ) 0 xs)
  ends-reading runs every σ xs lendable {answer} says =
      let b : ℕ = length σ in
      let σ₁ : Memory = beside σ xs in
      ∥∥₁_elim (sat_ex 𝓤 H model⁺ σ₁ (LentOne w b xs) (updated σ₁ (Bytes b xs) (ex 𝓤 (LentOne w b xs)) (lends_one w b xs (room xs lendable))
      (weaken σ₁ (fst∗ 𝓤 (Bytes b xs) (emp 𝓤)) (made σ xs (emp 𝓤) lendable (none_owned σ))))) (ends-prop ρ (slice σ xs ∷ []) σ₁ (vint w answer) (λ σ'. Holds σ' b 0 xs)) (λ p.
      ended runs every (call_one w b xs p.0) answer (λ σ'. Holds σ' b 0 xs) σ₁ (KeptOne w b xs p.0) p.1
      (λ a last told. says _ a _ told) (λ a last told v σ' s.
      there σ' b xs (emp 𝓤) (weaken σ' (with_none (Bytes b xs)) (updated σ' _ (Bytes b xs) (back_one w b xs p.0 v a last) s))))

module _ {w : Width} {P : In 2 two_slices} {Q : Out 2 two_slices (r_num w)} {ρ : Routine} where
  pub ends-writing : Runs two_slices (r_num w) P Q ρ → ((κs : Lfts 2) (i : Dens κs two_slices) → P κs i)
      → (σ : Memory) (xs ys : List ℕ) → Lendable xs → Lendable ys → {answer : ℕ} {zs : List ℕ}
      → ((κs : Lfts 2) (δ : GName) (a : ℕ) (s : AtExit (ended_of 2 two_slices (r_num w)) κs)
      → Q κs (to_read (length σ) xs, (to_write (length (beside σ xs)) δ ys, tt)) a s → (a ≡ answer) × (s.1.0.now ≡ zs))
      → Ends ρ (slice σ xs ∷ slice (beside σ xs) ys ∷ []) (beside (beside σ xs) ys) (vint w answer)
      (λ σ'. Holds σ' (length σ) 0 xs × Holds σ' (length (beside σ xs)) 0 zs)
  ends-writing runs every σ xs ys lendable-xs lendable-ys {answer} {zs} says =
      let b : ℕ = length σ in
      let d : ℕ = length (beside σ xs) in
      let σ₂ : Memory = beside (beside σ xs) ys in
      ∥∥₁_elim (sat_ex 𝓤 H model⁺ σ₂ (LentTwo w b d xs ys)
      (updated σ₂ (Bytes d ys ∗ Bytes b xs) (ex 𝓤 (LentTwo w b d xs ys)) (lends-two w b d xs ys (room xs lendable-xs) (room ys lendable-ys))
      (weaken σ₂ (mono_r 𝓤 (Bytes d ys) (fst∗ 𝓤 (Bytes b xs) (emp 𝓤)))
      (made (beside σ xs) ys (Bytes b xs ∗ emp 𝓤) lendable-ys (made σ xs (emp 𝓤) lendable-xs (none_owned σ))))))
      (ends-prop ρ (slice σ xs ∷ slice (beside σ xs) ys ∷ []) σ₂ (vint w answer) (λ σ'. Holds σ' b 0 xs × Holds σ' d 0 zs)) (λ p.
      ended runs every (call_two w b d xs ys p.0) answer (λ σ'. Holds σ' b 0 xs × Holds σ' d 0 zs) σ₂ (KeptTwo w b d xs ys p.0) p.1
      (λ a last told. (says _ _ a _ told).0) (λ a last told v σ' s.
      let ws : List ℕ = last.1.0 in
      let left : σ' ⊨ Bytes b xs ∗ Bytes d ws = updated σ' _ (Bytes b xs ∗ Bytes d ws) (back-two w b d xs ys p.0 v a last) s in
      ∥∥₁_elim (there σ' b xs (Bytes d ws) left) ∥∥₁_prop (λ old.
      ∥∥₁_map (there σ' d ws (Bytes b xs) (weaken σ' (comm∗ 𝓤 (Bytes b xs) (Bytes d ws)) left)) (λ new.
      (old, subst (Holds σ' d 0) (says _ _ a _ told).1 new)))))
