-- Bytes that are lent to a call are bytes: a contract speaks of lists of numbers, and in every call that is made (`Made`) the numbers lent
-- to read are below 256. Assumes nothing.
--     bytes-lent       of a `&[u8]` and the token of its lifetime
--     encode-bytes, decode-bytes, make-frame-bytes, frame-length-bytes, read-line-bytes, read-own-line-bytes    of the calls for C
use mathlib.Core.List.{List, [], ◌∷◌}
use mathlib.Core.HLevel.{Unit-prop, ×_prop}
use mathlib.Core.Logic.{∥∥₁_elim}
use Prim.Native.Nat.{ℕ, suc}
use native.Mathlib.Bridge.{le_prop}
use base.Logic.{ent, guard, via, mono∗, mono_l, mono_r, comm∗, fst∗, snd∗}
use base.Fml.{Lft, Share}
use mir.Syntax.{Lifetime, named, w8, w32}
use mir.Val.{Val}
use prog.Memory.{Memory}
use ghost.Model.{𝓤, H, model}
use types.Logic.{sem}
use types.Kit.{‵, ◌$◌, ◌∵◌, !, qed, fsplit, fjoin, drop as let_go, done as shown}
use contract.BorrowModel.{logic₀}
use contract.Lifetimes.{Lfts, Shares, toks}
use contract.Monad.{guard→fact}
use contract.Adequate.{sat_weaken, sat_fact, sat_⇛}
use denote.Builtin.{u8}
use denote.Ref.{Bor}
use denote.RattleType.{RattleType, Denots, Valss, owns}
use denote.Plain.{UInt}
use denote.Slice.{ShrSlice, MutSlice}
use borrow.Rule.Slice.Know.{AllWt, shs_known}
use borrow.Rule.Slice.Shared.{OwnH}
use borrow.Table.Referent.{f_int}
use Rattle.bits.specs.Below.{Below}
use Rattle.demands.specs.Runs.{A, Assertion, ◌∗◌, Has, Made}
use Rattle.prushgoli.proofs.prushgoli_encode.Kinds as encode
use Rattle.prushgoli.proofs.prushgoli_decode.Kinds as decode
use Rattle.prushgoli.proofs.prushgoli_make_frame.Kinds as make-frame
use Rattle.prushgoli.proofs.prushgoli_frame_length.Kinds as frame-length
use Rattle.prushgoli.proofs.prushgoli_read_line.Kinds as read-line
use Rattle.prushgoli.proofs.prushgoli_read_own_line.Kinds as read-own-line

-- ---- the closed model

infix 26 ◌⊢◌
abbrev ◌⊢◌ : Assertion → Assertion → Type 1
P ⊢ Q = ent 𝓤 P Q

below-prop : (b : ℕ) (l : List ℕ) → IsProp (Below b l)
below-prop b [] = Unit-prop
below-prop b (x ∷ l) = ×_prop le_prop (below-prop b l)

below : (l : List ℕ) → AllWt (f_int w8) l → Below 256 l
below [] h = tt
below (x ∷ l) h = (h.0.fits, below l h.1)

-- what a `&[u8]` owns, and the token of its lifetime
module _ (ℓ : Lifetime) (κ : Lft) (q : Share) (x : Bor (List ℕ)) (vs : List Val) where
  abbrev Slice : Assertion
  Slice = sem logic₀ ((ShrSlice ℓ κ u8).own_val x vs)

  abbrev Token : Assertion
  Token = A.lft κ q

  abbrev Within : Assertion
  Within = sem logic₀ (OwnH logic₀ (f_int w8) κ q x.ref_ptr.0 x.ref_ptr.1 x.now)

  forget : Slice ⊢ Within
  forget = qed logic₀ (‵ ((ShrSlice ℓ κ u8).own_val x vs) ∷ []) ∵ fsplit ! $ fsplit ! $ let_go ! $ fjoin ! $ shown !

  pub bytes-lent : (σ : Memory) (F : Assertion) → Has σ ((Slice ∗ Token) ∗ F) → Below 256 x.now
  bytes-lent σ F s =
      let xs : List ℕ = x.now in
      let held : Assertion = guard 𝓤 (AllWt (f_int w8) xs) (Within ∗ Token) in
      let known : Slice ∗ Token ⊢ H.⇛ held
      = via 𝓤 (Within ∗ Token) (mono_l 𝓤 Token forget) (shs_known logic₀ (f_int w8) κ q x.ref_ptr.0 x.ref_ptr.1 xs) in
      ∥∥₁_elim
      (sat_fact 𝓤 H model σ (held ∗ F) (AllWt (f_int w8) xs)
      (via 𝓤 (held ∗ F) (snd∗ 𝓤 (model.mem σ) (held ∗ F))
      (via 𝓤 held (fst∗ 𝓤 held F) (guard→fact 𝓤 (AllWt (f_int w8) xs) (Within ∗ Token))))
      (sat_⇛ 𝓤 H model σ held F (sat_weaken 𝓤 H model σ (mono_l 𝓤 F known) s)))
      (below-prop 256 xs) (below xs)

-- ---- as the first parameter of a call, and as the second: out of all that there is on entry

module _ (n : ℕ) (κs : Lfts (suc n)) (qs : Shares (suc n)) (Ts : List RattleType) where
  abbrev Bytes : RattleType
  Bytes = ShrSlice (named 0) κs.0 u8

  abbrev Tokens : Assertion
  Tokens = toks logic₀ (suc n) κs qs

  abbrev All : (Us : List RattleType) → Denots Us → Valss Us → Assertion
  All Us i vs = sem logic₀ (owns Us i vs)

  first-bytes : (i : Denots (Bytes ∷ Ts)) (vs : Valss (Bytes ∷ Ts)) (σ : Memory) (F : Assertion) → Has σ ((Tokens ∗ All (Bytes ∷ Ts) i vs) ∗ F)
      → Below 256 i.0.now
  first-bytes i vs σ F s =
      let T : Assertion = A.lft κs.0 qs.0 in
      let S : Assertion = sem logic₀ (Bytes.own_val i.0 vs.0) in
      let here : Tokens ∗ All (Bytes ∷ Ts) i vs ⊢ S ∗ T
      = via 𝓤 (T ∗ S) (mono∗ 𝓤 (fst∗ 𝓤 T (toks logic₀ n κs.1 qs.1)) (fst∗ 𝓤 S (All Ts i.1 vs.1))) (comm∗ 𝓤 T S) in
      bytes-lent (named 0) κs.0 qs.0 i.0 vs.0 σ F (sat_weaken 𝓤 H model σ (mono_l 𝓤 F here) s)

  second-bytes : (U : RattleType) (i : Denots (U ∷ Bytes ∷ Ts)) (vs : Valss (U ∷ Bytes ∷ Ts)) (σ : Memory) (F : Assertion)
      → Has σ ((Tokens ∗ All (U ∷ Bytes ∷ Ts) i vs) ∗ F) → Below 256 i.1.0.now
  second-bytes U i vs σ F s =
      first-bytes i.1 vs.1 σ F
      (sat_weaken 𝓤 H model σ (mono_l 𝓤 F (mono_r 𝓤 Tokens (snd∗ 𝓤 (sem logic₀ (U.own_val i.0 vs.0)) (All (Bytes ∷ Ts) i.1 vs.1)))) s)

-- ---- at the calls for C

pub encode-bytes : (κs : Lfts 2) (i : _) → Made encode.ps encode.r κs i → Below 256 i.0.now
encode-bytes κs i (qs, vs, σ, F, s) = first-bytes 1 κs qs (MutSlice (named 1) κs.1.0 u8 ∷ []) i vs σ F s

pub decode-bytes : (κs : Lfts 2) (i : _) → Made decode.ps decode.r κs i → Below 256 i.0.now
decode-bytes κs i (qs, vs, σ, F, s) = first-bytes 1 κs qs (MutSlice (named 1) κs.1.0 u8 ∷ []) i vs σ F s

pub make-frame-bytes : (κs : Lfts 2) (i : _) → Made make-frame.ps make-frame.r κs i → Below 256 i.1.0.now
make-frame-bytes κs i (qs, vs, σ, F, s) = second-bytes 1 κs qs (MutSlice (named 1) κs.1.0 u8 ∷ []) (UInt w32) i vs σ F s

pub frame-length-bytes : (κs : Lfts 1) (i : _) → Made frame-length.ps frame-length.r κs i → Below 256 i.1.0.now
frame-length-bytes κs i (qs, vs, σ, F, s) = second-bytes 0 κs qs [] (UInt w32) i vs σ F s

pub read-line-bytes : (κs : Lfts 2) (i : _) → Made read-line.ps read-line.r κs i → Below 256 i.0.now
read-line-bytes κs i (qs, vs, σ, F, s) = first-bytes 1 κs qs (MutSlice (named 1) κs.1.0 u8 ∷ []) i vs σ F s

pub read-own-line-bytes : (κs : Lfts 2) (i : _) → Made read-own-line.ps read-own-line.r κs i → Below 256 i.0.now
read-own-line-bytes κs i (qs, vs, σ, F, s) = first-bytes 1 κs qs (MutSlice (named 1) κs.1.0 u8 ∷ []) i vs σ F s
