-- Bytes of a block, lent to a call as slices and taken back after it, in the words of the toolchain's logic. Assumes nothing.
--     lends_one, back_one    one slice, to read: (&[u8])
--     lends-two, back-two    two slices, one to read and one to write: (&[u8], &mut [u8])
use mathlib.Core.Path.{refl}
use mathlib.Core.List.{List, [], ◌∷◌}
use Prim.Native.Nat.{ℕ, ◌+◌}
use base.Fraction.{full_share}
use lib.ListN.{length}
use mir.Syntax.{Width, named, w8}
use mir.Val.{Val}
use base.Logic.{ex, emp, id⊢, mono∗}
use base.Fml.{Fml, GName, Incl-refl, ftrue, fsep, feq, flft, flent, fbor}
use prog.Wp.{run}
use ghost.Model.{𝓤, H}
use types.Logic.{sem}
use contract.BorrowModel.{logic₀}
use types.Kit.{‵, raw, ◌⊛◌, some, later, ◌$◌, ◌∵◌, !, qed, by, move, keep, use1, use2, use3, split, split3, join, pick, fjoin, fsplit, fsplit3, feq_i, await, updating, show, now as at_once, done as shown}
use types.Tokens.{lft_new, lft_end, lent_back}
use types.SemTy.{cells, Arr}
use types.Share.{parts, arr_parts}
use denote.Builtin.{u8}
use denote.Copied.{uint_Copied}
use denote.Memory.{mem, shares}
use denote.Plain.{UInt, uint_in, uint_out}
use denote.Ref.{Bor, MutBor}
use denote.Slice.{MutSlice, ShrSlice, Room, finally, slice_val}
use denote.Lend.{Held, lends_slice, slice_back, lends_shr_slice}
use denote.Steps.{nothing}
use borrow.Fn.Kinds.{ParamKind, r_num}
use borrow.Kind.MutSlice.{p_mut_s}
use borrow.Kind.ShrSlice.{p_shr_s}
use borrow.Table.Referent.{rt_f, f_int}
use Rattle.demands.specs.Runs.{Assertion, ◌∗◌, Call, Handed, Last, Left, Answered}
use Rattle.demands.proofs.Running.{◌⊢◌}

-- the bytes of block b, from its first cell on
abbrev pub Bytes : ℕ → List ℕ → Assertion
Bytes b xs = run 𝓤 H full_share w8 b 0 xs

-- the same bytes as the logic has them in a slice to write, and in one to read
module _ (b : ℕ) where
  cells_in : (xs : List ℕ) (o : ℕ) → run 𝓤 H full_share w8 b o xs ⊢ sem logic₀ (cells (mem u8) xs b o)
  cells_in [] o = id⊢ 𝓤 (emp 𝓤)
  cells_in (x ∷ xs) o = mono∗ 𝓤 (uint_in logic₀ full_share w8 x b o) (cells_in xs (o + 1))

  cells_out : (xs : List ℕ) (o : ℕ) → sem logic₀ (cells (mem u8) xs b o) ⊢ run 𝓤 H full_share w8 b o xs
  cells_out [] o = id⊢ 𝓤 (emp 𝓤)
  cells_out (x ∷ xs) o = mono∗ 𝓤 (uint_out logic₀ full_share w8 x b o) (cells_out xs (o + 1))

  parts_in : (xs : List ℕ) (o : ℕ) → run 𝓤 H full_share w8 b o xs ⊢ sem logic₀ (parts (mem u8) (shares u8) full_share xs b o)
  parts_in [] o = id⊢ 𝓤 (emp 𝓤)
  parts_in (x ∷ xs) o = mono∗ 𝓤 (uint_in logic₀ full_share w8 x b o) (parts_in xs (o + 1))

  parts_out : (xs : List ℕ) (o : ℕ) → sem logic₀ (parts (mem u8) (shares u8) full_share xs b o) ⊢ run 𝓤 H full_share w8 b o xs
  parts_out [] o = id⊢ 𝓤 (emp 𝓤)
  parts_out (x ∷ xs) o = mono∗ 𝓤 (uint_out logic₀ full_share w8 x b o) (parts_out xs (o + 1))

-- ---- one slice: its lifetime, what it owns, and what its lender keeps. A slice to write has a name besides, under which its bytes are tracked
abbrev pub to_read : ℕ → List ℕ → Bor (List ℕ)
to_read b xs = record { ref_ptr = (b, 0); now = xs }

abbrev pub to_write : ℕ → GName → List ℕ → MutBor (List ℕ)
to_write b γ xs = record { ref_ptr = (b, 0); ghost_name = γ; now = xs }

abbrev Lifetime : ℕ → Fml
Lifetime α = flft (α ∷ []) full_share

module _ (b : ℕ) (xs : List ℕ) where
  abbrev value : List Val
  value = slice_val (b, 0) (length xs) ∷ []

  abbrev ToRead : ℕ → Fml
  ToRead α = (ShrSlice (named 0) (α ∷ []) u8).own_val (to_read b xs) value

  abbrev ToWrite : ℕ × GName → Fml
  ToWrite p = (MutSlice (named 1) (p.0 ∷ []) u8).own_val (to_write b p.1 xs) value

  abbrev KeptToRead : ℕ → Fml
  KeptToRead α = flent (α ∷ []) ((arr_parts (shares u8) (length xs)).part full_share xs b 0)

  abbrev KeptToWrite : ℕ × GName → Fml
  KeptToWrite p = flent (p.0 ∷ []) (Held u8 (length xs) b 0 p.1)

  abbrev LentToRead : ℕ → Fml
  LentToRead α = fsep (Lifetime α) (fsep (ToRead α) (KeptToRead α))

  abbrev LentToWrite : ℕ × GName → Fml
  LentToWrite p = fsep (Lifetime p.0) (fsep (ToWrite p) (KeptToWrite p))

  lend-to-read : Room u8 (length xs) → Bytes b xs ⊢ H.⇛ (ex 𝓤 (λ α. sem logic₀ (LentToRead α)))
  lend-to-read room =
      qed logic₀ (raw (Bytes b xs) ∷ []) ∵ updating ! $ use1 logic₀ (‵ (parts (mem u8) (shares u8) full_share xs b 0)) (parts_in b xs 0) $
      feq_i ! ℕ (length xs) (length xs) refl $ fjoin ! $ lft_new ! tt (λ α. move ! (1 ∷ 0 ∷ []) $
      use2 logic₀ (later ((‵ (ToRead α) ⊛ ‵ (KeptToRead α)) ⊛ ‵ (Lifetime α)))
      (lends_shr_slice logic₀ u8 (named 0) (α ∷ []) full_share xs b 0 room (α ∷ []) ((uint_Copied logic₀ w8).shares full_share (α ∷ []))
      ((α ∷ [], full_share) ∷ []) (Incl-refl (α ∷ [])) (Incl-refl (α ∷ []))) $
      await ! tt $ split ! $ split ! $ at_once ! $ show ! (λ α'. sem logic₀ (LentToRead α')) α $ move ! (2 ∷ 0 ∷ 1 ∷ []) $ shown !)

  lend-to-write : Room u8 (length xs) → Bytes b xs ⊢ H.⇛ (ex 𝓤 (λ p. sem logic₀ (LentToWrite p)))
  lend-to-write room =
      qed logic₀ (raw (Bytes b xs) ∷ []) ∵ updating ! $ use1 logic₀ (‵ (cells (mem u8) xs b 0)) (cells_in b xs 0) $
      lft_new ! tt (λ β. move ! (1 ∷ []) $
      use1 logic₀ (later (some (λ (δ : GName). ‵ (ToWrite (β, δ)) ⊛ ‵ (KeptToWrite (β, δ)))))
      (lends_slice logic₀ u8 (named 1) (β ∷ []) xs b 0 room) $
      await ! tt $ pick ! (λ δ. split ! $ at_once ! $ show ! (λ p. sem logic₀ (LentToWrite p)) (β, δ) $ move ! (2 ∷ 0 ∷ 1 ∷ []) $ shown !))

  read_back : (α : ℕ) → sem logic₀ (fsep (Lifetime α) (KeptToRead α)) ⊢ H.⇛ (Bytes b xs)
  read_back α =
      qed logic₀ (‵ (Lifetime α) ∷ ‵ (KeptToRead α) ∷ []) ∵ updating ! $ lft_end ! tt $ lent_back ! tt $ at_once ! $ fsplit ! $
      keep ! (1 ∷ []) $ by ! (parts_out b xs 0)

  write-back : (p : ℕ × GName) (zs : List ℕ)
      → sem logic₀ (fsep (Lifetime p.0) (fsep (KeptToWrite p) (finally u8 p.1 zs))) ⊢ H.⇛ (Bytes b zs)
  write-back p zs =
      qed logic₀ (‵ (Lifetime p.0) ∷ ‵ (KeptToWrite p) ∷ ‵ (finally u8 p.1 zs) ∷ []) ∵ updating ! $ lft_end ! tt $
      use3 logic₀ (later (‵ ((Arr (mem u8) (length xs)).own_at zs b 0))) (slice_back logic₀ u8 (p.0 ∷ []) p.1 zs (length xs) b 0) $
      await ! tt $ at_once ! $ fsplit ! $ keep ! (1 ∷ []) $ by ! (cells_out b zs 0)

-- ---- a call that is lent one slice
abbrev pub one_slice : List (ParamKind 1)
one_slice = p_shr_s (rt_f (f_int w8)) 0 tt ∷ []

module _ (w : Width) (b : ℕ) (xs : List ℕ) where
  abbrev pub call_one : ℕ → Call one_slice (r_num w)
  call_one α = ((α ∷ [], tt), (full_share, tt), tt, (to_read b xs, tt), (value b xs, tt))

  abbrev pub KeptOne : ℕ → Assertion
  KeptOne α = sem logic₀ (KeptToRead b xs α)

  abbrev pub LentOne : ℕ → Assertion
  LentOne α = Handed one_slice (r_num w) (call_one α) ∗ KeptOne α

  pub lends_one : Room u8 (length xs) → Bytes b xs ⊢ H.⇛ (ex 𝓤 LentOne)
  lends_one room =
      qed logic₀ (raw (Bytes b xs) ∷ []) ∵ updating ! $ use1 logic₀ (later (some (λ α. ‵ (LentToRead b xs α)))) (lend-to-read b xs room) $
      await ! tt $ pick ! (λ α. fsplit3 ! $ at_once ! $ show ! LentOne α $
      -- [lifetime; slice; lender]
      nothing ! $ move ! (1 ∷ 0 ∷ []) $ join ! $ nothing ! $ move ! (2 ∷ 0 ∷ []) $ join ! $ move ! (1 ∷ 0 ∷ []) $ join ! $ shown !)

  pub back_one : (α : ℕ) (v : Val) (a : ℕ) (last : Last one_slice (r_num w) (call_one α))
      → (Left one_slice (r_num w) (call_one α) last ∗ Answered one_slice (r_num w) (call_one α) v a) ∗ KeptOne α ⊢ H.⇛ (Bytes b xs)
  back_one α v a last =
      qed logic₀ ((‵ (fsep ftrue ftrue) ⊛ ((‵ (Lifetime α) ⊛ ‵ ftrue) ⊛ ‵ ((UInt w).own_val a (v ∷ [])))) ∷ ‵ (KeptToRead b xs α) ∷ []) ∵
      split3 ! $ move ! (1 ∷ []) $ split ! $ keep ! (0 ∷ 4 ∷ []) $ by ! (read_back b xs α)

-- ---- a call that is lent two
abbrev pub two_slices : List (ParamKind 2)
two_slices = p_shr_s (rt_f (f_int w8)) 0 tt ∷ p_mut_s (rt_f (f_int w8)) 1 tt ∷ []

module _ (w : Width) (b d : ℕ) (xs ys : List ℕ) where
  abbrev Names : Type 0
  Names = ℕ × (ℕ × GName)

  abbrev pub call_two : Names → Call two_slices (r_num w)
  call_two p = (
    (p.0 ∷ [], (p.1.0 ∷ [], tt)),
    (full_share, (full_share, tt)),
    tt,
    (to_read b xs, (to_write d p.1.1 ys, tt)),
    (value b xs, (value d ys, tt)),
  )

  abbrev pub KeptTwo : Names → Assertion
  KeptTwo p = sem logic₀ (fsep (KeptToRead b xs p.0) (KeptToWrite d ys p.1))

  abbrev pub LentTwo : Names → Assertion
  LentTwo p = Handed two_slices (r_num w) (call_two p) ∗ KeptTwo p

  pub lends-two : Room u8 (length xs) → Room u8 (length ys) → Bytes d ys ∗ Bytes b xs ⊢ H.⇛ (ex 𝓤 LentTwo)
  lends-two room-xs room-ys =
      qed logic₀ (raw (Bytes d ys) ∷ raw (Bytes b xs) ∷ []) ∵ updating ! $
      use1 logic₀ (later (some (λ q. ‵ (LentToWrite d ys q)))) (lend-to-write d ys room-ys) $ await ! tt $ pick ! (λ q. fsplit3 ! $
      move ! (3 ∷ []) $ use1 logic₀ (later (some (λ p. ‵ (LentToRead b xs p)))) (lend-to-read b xs room-xs) $ await ! tt $ pick ! (λ p. fsplit3 ! $
      at_once ! $ show ! LentTwo (p, q) $
      -- [lifetime, slice and lender of xs; those of ys]
      nothing ! $ move ! (5 ∷ 0 ∷ []) $ join ! $ move ! (2 ∷ 0 ∷ []) $ join ! $ nothing ! $ move ! (4 ∷ 0 ∷ []) $ join ! $
      move ! (2 ∷ 0 ∷ []) $ join ! $ join ! $ shown !))

  pub back-two : (p : Names) (v : Val) (a : ℕ) (last : Last two_slices (r_num w) (call_two p))
      → (Left two_slices (r_num w) (call_two p) last ∗ Answered two_slices (r_num w) (call_two p) v a) ∗ KeptTwo p
      ⊢ H.⇛ (Bytes b xs ∗ Bytes d last.1.0)
  back-two p v a last =
      let zs : List ℕ = last.1.0 in
      qed logic₀ ((‵ (fsep ftrue (fsep (fsep (fsep (finally u8 p.1.1 zs) (feq ℕ (length zs) (length ys))) (fbor (p.1.0 ∷ []) (Held u8 (length ys) d 0 p.1.1))) ftrue))
      ⊛ ((‵ (Lifetime p.0) ⊛ (‵ (Lifetime p.1.0) ⊛ ‵ ftrue)) ⊛ ‵ ((UInt w).own_val a (v ∷ []))))
      ∷ ‵ (KeptToRead b xs p.0) ∷ ‵ (KeptToWrite d ys p.1) ∷ []) ∵ updating ! $
      split3 ! $ fsplit3 ! $ move ! (1 ∷ []) $ fsplit ! $ fsplit ! $ move ! (5 ∷ []) $ split3 ! $
      -- [lifetimes of xs and ys; _; what is said of zs; _; _; _; _; _; lenders of xs and ys]
      move ! (0 ∷ 9 ∷ []) $ use2 logic₀ (later (raw (Bytes b xs))) (read_back b xs p.0) $ await ! tt $
      move ! (1 ∷ 9 ∷ 3 ∷ []) $ use3 logic₀ (later (raw (Bytes d zs))) (write-back d ys p.1 zs) $ await ! tt $
      at_once ! $ keep ! (1 ∷ 0 ∷ []) $ shown !
