-- The answers of asking for bounds, one law for each. Assumes nothing.
--     bounds-identifier    8, an identifier above the greatest of its form
--     bounds-size-high          1, a size above 7
--     bounds_of, bounds-accepts    else the two bounds; bounds-found the same from what the code computes
--     base-bounds, long-bounds    in numbers, for each form
--     Bounded, bounds-given    what holds where each of them is given; no other is
--     bounds-only          the document's numbers tell which bounds they are
use mathlib.Core.Path.{◌≡◌, refl, sym, ap, ap₂, ◌∙◌}
use mathlib.Core.Bool.{Bool, true, false, cond}
use mathlib.Core.List.{[], ◌∷◌}
use Prim.Native.Nat.{ℕ, ◌+◌, ◌*◌, ◌≤◌, ◌<◌}
use native.Mathlib.Omega.{arith}
use borrow.Author.Tests.{lt-ltb, le-ltb, ltb-true, ltb-false}
use lib.Dec.{ltb}
use lib.ListN.{length}
use Rattle.std.proofs.Common.{Result, Err}
use Rattle.refusals.specs.Table.{Numbers, given}
use Rattle.refusals.specs.declared.Refusal.{Refusal}
use Rattle.refusals.specs.declared.Refusal.TheVariants as refusal
use Rattle.refusals.proofs.Answers.{numbers-only}
use Rattle.refusals.proofs.Given.{Order, Answers}
use Rattle.field.specs.Sizes.{field_bytes}
use Rattle.wire.specs.declared.Identifier.{Identifier}
use Rattle.wire.specs.declared.Identifier.TheVariants.{Base, Long}
use Rattle.wire.specs.Identifier.{number_in, greatest, Allowed}
use Rattle.wire.specs.Header.{header}
use Rattle.wire.specs.StuffBits.{header_stuff_bits}
use Rattle.wire.specs.Answers.{bounds_answer, bounds_numbers, between}
use Rattle.wire.specs.declared.Bounds.{Bounds}
use Rattle.wire.proofs.HeaderBits.{header-length}

pub bounds-identifier : (identifier : Identifier) (size : ℕ) → greatest identifier < number_in identifier → bounds_answer identifier size ≡ Err refusal.Identifier
unfolding bounds_answer
bounds-identifier identifier size h = simp (lt-ltb _ _ h)

pub bounds-size-high : (identifier : Identifier) (size : ℕ) → Allowed identifier → 7 < size → bounds_answer identifier size ≡ Err refusal.PayloadTooLong
unfolding bounds_answer
bounds-size-high identifier size h g = simp (le-ltb _ _ h, lt-ltb _ _ g)

-- the two bounds, from the bits of the header
abbrev pub bounds_of : Identifier → ℕ → Result Bounds Refusal
bounds_of identifier size =
    let n = field_bytes size in
    let beside = length (header identifier n) + 25 in
    let h = header_stuff_bits identifier n in
    between (beside + 8 * n + h) (beside + 4 + 8 * n + h)

pub bounds-accepts : (identifier : Identifier) (size : ℕ) → Allowed identifier → size ≤ 7
    → bounds_answer identifier size ≡ bounds_of identifier size
unfolding bounds_answer
bounds-accepts identifier size h g = simp (le-ltb _ _ h, le-ltb _ _ g)

module _ (number size : ℕ) where
  abbrev n : ℕ
  n = field_bytes size

  pub base-bounds : number ≤ 2047 → size ≤ 7 →
      let n = field_bytes size in
      let h = header_stuff_bits (Base number) n in
      bounds_answer (Base number) size ≡ between (44 + 8 * n + h) (48 + 8 * n + h)
  base-bounds allowed few = bounds-accepts (Base number) size allowed few ∙ rw (header-length (Base number) n) refl

  pub long-bounds : number ≤ 536870911 → size ≤ 7 →
      let n = field_bytes size in
      let h = header_stuff_bits (Long number) n in
      bounds_answer (Long number) size ≡ between (64 + 8 * n + h) (68 + 8 * n + h)
  long-bounds allowed few = bounds-accepts (Long number) size allowed few ∙ rw (header-length (Long number) n) refl

pub bounds-found : (identifier : Identifier) (size n fours h : ℕ) → Allowed identifier → size ≤ 7 → n ≡ field_bytes size
    → 3 + 4 * fours ≡ length (header identifier n) → h ≡ header_stuff_bits identifier n
    → between (28 + 4 * fours + 8 * n + h) (28 + 4 * fours + 8 * n + h + 4) ≡ bounds_answer identifier size
bounds-found identifier size n fours h i s en ef eh =
    let beside : ℕ = length (header identifier n) + 25 in
    let least : 28 + 4 * fours + 8 * n + h ≡ beside + 8 * n + h = omega arith in
    let most : 28 + 4 * fours + 8 * n + h + 4 ≡ beside + 4 + 8 * n + h = omega arith in
    ap₂ between least most ∙ rw (eh, en) (sym (bounds-accepts identifier size i s))

-- 8, then 1; else the bounds
abbrev pub bounds_order : Identifier → ℕ → Order
bounds_order identifier size = (8, λ place. greatest identifier < number_in identifier) ∷ (1, λ place. Allowed identifier × (7 < size)) ∷ []

abbrev pub Bounded : Identifier → ℕ → Result Bounds Refusal → Type 0
Bounded identifier size =
    let n = field_bytes size in
    let beside = length (header identifier n) + 25 in
    let h = header_stuff_bits identifier n in
    Answers (bounds_order identifier size)
    (λ b. Allowed identifier × (size ≤ 7) × (b.least ≡ beside + 8 * n + h) × (b.most ≡ beside + 4 + 8 * n + h))

pub bounds-given : (identifier : Identifier) (size : ℕ) → Bounded identifier size (bounds_answer identifier size)
unfolding bounds_answer
bounds-given identifier size = go (ltb (greatest identifier) (number_in identifier)) refl (ltb 7 size) refl
  where
    go : (high : Bool) → ltb (greatest identifier) (number_in identifier) ≡ high → (long : Bool) → ltb 7 size ≡ long
        → Bounded identifier size
        (cond high (Err refusal.Identifier) (cond long (Err refusal.PayloadTooLong) (bounds_of identifier size)))
    go true c long d = ltb-true _ _ c
    go false c true d = (ltb-false _ _ c, ltb-true 7 size d)
    go false c false d = (ltb-false _ _ c, ltb-false 7 size d, refl, refl)

pub bounds-only : (a b : Result Bounds Refusal) → bounds_numbers a ≡ bounds_numbers b → a ≡ b
bounds-only = numbers-only (λ b. given b.least b.most) (λ b. refl) only
  where
    bounds : ℕ → ℕ → Bounds
    bounds least most = record { least = least; most = most }

    only : (a b : Bounds) → given a.least a.most ≡ given b.least b.most → a ≡ b
    only a b e = ap₂ bounds (ap (λ (x : Numbers). x.low) e) (ap (λ (x : Numbers). x.high) e)
