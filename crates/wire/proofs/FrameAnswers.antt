-- The answers of making a frame and of its length, one law for each. Assumes nothing.
--     length-identifier, make-identifier    8, an identifier above the greatest of its form
--     length-payload-long, make-payload-long                1, a payload of more than 7 bytes
--     make-short                            2, less room than the identifier's form asks for
--     length-accepts, make-accepts          else the length of the frame's line
--     LengthAnswered, length-given          what holds where each answer is given; no other is
--     Made, make-given                      the same of making
use mathlib.Core.Path.{◌≡◌, refl}
use mathlib.Core.Bool.{Bool, true, false, cond}
use mathlib.Core.List.{List, [], ◌∷◌}
use Prim.Native.Nat.{ℕ, ◌≤◌, ◌<◌}
use lib.Dec.{ltb}
use lib.ListN.{length}
use borrow.Author.Tests.{lt-ltb, le-ltb, ltb-true, ltb-false}
use Rattle.std.proofs.Common.{Result, Ok, Err}
use Rattle.refusals.specs.declared.Refusal.{Refusal}
use Rattle.refusals.specs.declared.Refusal.TheVariants as refusal
use Rattle.refusals.proofs.Given.{Order, Answers}
use Rattle.wire.specs.declared.Identifier.{Identifier}
use Rattle.wire.specs.Identifier.{number_in, greatest, Allowed, room_for}
use Rattle.wire.specs.Answers.{payload_line, length_answer, make_answer}

module _ (identifier : Identifier) (payload : List ℕ) where
  pub length-identifier : greatest identifier < number_in identifier → length_answer identifier payload ≡ Err refusal.Identifier
  unfolding length_answer
  length-identifier h = simp (lt-ltb _ _ h)

  pub length-payload-long : Allowed identifier → 7 < length payload → length_answer identifier payload ≡ Err refusal.PayloadTooLong
  unfolding length_answer
  length-payload-long h g = simp (le-ltb _ _ h, lt-ltb _ _ g)

  pub length-accepts : Allowed identifier → length payload ≤ 7
      → length_answer identifier payload ≡ Ok (length (payload_line identifier payload))
  unfolding length_answer
  length-accepts h g = simp (le-ltb _ _ h, le-ltb _ _ g)

  pub make-identifier : (room : ℕ) → greatest identifier < number_in identifier → make_answer identifier payload room ≡ Err refusal.Identifier
  unfolding make_answer
  make-identifier room h = simp (lt-ltb _ _ h)

  pub make-payload-long : (room : ℕ) → Allowed identifier → 7 < length payload → make_answer identifier payload room ≡ Err refusal.PayloadTooLong
  unfolding make_answer
  make-payload-long room h g = simp (le-ltb _ _ h, lt-ltb _ _ g)

  pub make-short : (room : ℕ) → Allowed identifier → length payload ≤ 7 → room < room_for identifier
      → make_answer identifier payload room ≡ Err refusal.RoomShort
  unfolding make_answer
  make-short room h g r = simp (le-ltb _ _ h, le-ltb _ _ g, lt-ltb _ _ r)

  pub make-accepts : (room : ℕ) → Allowed identifier → length payload ≤ 7 → room_for identifier ≤ room
      → make_answer identifier payload room ≡ Ok (length (payload_line identifier payload))
  unfolding make_answer
  make-accepts room h g r = simp (le-ltb _ _ h, le-ltb _ _ g, le-ltb _ _ r)

  abbrev n : ℕ
  n = length (payload_line identifier payload)

  -- 8, then 1; else a length
  abbrev pub length_order : Order
  length_order = (8, λ place. greatest identifier < number_in identifier) ∷ (1, λ place. Allowed identifier × (7 < length payload)) ∷ []

  abbrev pub LengthAnswered : Result ℕ Refusal → Type 0
  LengthAnswered = Answers length_order (λ k. Allowed identifier × (length payload ≤ 7) × (k ≡ n))

  pub length-given : LengthAnswered (length_answer identifier payload)
  unfolding length_answer
  length-given = go (ltb (greatest identifier) (number_in identifier)) refl (ltb 7 (length payload)) refl
    where
      go : (high : Bool) → ltb (greatest identifier) (number_in identifier) ≡ high → (long : Bool) → ltb 7 (length payload) ≡ long
          → LengthAnswered (cond high (Err refusal.Identifier) (cond long (Err refusal.PayloadTooLong) (Ok n)))
      go true c long d = ltb-true _ _ c
      go false c true d = (ltb-false _ _ c, ltb-true 7 (length payload) d)
      go false c false d = (ltb-false _ _ c, ltb-false 7 (length payload) d, refl)

  -- 8, 1, then 2; else a length
  module _ (room : ℕ) where
    abbrev pub make_order : Order
    make_order =
        (8, λ place. greatest identifier < number_in identifier)
        ∷ (1, λ place. Allowed identifier × (7 < length payload))
        ∷ (2, λ place. Allowed identifier × (length payload ≤ 7) × (room < room_for identifier))
        ∷ []

    abbrev pub Made : Result ℕ Refusal → Type 0
    Made = Answers make_order (λ k. Allowed identifier × (length payload ≤ 7) × (room_for identifier ≤ room) × (k ≡ n))

    pub make-given : Made (make_answer identifier payload room)
    unfolding make_answer
    make-given = go (ltb (greatest identifier) (number_in identifier)) refl (ltb 7 (length payload)) refl (ltb room (room_for identifier)) refl
      where
        go : (high : Bool) → ltb (greatest identifier) (number_in identifier) ≡ high → (long : Bool) → ltb 7 (length payload) ≡ long
            → (little : Bool) → ltb room (room_for identifier) ≡ little
            → Made (cond high (Err refusal.Identifier) (cond long (Err refusal.PayloadTooLong) (cond little (Err refusal.RoomShort) (Ok n))))
        go true c long d little e = ltb-true _ _ c
        go false c true d little e = (ltb-false _ _ c, ltb-true 7 (length payload) d)
        go false c false d true e = (ltb-false _ _ c, ltb-false 7 (length payload) d, ltb-true _ _ e)
        go false c false d false e = (ltb-false _ _ c, ltb-false 7 (length payload) d, ltb-false _ _ e, refl)
