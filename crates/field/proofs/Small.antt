-- How large a length or place encoding answers. Assumes nothing.
--     encode-small    at most 8
use mathlib.Core.Path.{◌≡◌, refl}
use mathlib.Core.Bool.{Bool, true, false, cond}
use mathlib.Core.List.{List}
use Prim.Native.Nat.{ℕ, ◌<◌}
use native.Mathlib.Omega.{arith}
use lib.Dec.{ltb, lit<}
use lib.ListN.{length}
use borrow.Author.Tests.{ltb-false}
use Rattle.std.proofs.Common.{Ok, Err}
use Rattle.refusals.specs.Table.{answer_numbers}
use Rattle.refusals.specs.declared.Refusal.TheVariants as refusal
use Rattle.field.specs.Sizes.{field_bytes}
use Rattle.field.specs.Encode.{encode_answer}
use Rattle.field.proofs.Sizes.{field_bytes-few}

pub encode-small : (payload : List ℕ) (room : ℕ) → (answer_numbers (encode_answer payload room)).low < 9
unfolding encode_answer
encode-small payload room = go (ltb 7 size) refl (ltb room (field_bytes size))
  where
    size : ℕ
    size = length payload

    go : (long : Bool) → ltb 7 size ≡ long → (short : Bool)
        → (answer_numbers (cond long (Err refusal.PayloadTooLong) (cond short (Err refusal.RoomShort) (Ok (field_bytes size))))).low < 9
    go true e short = lit< tt
    go false e true = lit< tt
    go false e false = omega (arith, field_bytes-few size (ltb-false 7 size e))
