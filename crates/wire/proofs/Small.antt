-- How large a length, a bound or a place a frame's calls answer, also where the payload were no bytes. Assumes nothing.
--     length-small, make-small, bounds-small    for each call
use mathlib.Core.Path.{◌≡◌, refl}
use mathlib.Core.Bool.{Bool, true, false, cond}
use mathlib.Core.List.{List}
use Prim.Native.Nat.{ℕ, ◌≤◌, ◌<◌}
use native.Mathlib.Omega.{arith}
use lib.Dec.{ltb, lit<}
use lib.ListN.{length}
use borrow.Author.Tests.{ltb-false}
use Rattle.std.proofs.Common.{Result, Ok, Err}
use Rattle.bits.specs.Packing.{unpacked}
use Rattle.bits.proofs.Packing.{unpacked-length}
use Rattle.refusals.specs.declared.Refusal.{Refusal}
use Rattle.refusals.specs.Table.{Numbers, answer_numbers}
use Rattle.refusals.specs.declared.Refusal.TheVariants as refusal
use Rattle.field.specs.Sizes.{field_bytes}
use Rattle.field.specs.Field.{field_of}
use Rattle.field.proofs.Sizes.{field_bytes-few}
use Rattle.field.proofs.FieldBits.{field-length}
use Rattle.wire.specs.declared.Identifier.{Identifier}
use Rattle.wire.specs.Identifier.{number_in, greatest, room_for}
use Rattle.wire.specs.Header.{header}
use Rattle.wire.specs.Line.{frame_line}
use Rattle.wire.specs.Answers.{payload_line, length_answer, make_answer, bounds_answer, bounds_numbers}
use Rattle.wire.proofs.HeaderStuff.{header-nine}
use Rattle.wire.proofs.HeaderBits.{header-length, header-few}
use Rattle.wire.proofs.BoundsAnswers.{bounds_of}
use Rattle.wire.proofs.Demand3.{line-few}

module _ (identifier : Identifier) (payload : List ℕ) where
  line : Result ℕ Refusal
  line = Ok (length (payload_line identifier payload))

  fits : length payload ≤ 7 → (answer_numbers line).low < 158
  unfolding line frame_line
  fits short =
      let field = field_of payload in
      let head = header-length identifier (length field) in
      let few : length (unpacked 8 field) ≤ 64
      = omega (arith, unpacked-length 8 field, field-length payload, field_bytes-few (length payload) short) in
      let most = line-few (header identifier (length field)) (unpacked 8 field) (omega (arith, head, header-few identifier)) few in
      omega (arith, most)

  checked : (unknown long : Bool) → ltb 7 (length payload) ≡ long → (next : Result ℕ Refusal) → (length payload ≤ 7 → (answer_numbers next).low < 158)
      → (answer_numbers (cond unknown (Err refusal.Identifier) (cond long (Err refusal.PayloadTooLong) next))).low < 158
  checked true long e next small = lit< tt
  checked false true e next small = lit< tt
  checked false false e next small = small (ltb-false 7 (length payload) e)

  pub length-small : (answer_numbers (length_answer identifier payload)).low < 158
  unfolding length_answer line
  length-small = checked (ltb (greatest identifier) (number_in identifier)) (ltb 7 (length payload)) refl line fits

  pub make-small : (room : ℕ) → (answer_numbers (make_answer identifier payload room)).low < 158
  unfolding make_answer line
  make-small room =
      checked (ltb (greatest identifier) (number_in identifier)) (ltb 7 (length payload)) refl (cond (ltb room (room_for identifier)) (Err refusal.RoomShort) line)
      (roomy (ltb room (room_for identifier)))
    where
      roomy : (t : Bool) → length payload ≤ 7 → (answer_numbers (cond t (Err refusal.RoomShort) line)).low < 158
      roomy true short = lit< tt
      roomy false short = fits short

-- of two bounds
abbrev pub Few : Numbers → Type 0
Few x = (x.low < 142) × (x.high < 142)

pub bounds-small : (identifier : Identifier) (size : ℕ) → Few (bounds_numbers (bounds_answer identifier size))
unfolding bounds_answer
bounds-small identifier size = go (ltb (greatest identifier) (number_in identifier)) (ltb 7 size) refl
  where
    go : (unknown long : Bool) → ltb 7 size ≡ long
        → Few (bounds_numbers (cond unknown (Err refusal.Identifier) (cond long (Err refusal.PayloadTooLong) (bounds_of identifier size))))
    go true long e = (lit< tt, lit< tt)
    go false true e = (lit< tt, lit< tt)
    go false false e =
        let few = field_bytes-few size (ltb-false 7 size e) in
        let head = header-nine identifier (field_bytes size) in
        let own = header-length identifier (field_bytes size) in
        let most = header-few identifier in
        (omega (arith, few, head, own, most), omega (arith, few, head, own, most))
