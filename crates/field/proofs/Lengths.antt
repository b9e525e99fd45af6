-- The length of encoding's answer is what the table says, and that of the field. Assumes nothing.
--     encode-length    the field has the bytes of the payload's row
--     encode-result    it is how many bytes the field has
use mathlib.Core.Path.{◌≡◌, sym, ◌∙◌, subst}
use mathlib.Core.List.{List}
use Prim.Native.Nat.{ℕ}
use native.Mathlib.Omega.{arith}
use lib.ListN.{length, get_or}
use Rattle.std.proofs.Common.{Ok}
use Rattle.field.specs.Table.{row_of, rows}
use Rattle.field.specs.Field.{field_of}
use Rattle.field.specs.Encode.{encode_answer}
use Rattle.field.proofs.TableRows.{row-bytes}
use Rattle.field.proofs.FieldBits.{field-length}
use Rattle.field.proofs.EncodeAnswers.{Encoded, encode-given}

-- an accepted payload is short, its field has room, and the length is that of its field
size : (payload : List ℕ) (room n : ℕ) → encode_answer payload room ≡ Ok n → Encoded payload room (Ok n)
size payload room n e = subst (Encoded payload room) e (encode-given payload room)

pub encode-length : (payload : List ℕ) (room n : ℕ) → encode_answer payload room ≡ Ok n → n ≡ (get_or rows (length payload) (row_of 0)).bytes
encode-length payload room n e =
    let h = size payload room n e in
    h.2 ∙ sym (row-bytes (length payload) (omega (arith, h.0)))

pub encode-result : (payload : List ℕ) (room n : ℕ) → encode_answer payload room ≡ Ok n → n ≡ length (field_of payload)
encode-result payload room n e = (size payload room n e).2 ∙ sym (field-length payload)
