-- The length of decoding's answer is what the table says, and that of the payload. Assumes nothing.
--     decode-length    the field had the bytes of the row of the payload that it gives
--     decode-result    it is how many bytes the payload has
use mathlib.Core.Path.{◌≡◌, sym, ap, ◌∙◌}
use mathlib.Core.List.{List}
use Prim.Native.Nat.{ℕ}
use native.Mathlib.Omega.{arith}
use lib.ListN.{length, get_or}
use Rattle.std.proofs.Common.{Ok}
use Rattle.field.specs.Sizes.{field_bytes}
use Rattle.field.specs.Table.{row_of, rows}
use Rattle.field.proofs.Sizes.{field_bytes-back}
use Rattle.field.proofs.TableRows.{row-bytes}
use Rattle.decoding.specs.Decode.{decode_answer, payload_of}
use Rattle.decoding.proofs.FieldParts.{payload-length}
use Rattle.decoding.proofs.Accepted.{accepted}

pub decode-length : (field : List ℕ) (room n : ℕ) → decode_answer field room ≡ Ok n → length field ≡ (get_or rows n (row_of 0)).bytes
decode-length field room n e =
    let a = accepted field room n e in
    let allowed = a.begun.allowed in
    sym (row-bytes n (omega (arith, a.size_is, allowed.at_most)) ∙ ap field_bytes a.size_is ∙ field_bytes-back (length field) allowed.not-one)

pub decode-result : (field : List ℕ) (room n : ℕ) → decode_answer field room ≡ Ok n → n ≡ length (payload_of field)
decode-result field room n e = (accepted field room n e).size_is ∙ sym (payload-length field)
