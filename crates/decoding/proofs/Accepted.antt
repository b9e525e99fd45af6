-- What an accepted field is, part by part. Assumes nothing.
--     Accepted    the record of it
--     accepted    each test that decoding makes was passed
use mathlib.Core.Path.{◌≡◌, subst}
use mathlib.Core.List.{List, map}
use Prim.Native.Nat.{ℕ}
use Rattle.std.proofs.Common.{Ok}
use Rattle.field.specs.Sizes.{padding_bits}
use Rattle.field.specs.Padding.{padding}
use Rattle.decoding.specs.Parts.{size_of, padding_part, symbols_of}
use Rattle.decoding.specs.Decode.{decode_answer, payload_of}
use Rattle.decoding.proofs.DecodeAnswers.{Begun}
use Rattle.decoding.proofs.DecodeGiven.{Decoded, begun, decode-given}
use Rattle.words.specs.Symbols.{byte}

pub record Accepted (field : List ℕ) (room n : ℕ) : Type 0 where
  pub size_is : n ≡ size_of field
  pub begun : Begun field room
  pub words_are : symbols_of field ≡ map byte (payload_of field)
  pub padding-is : padding_part field ≡ padding 0 (padding_bits (size_of field))

pub accepted : (field : List ℕ) (room n : ℕ) → decode_answer field room ≡ Ok n → Accepted field room n
accepted field room n e =
    let h = subst (Decoded field room) e (decode-given field room) in
    record { size_is = h.3; begun = begun field room h.0; words_are = h.1; padding-is = h.2 }
