-- Document 01's five programs that a contract has to reject: each of them has, at some input, an outcome that the contract does not
-- allow. Each law is about an outcome that is allowed, at the calls for C. Assumes nothing.
--     not-refused       a payload that fits is not refused: so not one that refuses everything
--     buffer-written    where the field did not stand there before, the buffer is not left as it was: so not one that writes nothing
--     payload-carried   the payload can be read out of what stands there: so not one that codes the first word and fills the rest
--     another-field     two payloads leave two fields: so not one with a single fixed field
--     length-counted    the length is the number of bits of the frame's line: so not one that reports an invented length
use mathlib.Core.Path.{◌≡◌, sym, ap, ◌∙◌}
use Prim.Native.Nat.{ℕ, ◌≤◌}
use contract.Lifetimes.{Lfts}
use lib.ListN.{length, take}
use Rattle.field.specs.Sizes.{field_bytes}
use Rattle.field.specs.Field.{field_of}
use Rattle.decoding.specs.Decode.{payload_of}
use Rattle.decoding.proofs.RoundTrip.{payload-of-field}
use Rattle.wire.specs.Identifier.{Allowed, identifier_of}
use Rattle.wire.specs.Answers.{payload_line}
use Rattle.wire.proofs.FrameAnswers.{length-accepts}
use Rattle.prushgoli.specs.Packing.{told}
use Rattle.prushgoli.proofs.prushgoli_encode.Reads as encode
use Rattle.prushgoli.proofs.prushgoli_encode.Kinds as encode-kinds
use Rattle.prushgoli.proofs.prushgoli_frame_length.Reads as frame-length
use Rattle.demands.specs.Runs.{Made}
use Rattle.demands.proofs.LentBytes.{encode-bytes}
use Rattle.demands.proofs.ForC.{frame-length-told, length-told}
use Rattle.demands.proofs.RoundTrips.{encoded, field-stands}

-- encoding with the inputs i, its answer a, the parameters s after it; the payload fits
module _ (κs : Lfts 2) (i : _) (a : ℕ) (s : _) (allowed : encode.Learnt κs i a s) (short : length i.0.now ≤ 7)
    (room : field_bytes (length i.0.now) ≤ length i.1.0.now) where
  pub not-refused : (told a).refusal ≡ 0
  not-refused = (encoded κs i a s allowed short room).0

  pub buffer-written : (take (told a).low i.1.0.now ≡ field_of i.0.now → ⊥) → s.1.0.now ≡ i.1.0.now → ⊥
  buffer-written other left = other (ap (take (told a).low) (sym left) ∙ field-stands κs i a s allowed short room)

  pub payload-carried : Made encode-kinds.ps encode-kinds.r κs i → payload_of (take (told a).low s.1.0.now) ≡ i.0.now
  payload-carried called = ap payload_of (field-stands κs i a s allowed short room) ∙ payload-of-field i.0.now (encode-bytes κs i called) short

pub another-field : (κs κs' : Lfts 2) (i j : _) (a b : ℕ) (s t : _) → encode.Learnt κs i a s → encode.Learnt κs' j b t →
    let p = i.0.now in
    let q = j.0.now in
    Made encode-kinds.ps encode-kinds.r κs i → Made encode-kinds.ps encode-kinds.r κs' j → length p ≤ 7 → length q ≤ 7
    → field_bytes (length p) ≤ length i.1.0.now → field_bytes (length q) ≤ length j.1.0.now
    → take (told a).low s.1.0.now ≡ take (told b).low t.1.0.now → p ≡ q
another-field κs κs' i j a b s t allowed allowed' called called' short short' fits fits' same =
    sym (payload-carried κs i a s allowed short fits called) ∙ ap payload_of same ∙ payload-carried κs' j b t allowed' short' fits' called'

pub length-counted : (κs : Lfts 1) (i : _) (a : ℕ) (s : _) → frame-length.Learnt κs i a s → Allowed (identifier_of i.0) → length i.1.0.now ≤ 7
    → ((told a).refusal ≡ 0) × ((told a).low ≡ length (payload_line (identifier_of i.0) i.1.0.now))
length-counted κs i a s allowed known short =
    length-told a (frame-length-told κs i a s allowed) (length-accepts (identifier_of i.0) i.1.0.now known short)
