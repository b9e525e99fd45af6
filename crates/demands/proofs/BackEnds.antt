-- Demand 2 on the machine: the run of decoding a payload's field, and of reading the line of its frame, ends with what went in, from every
-- memory, in every environment that has the code of the call and of all that it calls. What a payload can be is what a slice can hold; nothing else is supposed but size, room and identifier. Assumes nothing.
--     field-back-ends    decoding the field that encoding leaves (`c-encode-ends`, Ends) leaves the payload
--     frame-back-ends    reading the line that making leaves as our own, with 0 or 1 in its ACK slot, answers the identifier, as C has it, and leaves
--                        the payload
--     frame-heard-ends    and so does reading it from a live bus, with 0 there
use mathlib.Core.Path.{◌≡◌}
use mathlib.Core.List.{List, [], ◌∷◌, ◌++◌}
use Prim.Native.Nat.{ℕ, ◌-◌, ◌≤◌, ◌<◌, ◌^◌}
use native.Mathlib.Omega.{arith}
use lib.ListN.{length, drop, length-set}
use mir.Syntax.{w64}
use mir.Val.{vint}
use prog.Memory.{Memory}
use prog.AdequacyRun.{Holds}
use prog.Routine.{Env}
use prog.Wired.{Wired}
use Rattle.bits.proofs.Below.{below_more}
use Rattle.refusals.specs.Table.{given}
use Rattle.field.specs.Field.{field_of}
use Rattle.field.proofs.Sizes.{field_bytes-few}
use Rattle.field.proofs.FieldBits.{field-length, field_below}
use Rattle.decoding.proofs.RoundTrip.{payload-of-field, decode-encode}
use Rattle.wire.specs.declared.Identifier.{Identifier}
use Rattle.wire.specs.declared.Identifier.TheVariants.{Base, Long}
use Rattle.wire.specs.Identifier.{Allowed, room_for, number_for_c}
use Rattle.wire.specs.Answers.{payload_line}
use Rattle.wire.proofs.Demand3.{room-enough}
use Rattle.line.specs.Ack.{with_ack}
use Rattle.line.specs.Read.{acknowledged, own}
use Rattle.line.proofs.RoundTrip.{read_made, accepted-is-coded}
use Rattle.prushgoli.specs.Packing.{pack}
use Rattle.prushgoli.proofs.prushgoli_decode.Symbol as c-decode
use Rattle.prushgoli.proofs.prushgoli_read_line.Symbol as c-read-line
use Rattle.prushgoli.proofs.prushgoli_read_own_line.Symbol as c-read-own-line
use Rattle.demands.specs.Ends.{Lendable, beside, slice, Ends}
use Rattle.demands.proofs.Ends.{c-decode-ends, c-read-line-ends, c-read-own-line-ends}

room-few : (identifier : Identifier) → room_for identifier ≤ 141
room-few (Base number) = omega arith
room-few (Long number) = omega arith

-- a payload of at most 7 bytes, and a buffer with room for it
module _ (σ : Memory) (payload buffer : List ℕ) (bytes : Lendable payload) (lent : Lendable buffer) (short : length payload ≤ 7)
    (fits : length payload ≤ length buffer) where
  -- what the buffer then holds
  abbrev left : List ℕ
  left = payload ++ drop (length payload) buffer

  pub field-back-ends : (γ : Env) → Wired γ c-decode.code →
      let field = field_of payload in
      let σ₁ = beside σ field in
      Ends (γ c-decode.name) (slice σ field ∷ slice σ₁ buffer ∷ []) (beside σ₁ buffer) (vint w64 (pack (given (length payload) 0)))
      (λ σ'. Holds σ' (length σ) 0 field × Holds σ' (length σ₁) 0 left)
  field-back-ends γ has =
      let field = field_of payload in
      let few : length field < 2 ^ 63 = omega (arith, field-length payload, field_bytes-few (length payload) short) in
      let run = c-decode-ends γ has σ field buffer (field_below payload, few) lent in
      rw (decode-encode payload (length buffer) bytes.0 short fits, payload-of-field payload bytes.0 short) at run

  -- a line of ours, as a slice can hold it
  line-lendable : (identifier : Identifier) (ack : ℕ) → Allowed identifier → ack < 2 → Lendable (with_ack ack (payload_line identifier payload))
  unfolding with_ack
  line-lendable identifier ack known slot =
      let whole = payload_line identifier payload in
      let line = with_ack ack whole in
      let read = read_made own identifier payload ack (length buffer) known bytes.0 short fits (omega arith) in
      let coded = accepted-is-coded own line (length buffer) identifier (length payload) read.0 in
      let same : length line ≡ length whole = length-set whole (length whole - 9) ack in
      (below_more 2 256 line (omega arith) coded.line-below, omega (arith, same, room-enough identifier payload bytes.0 short, room-few identifier))

  pub frame-back-ends : (γ : Env) → Wired γ c-read-own-line.code → (identifier : Identifier) (ack : ℕ) → Allowed identifier → ack < 2 →
      let line = with_ack ack (payload_line identifier payload) in
      let σ₁ = beside σ line in
      Ends (γ c-read-own-line.name) (slice σ line ∷ slice σ₁ buffer ∷ []) (beside σ₁ buffer) (vint w64 (pack (given (length payload) (number_for_c identifier))))
      (λ σ'. Holds σ' (length σ) 0 line × Holds σ' (length σ₁) 0 left)
  frame-back-ends γ has identifier ack known slot =
      let line = with_ack ack (payload_line identifier payload) in
      let read = read_made own identifier payload ack (length buffer) known bytes.0 short fits (omega arith) in
      rw (read.0, read.1) at (c-read-own-line-ends γ has σ line buffer (line-lendable identifier ack known slot) lent)

  pub frame-heard-ends : (γ : Env) → Wired γ c-read-line.code → (identifier : Identifier) → Allowed identifier →
      let line = with_ack 0 (payload_line identifier payload) in
      let σ₁ = beside σ line in
      Ends (γ c-read-line.name) (slice σ line ∷ slice σ₁ buffer ∷ []) (beside σ₁ buffer) (vint w64 (pack (given (length payload) (number_for_c identifier))))
      (λ σ'. Holds σ' (length σ) 0 line × Holds σ' (length σ₁) 0 left)
  frame-heard-ends γ has identifier known =
      let line = with_ack 0 (payload_line identifier payload) in
      let read = read_made acknowledged identifier payload 0 (length buffer) known bytes.0 short fits (omega arith) in
      rw (read.0, read.1) at (c-read-line-ends γ has σ line buffer (line-lendable identifier 0 known (omega arith)) lent)
