-- Change request #109: a line from a live bus, where a 1 in the ACK slot means that nobody heard the frame, and a line of our own maker,
-- which leaves a 1 there. Each has its call: `read_line`, whose reading is `acknowledged`, and `read_own_line`, whose reading is `own`.
-- Assumes nothing.
--     heard-exactly    the first accepts, given room, exactly the frames that coding gives, with 0 in the ACK slot, with their identifier
--     heard-payload    and finds their payload in them
--     own-exactly      the second accepts, given room, exactly the frames that coding gives, the ACK slot apart
--     same-but-20      where the first answers something other than 20, the second answers the same and leaves the same
--     unheard-slot     where it answers 20, everything left of that place is right, the place is the ACK slot, and it holds a 1
--     never-20         the second never answers 20
--     made-unheard     the line that making leaves, as it is, is refused by the first with 20, whatever the room
use mathlib.Core.Path.{◌≡◌, refl, sym, ap, ◌∙◌}
use mathlib.Core.Bool.{Bool, true, false}
use mathlib.Core.List.{List, []}
use mathlib.Core.Logic.{◌↔◌}
use Prim.Native.Nat.{ℕ, ◌+◌, ◌-◌, ◌≤◌, ◌<◌}
use native.Mathlib.Omega.{arith}
use lib.Dec.{eqb}
use lib.ListN.{length, get_or, take}
use borrow.Author.Tests.{eqb-true, eqb-false}
use Rattle.std.proofs.Common.{Result, Ok, Err}
use Rattle.bits.specs.Below.{Below}
use Rattle.bits.specs.Stuffing.{nothing_sent}
use Rattle.refusals.specs.declared.Refusal.{Refusal}
use Rattle.refusals.specs.declared.Refusal.TheVariants.{NotAcknowledged}
use Rattle.refusals.specs.Table.{number_of, place_of}
use Rattle.refusals.proofs.Table.{refusal-only}
use Rattle.field.specs.Field.{field_of}
use Rattle.wire.specs.declared.Identifier.{Identifier}
use Rattle.wire.specs.Identifier.{Allowed}
use Rattle.wire.specs.Answers.{payload_line}
use Rattle.reading.specs.Scan.{crc_start, right, verdict, run_behind, frame_behind}
use Rattle.reading.proofs.Stands.{twenty}
use Rattle.line.specs.Ack.{with_ack}
use Rattle.line.specs.Read.{acknowledged, own, read_answer, payload_in, framed}
use Rattle.line.specs.declared.Frame.{Frame}
use Rattle.line.proofs.AckSlot.{ack-found}
use Rattle.line.proofs.ReadAnswers.{read-stopped}
use Rattle.line.proofs.ReadRefusals.{bits-refused}
use Rattle.line.proofs.RoundTrip.{Coded, own-ack, slot-holds, read_made, accepted-is-coded, coded-is-accepted, coded-apart}
use Rattle.line.proofs.TwoReadings.{same_answer, not-acknowledged, own-never-20}

-- ---- what is accepted

pub heard-exactly : (line : List ℕ) (room : ℕ) (identifier : Identifier) (n : ℕ)
    → read_answer acknowledged line room ≡ framed n identifier
    ↔ (payload : List ℕ) × (line ≡ with_ack 0 (payload_line identifier payload)) × Allowed identifier × Below 256 payload
    × (length payload ≡ n) × (n ≤ 7) × (n ≤ room)
heard-exactly line room identifier n = (
  λ accepted.
      let c : Coded acknowledged line room identifier n = accepted-is-coded acknowledged line room identifier n accepted in
      let none : c.ack ≡ 0 = omega (arith, c.slot) in
      let payload = payload_in acknowledged line in
      let is = c.line-is ∙ ap (λ (ack : ℕ). with_ack ack (payload_line identifier payload)) none in
      (payload, is, c.known, c.bytes, c.length-is, c.short, c.fits),
  λ (payload, is, known, bytes, count, short, fits).
      coded-is-accepted acknowledged line room identifier payload 0 is (omega arith) known bytes (omega (arith, count, short)) (omega (arith, count, fits))
      ∙ ap (λ (k : ℕ). framed k identifier) count,
)

pub heard-payload : (identifier : Identifier) (payload : List ℕ) → Allowed identifier → Below 256 payload → length payload ≤ 7
    → payload_in acknowledged (with_ack 0 (payload_line identifier payload)) ≡ payload
heard-payload identifier payload known bytes short =
    (read_made acknowledged identifier payload 0 (length payload) known bytes short (omega arith) (omega arith)).1

pub own-exactly : (line : List ℕ) (room : ℕ) (identifier : Identifier) (n : ℕ)
    → read_answer own line room ≡ framed n identifier
    ↔ (payload : List ℕ) × (with_ack 1 line ≡ payload_line identifier payload) × Below 2 line × Allowed identifier × Below 256 payload
    × (length payload ≡ n) × (n ≤ 7) × (n ≤ room)
own-exactly line room identifier n = (
  λ accepted.
      let c : Coded own line room identifier n = accepted-is-coded own line room identifier n accepted in
      (payload_in own line, coded-apart own line room identifier n c, c.line-below, c.known, c.bytes, c.length-is, c.short, c.fits),
  λ (payload, is, below, known, bytes, count, short, fits).
      let slot = ack-found line (payload_line identifier payload) is below in
      coded-is-accepted own line room identifier payload slot.0 slot.2 (omega (arith, slot.1)) known bytes
      (omega (arith, count, short)) (omega (arith, count, fits))
      ∙ ap (λ (k : ℕ). framed k identifier) count,
)

-- ---- on every line the same, but for 20

module _ (line : List ℕ) (room : ℕ) where
  pub same-but-20 : ((place : ℕ) → read_answer acknowledged line room ≡ Err (NotAcknowledged place) → ⊥)
      → (read_answer own line room ≡ read_answer acknowledged line room) × (payload_in own line ≡ payload_in acknowledged line)
  same-but-20 = same_answer line room

  pub unheard-slot : (place : ℕ) → read_answer acknowledged line room ≡ Err (NotAcknowledged place) →
      let frame = frame_behind nothing_sent [] (take place line) in
      (place < length line) × (get_or line place 0 ≡ 1) × (length frame ≡ crc_start frame + 16)
      × ((k : ℕ) → k < place
      → verdict own (run_behind nothing_sent (take k line)) (frame_behind nothing_sent [] (take k line)) k (get_or line k 0) ≡ right)
  unheard-slot place = not-acknowledged line room place

  pub never-20 : (place : ℕ) → read_answer own line room ≡ Err (NotAcknowledged place) → ⊥
  never-20 place = own-never-20 line room place

-- ---- the line of our maker, as it is

module _ (identifier : Identifier) (payload : List ℕ) (known : Allowed identifier) (bytes : Below 256 payload) (short : length payload ≤ 7) where
  abbrev line : List ℕ
  line = payload_line identifier payload

  -- with room for the payload it is accepted as our own, so it must be 20
  with-room : (place : ℕ) × (read_answer acknowledged line (length payload) ≡ Err (NotAcknowledged place))
  with-room = go (read_answer acknowledged line room) refl
    where
      room : ℕ
      room = length payload

      as_own : read_answer own line room ≡ framed room identifier
      as_own =
          ap (λ (l : List ℕ). read_answer own l room) (sym (own-ack identifier payload))
          ∙ (read_made own identifier payload 1 room known bytes short (omega arith) (omega arith)).0

      -- it holds a 1
      one : get_or line (length line - 9) 0 ≡ 1
      one =
          ap (λ (l : List ℕ). get_or l (length l - 9) 0) (sym (own-ack identifier payload)) ∙ slot-holds identifier (field_of payload) 1

      go : (answer : Result Frame Refusal) → read_answer acknowledged line room ≡ answer
          → (place : ℕ) × (read_answer acknowledged line room ≡ Err (NotAcknowledged place))
      go (Ok f) e =
          let coded = (heard-exactly line room f.identifier f.length).0 e in
          let zero = ap (λ (l : List ℕ). get_or l (length l - 9) 0) coded.1 ∙ slot-holds f.identifier (field_of coded.0) 0 in
          absurd (omega (arith, one, zero))
      go (Err r) e = by_number (eqb (number_of r) 20) refl
        where
          by_number : (t : Bool) → eqb (number_of r) 20 ≡ t
              → (place : ℕ) × (read_answer acknowledged line room ≡ Err (NotAcknowledged place))
          by_number true d = (place_of r, e ∙ ap Err (refusal-only r (NotAcknowledged (place_of r)) (eqb-true (number_of r) 20 d) refl))
          by_number false d =
              let other : (place : ℕ) → read_answer acknowledged line room ≡ Err (NotAcknowledged place) → ⊥
              = λ place q. let same : r ≡ NotAcknowledged place = cc in eqb-false (number_of r) 20 d (ap number_of same) in
              let never = sym as_own ∙ (same-but-20 line room other).0 ∙ e in
              let z : ◌≡◌ {A = ℕ} 0 1 = cc in absurd (omega arith)

  pub made-unheard : (room : ℕ) → (place : ℕ) × (read_answer acknowledged (payload_line identifier payload) room ≡ Err (NotAcknowledged place))
  made-unheard room =
      let place = with-room.0 in
      let stop = bits-refused acknowledged line (length payload) (NotAcknowledged place) with-room.1 (twenty place) in
      (place, read-stopped acknowledged line room stop.0 (NotAcknowledged place) stop.1)
