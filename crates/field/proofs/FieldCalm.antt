-- A field by itself has no five equal neighbours. Quiet means: draws no stuff bit. Assumes nothing.
--     padding-quiet    padding draws no stuff bit behind a run of at most three
--     payload-calm     the words of a payload are calm
--     body-quiet       words and padding draw no stuff bit behind a run of at most two
--     field-quiet      a field draws none where nothing was sent before it
--     quiet-behind-dlc    nor behind the DLC, whatever was sent before: the break bit is not the DLC's lowest bit
--     field-no-five    its bits have no five equal neighbours
--     bytes-no-five    nor have the bits of its bytes
use mathlib.Core.Path.{◌≡◌, refl, ap, ◌∙◌}
use mathlib.Core.Bool.{false}
use mathlib.Core.List.{List, [], ◌∷◌, ◌++◌}
use Prim.Native.Nat.{ℕ, zero, suc, ◌-◌, ◌%◌, ◌≤◌, ◌<◌}
use native.Mathlib.Nat.{zero-add, mod-lt}
use native.Mathlib.Omega.{arith}
use lib.Dec.{lit<}
use lib.ListN.{length}
use borrow.Author.Tests.{ne_eqb}
use Rattle.bits.specs.Below.{Below}
use Rattle.bits.specs.Rows.{bits}
use Rattle.bits.specs.Packing.{unpacked}
use Rattle.bits.specs.Neighbours.{equal_neighbours}
use Rattle.bits.specs.declared.Run.{Run}
use Rattle.bits.specs.Stuffing.{nothing_sent, counted, stuff_after, run_after, stuff_count, run_after_row}
use Rattle.bits.specs.Calm.{Short, CalmAfter, Calm}
use Rattle.bits.proofs.Stuffing.{counted-at-most, stuff_count-append}
use Rattle.bits.proofs.Neighbours.{no-five-neighbours}
use Rattle.bits.proofs.Calm.{calm-append, other-calm}
use Rattle.words.specs.Words.{word_of}
use Rattle.words.proofs.Words.{word-calm}
use Rattle.field.specs.Sizes.{field_bytes, break_bit, padding_bits}
use Rattle.field.specs.Padding.{padding}
use Rattle.field.specs.Field.{word_bits, field_bits, field_of}
use Rattle.field.proofs.FieldBits.{bits-of-field}

-- bits that alternate from the other value of the run's draw none
alternating : (r : Run) (count : ℕ) → r.bit < 2 → stuff_count r (padding (1 - r.bit) count) ≡ 0
unfolding stuff_after run_after stuff_count padding
alternating r zero h = refl
alternating r (suc count) h =
    simp (ne_eqb (1 - r.bit) r.bit (λ e. omega arith))
    (zero-add _ ∙ alternating (record { bit = 1 - r.bit; count = 1 }) count (omega arith))

pub padding-quiet : (r : Run) (first count : ℕ) → first < 2 → r.count ≤ 3 → stuff_count r (padding first count) ≡ 0
unfolding stuff_after run_after stuff_count padding
padding-quiet r first zero h g = refl
padding-quiet r first (suc count) h g =
    simp (ne_eqb (counted r first) 5 (λ e. omega (arith, counted-at-most r first)))
    (zero-add _ ∙ alternating (record { bit = first; count = counted r first }) count h)

pub payload-calm : (payload : List ℕ) → Below 256 payload → Calm (word_bits payload)
unfolding unpacked stuff_count run_after_row
payload-calm [] b = λ r h. record { no-stuff = refl; short = h }
payload-calm (x ∷ l) b = calm-append (bits 9 (word_of x)) (word_bits l) (word-calm x b.0) (payload-calm l b.1)

pub body-quiet : (r : Run) (payload : List ℕ) (first count : ℕ) → Short r → Below 256 payload → first < 2
    → stuff_count r (word_bits payload ++ padding first count) ≡ 0
body-quiet r payload first count h b g =
    let words = payload-calm payload b r h in
    let behind = run_after_row r (word_bits payload) in
    omega (
      arith,
      stuff_count-append r (word_bits payload) (padding first count),
      words.no-stuff,
      padding-quiet behind first count g (omega (arith, words.short.few)),
    )

-- where nothing was sent, the break bit draws none and starts a run of one
break-calm : (n : ℕ) → CalmAfter nothing_sent (break_bit n)
unfolding stuff_after run_after stuff_count run_after_row
break-calm zero = record { no-stuff = refl; short = record { bit_is = lit< tt; few = omega arith } }
break-calm (suc n) = go _ (omega arith)
  where
    go : (b : ℕ) → b < 2 → CalmAfter nothing_sent (b ∷ [])
    go zero h = record { no-stuff = refl; short = record { bit_is = lit< tt; few = omega arith } }
    go (suc zero) h = record { no-stuff = refl; short = record { bit_is = lit< tt; few = omega arith } }
    go (suc (suc b)) h = absurd (omega arith)

-- behind a run after which the break bit is calm
quiet-behind : (r : Run) (payload : List ℕ) → CalmAfter r (break_bit (field_bytes (length payload))) → Below 256 payload
    → stuff_count r (field_bits payload) ≡ 0
unfolding field_bits
quiet-behind r payload first b =
    let size = length payload in
    let rest = word_bits payload ++ padding 0 (padding_bits size) in
    omega (
      arith,
      stuff_count-append r (break_bit (field_bytes size)) rest,
      first.no-stuff,
      body-quiet (run_after_row r (break_bit (field_bytes size))) payload 0 (padding_bits size) first.short b (lit< tt),
    )

pub field-quiet : (payload : List ℕ) → Below 256 payload → stuff_count nothing_sent (field_bits payload) ≡ 0
field-quiet payload b = quiet-behind nothing_sent payload (break-calm (field_bytes (length payload))) b

pub quiet-behind-dlc : (r : Run) (payload : List ℕ) → Below 256 payload
    → stuff_count (run_after r (field_bytes (length payload) % 2)) (field_bits payload) ≡ 0
unfolding stuff_count unpacked padding field_bits
quiet-behind-dlc r [] b = refl
quiet-behind-dlc r (x ∷ l) b =
    let n = field_bytes (length (x ∷ l)) in
    quiet-behind (run_after r (n % 2)) (x ∷ l) (other-calm r (n % 2) (mod-lt n (lit< tt))) b

pub field-no-five : (payload : List ℕ) → Below 256 payload → equal_neighbours 5 (field_bits payload) ≡ false
field-no-five payload b = no-five-neighbours (field_bits payload) (field-quiet payload b)

pub bytes-no-five : (payload : List ℕ) → Below 256 payload → length payload ≤ 7 → equal_neighbours 5 (unpacked 8 (field_of payload)) ≡ false
bytes-no-five payload b h = ap (equal_neighbours 5) (bits-of-field payload h) ∙ field-no-five payload b
