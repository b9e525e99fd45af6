-- Change request #110: identifiers of two forms, each with its number. What is said of frames and lines elsewhere holds for both forms; here
-- is what tells them apart. Assumes nothing.
--     base-limit, long-limit    which numbers are allowed: up to 2047 in the base form, up to 536,870,911 in the long one, and no others
--     base-header      the header of the base form, bit by bit from its first: 19 of them
--     long-header      and of the long form: 39
--     line-tells       a line is that of one identifier, with its form, and one payload
--     forms-apart      so the lines of two identifiers of different form are never the same
--     identifier-told  and an accepted line tells form and number of the identifier of which it is the line
--     for-c-told       C's number for an identifier tells form and number, and each number is that of the identifier that it stands for
--     bit-31           bit 31 set, it stands for a long one
use mathlib.Core.Path.{◌≡◌, sym}
use mathlib.Core.List.{List, [], ◌∷◌, ◌++◌}
use Prim.Native.Nat.{ℕ, ◌-◌, ◌/◌, ◌^◌, ◌≤◌, ◌<◌}
use native.Mathlib.Omega.{arith}
use lib.ListN.{length, take, drop}
use Rattle.bits.specs.Below.{Below}
use Rattle.bits.specs.Rows.{bits}
use Rattle.wire.specs.declared.Identifier.{Identifier}
use Rattle.wire.specs.declared.Identifier.TheVariants.{Base, Long}
use Rattle.wire.specs.Identifier.{number_in, greatest, Allowed, number_for_c, identifier_of}
use Rattle.wire.specs.Header.{header}
use Rattle.wire.specs.Answers.{payload_line}
use Rattle.wire.proofs.Identifiers as identifiers
use Rattle.wire.proofs.HeaderBits as bits_of
use Rattle.reading.specs.declared.Reading.{Reading}
use Rattle.line.specs.Ack.{with_ack}
use Rattle.line.specs.Read.{read_answer, payload_in, framed}
use Rattle.line.proofs.RoundTrip.{accepted-is-coded}
use Rattle.line.proofs.LineTells as lines

-- ---- what an identifier may be, and its bits

pub base-limit : (number : ℕ) → (number ≤ 2047 → Allowed (Base number)) × (2047 < number → greatest (Base number) < number_in (Base number))
base-limit = identifiers.base-limit

pub long-limit : (number : ℕ)
    → (number ≤ 536870911 → Allowed (Long number)) × (536870911 < number → greatest (Long number) < number_in (Long number))
long-limit = identifiers.long-limit

module _ (number n : ℕ) where
  pub base-header :
      let bits_are = header (Base number) n in
      (length bits_are ≡ 19) × (take 1 bits_are ≡ 0 ∷ []) × (take 11 (drop 1 bits_are) ≡ bits 11 number)
      × (take 3 (drop 12 bits_are) ≡ 0 ∷ 0 ∷ 0 ∷ []) × (drop 15 bits_are ≡ bits 4 n)
  base-header = (
    bits_of.header-length (Base number) n,
    bits_of.start-in-place (Base number) n,
    bits_of.base-identifier-in-place number n,
    bits_of.base-fixed-in-place number n,
    bits_of.base-dlc-in-place number n,
  )

  pub long-header :
      let bits_are = header (Long number) n in
      (length bits_are ≡ 39) × (take 1 bits_are ≡ 0 ∷ []) × (take 11 (drop 1 bits_are) ≡ bits 11 (number / 2 ^ 18))
      × (take 2 (drop 12 bits_are) ≡ 1 ∷ 1 ∷ []) × (take 18 (drop 14 bits_are) ≡ bits 18 number)
      × (take 3 (drop 32 bits_are) ≡ 0 ∷ 0 ∷ 0 ∷ []) × (drop 35 bits_are ≡ bits 4 n)
      × (take 11 (drop 1 bits_are) ++ take 18 (drop 14 bits_are) ≡ bits 29 number)
  long-header = (
    bits_of.header-length (Long number) n,
    bits_of.start-in-place (Long number) n,
    bits_of.long-high-in-place number n,
    bits_of.long-marks-in-place number n,
    bits_of.long-low-in-place number n,
    bits_of.long-fixed-in-place number n,
    bits_of.long-dlc-in-place number n,
    bits_of.long-identifier-in-place number n,
  )

-- ---- a line tells its identifier

pub line-tells : (i j : Identifier) (p q : List ℕ) (a b : ℕ) → Allowed i → Allowed j → Below 256 p → Below 256 q → length p ≤ 7 → length q ≤ 7
    → with_ack a (payload_line i p) ≡ with_ack b (payload_line j q) → (i ≡ j) × (p ≡ q) × (a ≡ b)
line-tells = lines.line-tells

pub forms-apart : (x y : ℕ) (p q : List ℕ) (a b : ℕ) → x ≤ 2047 → y ≤ 536870911 → Below 256 p → Below 256 q → length p ≤ 7 → length q ≤ 7
    → with_ack a (payload_line (Base x) p) ≡ with_ack b (payload_line (Long y) q) → ⊥
forms-apart = lines.forms-apart

pub identifier-told : (reading : Reading) (i j : Identifier) (payload : List ℕ) (ack room n : ℕ) → Allowed j → Below 256 payload
    → length payload ≤ 7 → read_answer reading (with_ack ack (payload_line j payload)) room ≡ framed n i → i ≡ j
identifier-told reading i j payload ack room n known bytes short accepted =
    let line = with_ack ack (payload_line j payload) in
    let coded = accepted-is-coded reading line room i n accepted in
    let few : length (payload_in reading line) ≤ 7 = omega (arith, coded.length-is, coded.short) in
    (lines.line-tells i j (payload_in reading line) payload coded.ack ack coded.known known coded.bytes bytes few short
    (sym coded.line-is)).0

-- ---- C's number for it

pub for-c-told : ((x : Identifier) → Allowed x → (identifier_of (number_for_c x) ≡ x) × (number_for_c x < 2 ^ 32))
    × ((number : ℕ) → number_for_c (identifier_of number) ≡ number)
for-c-told = (
  λ x known. (identifiers.for-c-back x (identifiers.allowed-small x known), identifiers.for-c-small x known),
  identifiers.from-c-back,
)

pub bit-31 : (number : ℕ) → (number < 2 ^ 31 → identifier_of number ≡ Base number) × (2 ^ 31 ≤ number → identifier_of number ≡ Long (number - 2 ^ 31))
bit-31 number = (identifiers.from-c-base number, identifiers.from-c-long number)
