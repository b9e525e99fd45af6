-- What the kinds are. Assumes nothing.
--     kind-payload, kind-field, kind-unknown
--     NoKind, KindGiven    a byte that is none, and what holds of a byte where it is this kind
--     kind-given, given-kind    that holds of the kind of a byte, and of no other
use Rattle.std.proofs.Common.{◌≡◌, ℕ, ◌+◌, ◌-◌, ◌≤◌, Option, Some, None, ap, ◌∙◌, arith}
use Rattle.std.proofs.lemmas.Bool.Decides.{nat_tests}
use Rattle.records.specs.Records.{kind_of}
use Rattle.records.specs.declared.Record.{Record}
use Rattle.records.specs.declared.Record.TheVariants.{Payload, Field}

abbrev pub NoKind : ℕ → Type 0
NoKind byte = (0x10 ≤ byte → byte ≤ 0x18 → ⊥) × (0x20 ≤ byte → byte ≤ 0x29 → ⊥)

abbrev pub KindGiven : ℕ → Option Record → Type 0
KindGiven byte (Some (Payload n)) = (n ≤ 8) × (byte ≡ 0x10 + n)
KindGiven byte (Some (Field n)) = (n ≤ 9) × (byte ≡ 0x20 + n)
KindGiven byte None = NoKind byte

pub kind-payload : (byte : ℕ) → 0x10 ≤ byte → byte ≤ 0x18 → kind_of byte ≡ Some (Payload (byte - 0x10))
unfolding kind_of
kind-payload byte h g = grind (arith, nat_tests)

pub kind-field : (byte : ℕ) → 0x20 ≤ byte → byte ≤ 0x29 → kind_of byte ≡ Some (Field (byte - 0x20))
unfolding kind_of
kind-field byte h g = grind (arith, nat_tests)

pub kind-unknown : (byte : ℕ) → NoKind byte → kind_of byte ≡ None
unfolding kind_of
kind-unknown byte h = grind (arith, nat_tests)

pub given-kind : (byte : ℕ) (k : Option Record) → KindGiven byte k → kind_of byte ≡ k
given-kind byte (Some (Payload n)) h =
    kind-payload byte (omega (arith, h.1)) (omega (arith, h.0, h.1)) ∙ ap (λ (k : ℕ). Some (Payload k)) (omega (arith, h.1))
given-kind byte (Some (Field n)) h =
    kind-field byte (omega (arith, h.1)) (omega (arith, h.0, h.1)) ∙ ap (λ (k : ℕ). Some (Field k)) (omega (arith, h.1))
given-kind byte None h = kind-unknown byte h

pub kind-given : (byte : ℕ) → KindGiven byte (kind_of byte)
unfolding kind_of
kind-given byte = grind (arith, nat_tests)
