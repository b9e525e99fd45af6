-- A made line tells what it was made of. Assumes nothing.
--     line-tells      identifier, payload and the bit in the ACK slot
--     forms-apart     so no line of the base form is one of the long form
use mathlib.Core.Path.{◌≡◌, sym, ap, ◌∙◌}
use mathlib.Core.List.{List}
use Prim.Native.Nat.{ℕ, ◌-◌, ◌≤◌}
use native.Mathlib.Omega.{arith}
use lib.ListN.{length, get_or}
use Rattle.bits.specs.Below.{Below}
use Rattle.field.specs.Field.{field_of}
use Rattle.wire.specs.declared.Identifier.{Identifier}
use Rattle.wire.specs.declared.Identifier.TheVariants.{Base, Long}
use Rattle.wire.specs.Identifier.{Allowed}
use Rattle.wire.specs.Answers.{payload_line}
use Rattle.line.specs.Read.{own, read_answer, payload_in, framed}
use Rattle.line.specs.Ack.{with_ack}
use Rattle.line.proofs.ReadAnswers.{framed-only}
use Rattle.line.proofs.RoundTrip.{slot_apart, slot-holds, read_made}

pub line-tells : (i j : Identifier) (p q : List ℕ) (a b : ℕ) → Allowed i → Allowed j
    → Below 256 p → Below 256 q → length p ≤ 7 → length q ≤ 7
    → with_ack a (payload_line i p) ≡ with_ack b (payload_line j q) → (i ≡ j) × (p ≡ q) × (a ≡ b)
line-tells i j p q a b known known' bytes bytes' short short' e =
    let made = sym (slot_apart i (field_of p) a) ∙ ap (with_ack 1) e ∙ slot_apart j (field_of q) b in
    let line = ap (with_ack 1) made in
    let first = read_made own i p 1 7 known bytes short short (omega arith) in
    let second = read_made own j q 1 7 known' bytes' short' short' (omega arith) in
    let same : framed (length p) i ≡ framed (length q) j = sym first.0 ∙ ap (λ (l : List ℕ). read_answer own l 7) line ∙ second.0 in (
      (framed-only _ _ _ _ same).1,
      sym first.1 ∙ ap (payload_in own) line ∙ second.1,
      sym (slot-holds i (field_of p) a) ∙ ap (λ (l : List ℕ). get_or l (length l - 9) 0) e ∙ slot-holds j (field_of q) b,
    )

pub forms-apart : (x y : ℕ) (p q : List ℕ) (a b : ℕ) → x ≤ 2047 → y ≤ 536870911
    → Below 256 p → Below 256 q → length p ≤ 7 → length q ≤ 7
    → with_ack a (payload_line (Base x) p) ≡ with_ack b (payload_line (Long y) q) → ⊥
forms-apart x y p q a b known known' bytes bytes' short short' e =
    let same : Base x ≡ Long y = (line-tells (Base x) (Long y) p q a b known known' bytes bytes' short short' e).0 in
    let z : ◌≡◌ {A = ℕ} 0 1 = cc in
    omega arith
