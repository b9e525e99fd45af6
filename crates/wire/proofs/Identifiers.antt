-- An identifier and its number, and the one number that C has for both. Assumes nothing.
--     base-limit, long-limit    which numbers are allowed: up to 2047 in the base form, up to 536,870,911 in the long one, and no others
--     told-refused, told-allowed    where the test of the two numbers tells it
--     base-room, long-room      the room asked for: 116 bits, or 141
--     from-c-long, from-c-base      where bit 31 is set C's number is that of a long identifier, and else of a base one
--     for-c-back, for-c-only      C's number tells form and number, as long as the number leaves bit 31 alone
--     from-c-back           and each number is that of the identifier that it stands for
--     allowed-small, for-c-small    an allowed number leaves bit 31 alone, and C's number for it has 32 bits
use mathlib.Core.Path.{◌≡◌, refl, sym, ap, ◌∙◌}
use mathlib.Core.Bool.{Bool, true, false, cond}
use Prim.Native.Nat.{ℕ, ◌+◌, ◌-◌, ◌^◌, ◌≤◌, ◌<◌}
use native.Mathlib.Omega.{arith}
use lib.Dec.{ltb}
use borrow.Author.Tests.{lt-ltb, le-ltb, ltb-true, ltb-false}
use Rattle.wire.specs.declared.Identifier.{Identifier}
use Rattle.wire.specs.declared.Identifier.TheVariants.{Base, Long}
use Rattle.wire.specs.Identifier.{number_in, greatest, Allowed, room_for, number_for_c, identifier_of}

pub base-limit : (number : ℕ) → (number ≤ 2047 → Allowed (Base number)) × (2047 < number → greatest (Base number) < number_in (Base number))
base-limit number = (λ h. h, λ h. h)

pub long-limit : (number : ℕ)
    → (number ≤ 536870911 → Allowed (Long number)) × (536870911 < number → greatest (Long number) < number_in (Long number))
long-limit number = (λ h. h, λ h. h)

pub told-refused : (x : Identifier) (t : Bool) → t ≡ ltb (greatest x) (number_in x) → t ≡ true → greatest x < number_in x
told-refused x t e is = ltb-true _ _ (sym e ∙ is)

pub told-allowed : (x : Identifier) (t : Bool) → t ≡ ltb (greatest x) (number_in x) → t ≡ false → Allowed x
told-allowed x t e is = ltb-false _ _ (sym e ∙ is)

pub base-room : (number : ℕ) → room_for (Base number) ≡ 116
base-room number = refl

pub long-room : (number : ℕ) → room_for (Long number) ≡ 141
long-room number = refl

pub from-c-base : (w : ℕ) → w < 2 ^ 31 → identifier_of w ≡ Base w
from-c-base w h = simp (lt-ltb w (2 ^ 31) h)

pub from-c-long : (w : ℕ) → 2 ^ 31 ≤ w → identifier_of w ≡ Long (w - 2 ^ 31)
from-c-long w h = simp (le-ltb w (2 ^ 31) h)

pub for-c-back : (x : Identifier) → number_in x < 2 ^ 31 → identifier_of (number_for_c x) ≡ x
for-c-back (Base number) h = from-c-base number h
for-c-back (Long number) h =
    let number_is : 2 ^ 31 + number - 2 ^ 31 ≡ number = omega arith in
    from-c-long (2 ^ 31 + number) (omega arith) ∙ ap Long number_is

pub for-c-only : (x y : Identifier) → number_in x < 2 ^ 31 → number_in y < 2 ^ 31 → number_for_c x ≡ number_for_c y → x ≡ y
for-c-only x y h g e = sym (for-c-back x h) ∙ ap identifier_of e ∙ for-c-back y g

pub from-c-back : (w : ℕ) → number_for_c (identifier_of w) ≡ w
from-c-back w = go (ltb w (2 ^ 31)) refl
  where
    go : (t : Bool) → ltb w (2 ^ 31) ≡ t → number_for_c (cond t (Base w) (Long (w - 2 ^ 31))) ≡ w
    go true e = refl
    go false e = omega (arith, ltb-false w (2 ^ 31) e)

pub allowed-small : (x : Identifier) → Allowed x → number_in x < 2 ^ 31
allowed-small (Base number) h = omega arith
allowed-small (Long number) h = omega arith

pub for-c-small : (x : Identifier) → Allowed x → number_for_c x < 2 ^ 32
for-c-small (Base number) h = omega arith
for-c-small (Long number) h = omega arith
