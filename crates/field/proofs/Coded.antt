-- A payload coded into one number, and the field of such a number. Assumes nothing.
--     coded-long       1, a payload of more than 7 bytes
--     coded-empty      the empty payload: no bytes
--     coded-short      a payload of at most 7 bytes: its field's bytes, and their number
--     coded-refused, coded-field    what an answer tells of the payload
--     from-length, from_bits    the field of a number: n bytes, and their bits are the number's lowest
--     from-number      bytes come back from their number
--     from-coded       and so does a payload's field
use mathlib.Core.Path.{◌≡◌, refl, sym, ap, ◌∙◌}
use mathlib.Core.Bool.{Bool, true, false, cond}
use mathlib.Core.List.{List, [], ◌∷◌}
use Prim.Native.Nat.{ℕ, ◌*◌, ◌≤◌, ◌<◌}
use native.Mathlib.Omega.{arith}
use lib.Dec.{ltb}
use lib.ListN.{length}
use lib.Seq.{take_all}
use borrow.Author.Tests.{lt-ltb, le-ltb, ltb-true, ltb-false}
use Rattle.std.proofs.Common.{Err}
use Rattle.bits.specs.Below.{Below}
use Rattle.bits.specs.Rows.{bits, number}
use Rattle.bits.specs.Packing.{unpacked, packed}
use Rattle.bits.proofs.Rows.{bits-length, bits_below}
use Rattle.bits.proofs.Packing.{packed-length, unpacked-packed, packed-number}
use Rattle.refusals.specs.declared.Refusal.{Refusal}
use Rattle.refusals.specs.declared.Refusal.TheVariants.{PayloadTooLong}
use Rattle.field.specs.Field.{field_of}
use Rattle.field.specs.Coded.{coded, coded_field, field_from}
use Rattle.field.specs.declared.encoding.Coded.{Coded}
use Rattle.field.proofs.FieldBits.{field_below}

pub coded-long : (payload : List ℕ) → 7 < length payload → coded payload ≡ Err PayloadTooLong
unfolding coded
coded-long payload h = simp (lt-ltb _ _ h)

pub coded-empty : (payload : List ℕ) → length payload ≡ 0 → coded payload ≡ coded_field 0 0
unfolding coded field_of packed unpacked number
coded-empty [] h = refl
coded-empty (x ∷ payload) h = absurd (omega arith)

pub coded-short : (payload : List ℕ) → length payload ≤ 7
    → coded payload ≡ coded_field (length (field_of payload)) (number 0 (unpacked 8 (field_of payload)))
unfolding coded
coded-short payload h = simp (le-ltb _ _ h)

-- the bytes of a field, and their number
pub record IsField (payload : List ℕ) (n v : ℕ) : Type 0 where
  pub short : length payload ≤ 7
  pub bytes : n ≡ length (field_of payload)
  pub number_is : v ≡ number 0 (unpacked 8 (field_of payload))

pub coded-field : (payload : List ℕ) (n v : ℕ) → coded payload ≡ coded_field n v → IsField payload n v
unfolding coded
coded-field payload n v e = go (ltb 7 (length payload)) refl e
  where
    go : (t : Bool) → ltb 7 (length payload) ≡ t
        → cond t (Err PayloadTooLong) (coded_field (length (field_of payload)) (number 0 (unpacked 8 (field_of payload)))) ≡ coded_field n v
        → IsField payload n v
    go true h e = let z : ◌≡◌ {A = ℕ} 0 1 = cc in absurd (omega arith)
    go false h e =
        let c : Coded = record { n = length (field_of payload); number = number 0 (unpacked 8 (field_of payload)) } in
        let d : Coded = record { n = n; number = v } in
        let same : c ≡ d = cc in record {
          short = omega (arith, ltb-false 7 (length payload) h);
          bytes = ap (λ (x : Coded). x.n) (sym same);
          number_is = ap (λ (x : Coded). x.number) (sym same);
        }

pub coded-refused : (payload : List ℕ) (refusal : Refusal) → coded payload ≡ Err refusal → (7 < length payload) × (refusal ≡ PayloadTooLong)
unfolding coded
coded-refused payload refusal e = go (ltb 7 (length payload)) refl e
  where
    go : (t : Bool) → ltb 7 (length payload) ≡ t
        → cond t (Err PayloadTooLong) (coded_field (length (field_of payload)) (number 0 (unpacked 8 (field_of payload)))) ≡ Err refusal
        → (7 < length payload) × (refusal ≡ PayloadTooLong)
    go true h e = (ltb-true 7 (length payload) h, cc)
    go false h e = let z : ◌≡◌ {A = ℕ} 0 1 = cc in absurd (omega arith)

pub from-length : (n v : ℕ) → length (field_from n v) ≡ n
unfolding field_from
from-length n v = packed-length 8 n (bits (8 * n) v)

pub from_bits : (n v : ℕ) → unpacked 8 (field_from n v) ≡ bits (8 * n) v
unfolding field_from
from_bits n v =
    let long = bits-length (8 * n) v in
    unpacked-packed 8 n (bits (8 * n) v) (bits_below (8 * n) v) (omega arith) ∙ take_all (8 * n) (bits (8 * n) v) (omega arith)

pub from-number : (n v : ℕ) (l : List ℕ) → Below 256 l → n ≡ length l → v ≡ number 0 (unpacked 8 l) → field_from n v ≡ l
unfolding field_from
from-number n v l below en ev = packed-number 8 n v l below en ev

pub from-coded : (payload : List ℕ) (n v : ℕ) → coded payload ≡ coded_field n v → field_from n v ≡ field_of payload
from-coded payload n v e =
    let found = coded-field payload n v e in
    from-number n v (field_of payload) (field_below payload) found.bytes found.number_is
