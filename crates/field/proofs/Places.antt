-- Where each bit of a field stands that is not empty. Assumes nothing.
--     break-in-place       coding puts first the break bit, the complement of the lowest bit of the DLC
--     word-in-place        then the words: that of byte i in the nine bits from 1 + 9 i on
--     padding-in-place     then padding, 0, 1, 0, 1 and so on
use mathlib.Core.Path.{◌≡◌, sym, ap, ◌∙◌}
use mathlib.Core.List.{List, [], ◌∷◌, map}
use Prim.Native.Nat.{ℕ, ◌+◌, ◌-◌, ◌*◌, ◌%◌, ◌<◌}
use native.Mathlib.Nat.{zero-add, not-suc-le-zero}
use native.Mathlib.Omega.{arith}
use lib.Dec.{lit<}
use lib.ListN.{length, get_or, take, drop, length-map, get_or-map}
use lib.Seq.{get_or-drop, drop-drop, drop_at}
use Rattle.bits.specs.Rows.{bits}
use Rattle.bits.proofs.Packing.{unpacked-at}
use Rattle.words.specs.Words.{word_of}
use Rattle.field.specs.Sizes.{padding_bits}
use Rattle.field.specs.Padding.{padding}
use Rattle.field.specs.Field.{word_bits, field_bits}
use Rattle.field.proofs.FieldBits.{word_bits-length}
use Rattle.field.proofs.PaddingBits.{padding-at}

pub break-in-place : (payload : List ℕ) → 0 < length payload → get_or (field_bits payload) 0 0 ≡ 1 - (length payload + 1) % 2
unfolding field_bits
break-in-place [] h = absurd (not-suc-le-zero h)
break-in-place (x ∷ payload) h = omega arith

pub word-in-place : (payload : List ℕ) (i : ℕ) → i < length payload
    → take 9 (drop (1 + 9 * i) (field_bits payload)) ≡ bits 9 (word_of (get_or payload i 0))
unfolding field_bits
word-in-place [] i h = absurd (not-suc-le-zero h)
word-in-place (x ∷ payload) i h =
    let all = x ∷ payload in
    ap (take 9) (sym (drop-drop (9 * i) 1 (field_bits all)))
    ∙ unpacked-at 9 (word_of 0) (map word_of all) (padding 0 (padding_bits (length all))) i (rw (length-map all word_of) h)
    ∙ ap (bits 9) (get_or-map word_of all i 0)

pub padding-in-place : (payload : List ℕ) (i : ℕ) → 0 < length payload → i < padding_bits (length payload)
    → get_or (field_bits payload) (1 + 9 * length payload + i) 0 ≡ i % 2
unfolding field_bits
padding-in-place [] i h g = absurd (not-suc-le-zero h)
padding-in-place (x ∷ payload) i h g =
    let all = x ∷ payload in
    let words = 9 * length all in
    let pad = padding 0 (padding_bits (length all)) in
    sym (get_or-drop (1 + words) (field_bits all) i 0)
    ∙ ap (λ (l : List ℕ). get_or l i 0) (sym (drop-drop words 1 (field_bits all)) ∙ drop_at (word_bits all) pad words (word_bits-length all))
    ∙ padding-at 0 (padding_bits (length all)) i (lit< tt) g
    ∙ ap (◌% 2) (zero-add i)
