-- What the short list tells of nine bits. Assumes nothing.
--     short-byte    an entry below 128 is a byte's seven lowest bits; the byte's highest is the first of the nine
--     short_none    nine bits whose entry is from 128 on carry none
use mathlib.Core.Path.{◌≡◌, refl, ap, ◌∙◌}
use mathlib.Core.Bool.{Bool, true, false, cond}
use Prim.Native.Nat.{ℕ, ◌+◌, ◌*◌, ◌/◌, ◌<◌}
use native.Mathlib.Omega.{arith}
use lib.Dec.{ltb}
use lib.ListN.{get_or}
use borrow.Author.Tests.{ltb-true, ltb-false}
use Rattle.std.proofs.Common.{Option, Some, None}
use Rattle.bits.proofs.Numbers.{numbers-at}
use Rattle.words.specs.Symbols.{symbol_of, byte}
use Rattle.words.specs.Lists.{short_list, entry_of, entry_by, carried}
use Rattle.words.specs.declared.Symbol.{Symbol}
use Rattle.words.specs.declared.Symbol.TheVariants.{Byte, Escape}
use Rattle.words.proofs.Words.{word-half}
use Rattle.words.proofs.Symbols.{word-only, nothing_above}

pub short-byte : (nine : ℕ) → entry_by short_list nine < 128 → symbol_of nine ≡ byte (nine / 256 * 128 + entry_by short_list nine)
unfolding short_list
short-byte nine = go (ltb nine 512) refl
  where
    byte_is : (y : Option Symbol) → symbol_of nine ≡ y → entry_of nine y < 128 → y ≡ byte (nine / 256 * 128 + entry_of nine y)
    byte_is (Some (Byte x)) e h =
        let word = word-only nine x e in
        let half : nine / 256 ≡ x / 128 = ap (◌/ 256) word.0 ∙ word-half x word.1 in
        ap byte (omega arith)
    byte_is (Some Escape) e h = absurd (omega arith)
    byte_is None e h = absurd (omega arith)

    go : (t : Bool) → ltb nine 512 ≡ t → cond t (get_or short_list nine 0) 128 < 128
        → symbol_of nine ≡ byte (nine / 256 * 128 + cond t (get_or short_list nine 0) 128)
    go true e =
        rw (numbers-at (λ (k : ℕ). entry_of k (symbol_of k)) 0 512 nine (ltb-true nine 512 e)) (byte_is (symbol_of nine) refl)
    go false e = λ h. absurd (omega arith)

pub short_none : (nine : ℕ) → 127 < entry_by short_list nine → carried (symbol_of nine) ≡ None
unfolding short_list
short_none nine = go (ltb nine 512) refl
  where
    none : (y : Option Symbol) → 127 < entry_of nine y → carried y ≡ None
    none (Some (Byte x)) h = absurd (omega arith)
    none (Some Escape) h = refl
    none None h = refl

    go : (t : Bool) → ltb nine 512 ≡ t → 127 < cond t (get_or short_list nine 0) 128 → carried (symbol_of nine) ≡ None
    go true e =
        rw (numbers-at (λ (k : ℕ). entry_of k (symbol_of k)) 0 512 nine (ltb-true nine 512 e)) (none (symbol_of nine))
    go false e = λ h. rw (nothing_above nine (ltb-false nine 512 e)) refl
