-- The laws of what nine bits stand for. Assumes nothing.
--     word_back            the word of x stands for x
--     word-only            nine bits that stand for x are the word of x
--     word-once            two bytes never share a word
--     carried-byte         what carries a byte is that byte's word
--     nothing-exactly      nine bits stand for nothing exactly when they do not keep the rule
--     nothing_above        a number above 511 stands for nothing
--     escapes-are          the escapes are 001000010 and 110111101
use mathlib.Core.Path.{◌≡◌, refl, sym, ap, ap₂, ◌∙◌}
use mathlib.Core.Bool.{Bool, true, false, cond, ◌||◌, true≢false}
use mathlib.Core.Logic.{◌↔◌}
use Prim.Native.Nat.{ℕ, ◌+◌, ◌-◌, ◌≤◌, ◌<◌}
use native.Mathlib.Omega.{arith}
use lib.Dec.{eqb, ltb}
use lib.ListN.{get_or}
use borrow.Author.Tests.{lt-ltb, le-ltb, ltb-true, ltb-false, eqb-true, eqb-false, ne_eqb}
use Rattle.std.proofs.Common.{Option, Some, None, is_some}
use Rattle.bits.specs.Rows.{bits}
use Rattle.words.specs.Words.{keeps_rule, words, word_of}
use Rattle.words.specs.Symbols.{place_in, symbol_at, symbol_of, byte}
use Rattle.words.specs.Lists.{carried, is_escape}
use Rattle.words.specs.declared.Symbol.{Symbol}
use Rattle.words.specs.declared.Symbol.TheVariants.{Byte, Escape}
use Rattle.words.proofs.Places.{place_found, place_at, place_is}
use Rattle.words.proofs.Words.{words-258, J-number, K-number, words-rising, words-exactly}
use Rattle.words.proofs.Lists.{no-word-above}

word-place : (x : ℕ) → x < 256 → place_in words (word_of x) ≡ x + 1
unfolding word_of
word-place x h = place_at words words-rising (x + 1) (omega (arith, words-258))

pub word_back : (x : ℕ) → x < 256 → symbol_of (word_of x) ≡ byte x
unfolding symbol_of
word_back x h = rw (word-place x h) (simp (ne_eqb (x + 1) 0 (λ e. omega arith), lt-ltb (x + 1) 257 (omega arith)) (ap byte (omega arith)))

pub word-once : (x y : ℕ) → x < 256 → y < 256 → word_of x ≡ word_of y → x ≡ y
word-once x y h k e = cc (word_back x h, word_back y k)

byte-place : (p x : ℕ) → symbol_at p ≡ byte x → (p ≡ x + 1) × (x < 256)
byte-place p x e = go (eqb p 0) refl (ltb p 257) refl (eqb p 257) e
  where
    go : (a : Bool) → eqb p 0 ≡ a → (b : Bool) → ltb p 257 ≡ b → (c : Bool)
        → cond a (Some Escape) (cond b (byte (p - 1)) (cond c (Some Escape) None)) ≡ byte x → (p ≡ x + 1) × (x < 256)
    go true ea b eb c q = let z : ◌≡◌ {A = ℕ} 0 1 = cc in absurd (omega arith)
    go false ea true eb c q =
        let n : p - 1 ≡ x = cc in
        let some : p ≡ 0 → ⊥ = eqb-false p 0 ea in
        let within : p < 257 = ltb-true p 257 eb in
        omega arith
    go false ea false eb true q = let z : ◌≡◌ {A = ℕ} 0 1 = cc in absurd (omega arith)
    go false ea false eb false q = let z : ◌≡◌ {A = ℕ} 0 1 = cc in absurd (omega arith)

pub word-only : (nine x : ℕ) → symbol_of nine ≡ byte x → (nine ≡ word_of x) × (x < 256)
unfolding symbol_of word_of
word-only nine x e =
    let p = byte-place (place_in words nine) x e in
    (sym (place_found words nine (omega (arith, words-258))) ∙ ap (λ (k : ℕ). get_or words k 0) p.0, p.1)

pub carried-byte : (y : Option Symbol) (x : ℕ) → carried y ≡ Some x → y ≡ byte x
carried-byte (Some (Byte z)) x e = cc
carried-byte (Some Escape) x e = cc
carried-byte None x e = cc

is_some-at : (p : ℕ) → is_some (symbol_at p) ≡ ltb p 258
is_some-at p = go (eqb p 0) refl (ltb p 257) refl (eqb p 257) refl
  where
    go : (a : Bool) → eqb p 0 ≡ a → (b : Bool) → ltb p 257 ≡ b → (c : Bool) → eqb p 257 ≡ c
        → is_some (cond a (Some Escape) (cond b (byte (p - 1)) (cond c (Some Escape) None))) ≡ ltb p 258
    go true ea b eb c ec = sym (lt-ltb p 258 (omega (arith, eqb-true p 0 ea)))
    go false ea true eb c ec = sym (lt-ltb p 258 (omega (arith, ltb-true p 257 eb)))
    go false ea false eb true ec = sym (lt-ltb p 258 (omega (arith, eqb-true p 257 ec)))
    go false ea false eb false ec =
        let other = eqb-false p 257 ec in
        sym (le-ltb p 258 (omega (arith, ltb-false p 257 eb)))

only-none : (y : Option Symbol) → is_some y ≡ false → y ≡ None
only-none (Some y) e = absurd (true≢false e)
only-none None e = refl

pub nothing-exactly : (nine : ℕ) → nine < 512 → (symbol_of nine ≡ None) ↔ (keeps_rule (bits 9 nine) ≡ false)
unfolding symbol_of
nothing-exactly nine h = (λ e. sym exactly ∙ ap is_some e, λ e. only-none (symbol_of nine) (exactly ∙ e))
  where
    exactly : is_some (symbol_of nine) ≡ keeps_rule (bits 9 nine)
    exactly = is_some-at (place_in words nine) ∙ ap (ltb (place_in words nine)) (sym words-258) ∙ words-exactly nine h

pub nothing_above : (nine : ℕ) → 512 ≤ nine → symbol_of nine ≡ None
unfolding symbol_of
nothing_above nine h = ap symbol_at (no-word-above nine h)

-- J or K as a number
abbrev pub is_jk : ℕ → Bool
is_jk nine = eqb nine 66 || eqb nine 445

escape-at : (p : ℕ) → is_escape (symbol_at p) ≡ (eqb p 0 || eqb p 257)
escape-at p = go (eqb p 0) (ltb p 257) refl (eqb p 257) refl
  where
    go : (a b : Bool) → ltb p 257 ≡ b → (c : Bool) → eqb p 257 ≡ c
        → is_escape (cond a (Some Escape) (cond b (byte (p - 1)) (cond c (Some Escape) None))) ≡ (a || c)
    go true b eb c ec = refl
    go false true eb true ec = let less = ltb-true p 257 eb in absurd (omega (arith, eqb-true p 257 ec))
    go false true eb false ec = refl
    go false false eb true ec = refl
    go false false eb false ec = refl

pub escapes-are : (nine : ℕ) → is_escape (symbol_of nine) ≡ is_jk nine
unfolding symbol_of
escapes-are nine = escape-at (place_in words nine) ∙ ap₂ ◌||◌ (at 0 66 (omega arith) J-number) (at 257 445 (omega arith) K-number)
  where
    at : (i w : ℕ) → i < 258 → get_or words i 0 ≡ w → eqb (place_in words nine) i ≡ eqb nine w
    at i w h e = place_is words words-rising nine i (omega (arith, words-258)) ∙ ap (eqb nine) e
