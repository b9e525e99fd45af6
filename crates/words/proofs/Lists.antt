-- What the word list and the reverse list hold at each place, and how the reverse list and the short list come of one pass over the
-- nine-bit numbers. Assumes nothing.
--     word-list-at       at x stands the word of byte x
--     no-word-above      no number above 511 is among the words
--     reverse-list-at    at nine bits stands their place among the words
--     places-passed      what is made from each nine-bit number and its place among the words is made in one pass
use mathlib.Core.Path.{◌≡◌, refl, sym, ap, ◌∙◌}
use mathlib.Core.Bool.{Bool, true, false, cond}
use mathlib.Core.List.{map}
use Prim.Native.Nat.{ℕ, ◌≤◌, ◌<◌}
use native.Mathlib.Nat.{zero-add}
use native.Mathlib.Omega.{arith}
use lib.Dec.{ltb}
use lib.ListN.{length, get_or}
use borrow.Author.Tests.{ltb-true, ltb-false}
use Rattle.bits.specs.Numbers.{numbers_from}
use Rattle.bits.proofs.Numbers.{numbers-at}
use Rattle.words.specs.Words.{words, word_of}
use Rattle.words.specs.Symbols.{place_in}
use Rattle.words.specs.Lists.{word_list, reverse_list, place_by}
use Rattle.words.proofs.Among.{pass, one-pass}
use Rattle.words.proofs.Words.{words-258, words-below}
use Rattle.words.proofs.Places.{place_none}

pub word-list-at : (x : ℕ) → x < 256 → get_or word_list x 0 ≡ word_of x
unfolding word_list
word-list-at x h = numbers-at word_of 0 256 x h

pub no-word-above : (nine : ℕ) → 512 ≤ nine → place_in words nine ≡ 258
no-word-above nine h = place_none 512 words (λ i k. words-below i (omega (arith, words-258))) nine h ∙ words-258

pub reverse-list-at : (nine : ℕ) → place_by reverse_list nine ≡ place_in words nine
unfolding reverse_list
reverse-list-at nine = go (ltb nine 512) refl
  where
    go : (t : Bool) → ltb nine 512 ≡ t → cond t (get_or reverse_list nine 0) 258 ≡ place_in words nine
    go true e = numbers-at (place_in words) 0 512 nine (ltb-true nine 512 e)
    go false e = sym (no-word-above nine (ltb-false nine 512 e))

pub places-passed : (make : ℕ → ℕ → ℕ) → map (λ (nine : ℕ). make nine (place_in words nine)) (numbers_from 0 512) ≡ pass make 258 0 0 512
unfolding words
places-passed make = one-pass _ make 258 0 0 512 (zero-add (length words) ∙ words-258) (λ k h. ap (make k) (sym (zero-add (place_in words k))))
