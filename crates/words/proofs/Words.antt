-- The laws of the words. What is computed from the rule is computed once, over the whole list. Assumes nothing.
--     words-258             there are exactly 258 words
--     J-is, K-is            the first is 001000010, the last 110111101
--     J-number, K-number    as numbers 66 and 445
--     words-rise            the list of words is strictly increasing
--     words-below           a word is a nine-bit number
--     words-exactly         a nine-bit number is among the words exactly when it keeps the rule
--     words-keep-rule       every word keeps the rule
--     words-calm            every word is calm
--     word_below, word-keeps-rule, word-calm, word-order
--                           the same of the word of a byte
--     word-of-complement    the word of 255 - x is the bitwise complement of the word of x
--     word-half             the first bit of the word of a byte is the highest bit of the byte
use mathlib.Core.Path.{◌≡◌, refl, ap, subst}
use mathlib.Core.Bool.{Bool, true, false, ◌&&◌}
use mathlib.Core.List.{List, [], ◌∷◌, map}
use mathlib.Core.Logic.{⊎_elim}
use Prim.Native.Nat.{ℕ, zero, suc, ◌+◌, ◌-◌, ◌/◌, ◌≤◌, ◌<◌, zero-le}
use native.Mathlib.Nat.{le_of_suc-le-suc, not-suc-le-zero, eq-or-lt_of_le}
use native.Mathlib.Omega.{arith}
use lib.Dec.{T, ltb, lt→ltb}
use lib.ListN.{length, get_or}
use mir.Facts.{and_yes}
use borrow.Author.Tests.{ltb-true, ltb-false}
use Rattle.bits.specs.Rows.{bits}
use Rattle.bits.specs.Neighbours.{equal_neighbours}
use Rattle.bits.specs.Stuffing.{stuff_after, run_after, stuff_count, run_after_row}
use Rattle.bits.proofs.Everywhere.{everywhere-at}
use Rattle.bits.specs.Same.{same}
use Rattle.bits.proofs.Same.{same-eq}
use Rattle.bits.proofs.Rising.{rising, rising-at}
use Rattle.bits.specs.Calm.{Calm}
use Rattle.bits.proofs.Calm.{is_calm, calm-row}
use Rattle.words.specs.Words.{keeps_rule, words, word_of}
use Rattle.words.specs.Symbols.{place_in}
use Rattle.words.proofs.Places.{place_at}
use Rattle.words.proofs.Among.{among-exactly}

-- ---- what is computed

-- a test passes at each number of a list
abbrev every : (ℕ → Bool) → List ℕ → Bool
every test [] = true
every test (x ∷ l) = test x && every test l

every-at : (test : ℕ → Bool) (l : List ℕ) → T (every test l) → (i : ℕ) → i < length l → T (test (get_or l i 0))
every-at test [] t i h = absurd (not-suc-le-zero h)
every-at test (x ∷ l) t zero h = (and_yes (test x) (every test l) t).0
every-at test (x ∷ l) t (suc i) h = every-at test l (and_yes (test x) (every test l) t).1 i (le_of_suc-le-suc h)

abbrev calm_word : ℕ → Bool
calm_word w = is_calm (bits 9 w)

-- a list's length, and what it has for J, the bytes 127 and 128, and K
abbrev marks : List ℕ → List ℕ
marks l = length l ∷ get_or l 0 0 ∷ get_or l 128 0 ∷ get_or l 129 0 ∷ get_or l 257 0 ∷ []

abbrev marks_of_words : List ℕ
marks_of_words = 258 ∷ 66 ∷ 246 ∷ 265 ∷ 445 ∷ []

-- one test of all three: each test of its own would compute the words anew
abbrev passes : List ℕ → Bool
passes l = same (marks l) marks_of_words && (rising l && every calm_word l)

words-pass : T (passes words)
unfolding bits equal_neighbours words stuff_after run_after stuff_count run_after_row
words-pass = tt

record Computed : Type 0 where
  marked : marks words ≡ marks_of_words
  in_order : T (rising words)
  all-calm : T (every calm_word words)

computed : Computed
computed =
    let first = and_yes (same (marks words) marks_of_words) (rising words && every calm_word words) words-pass in
    let rest = and_yes (rising words) (every calm_word words) first.1 in
    record { marked = same-eq (marks words) marks_of_words first.0; in_order = rest.0; all-calm = rest.1 }

mark : (i : ℕ) → get_or (marks words) i 0 ≡ get_or marks_of_words i 0
mark i = ap (λ (l : List ℕ). get_or l i 0) computed.marked

-- ---- the words

pub words-258 : length words ≡ 258
words-258 = mark 0

pub J-number : get_or words 0 0 ≡ 66
J-number = mark 1

pub K-number : get_or words 257 0 ≡ 445
K-number = mark 4

pub J-is : bits 9 (get_or words 0 0) ≡ 0 ∷ 0 ∷ 1 ∷ 0 ∷ 0 ∷ 0 ∷ 0 ∷ 1 ∷ 0 ∷ []
unfolding bits
J-is = ap (bits 9) J-number

pub K-is : bits 9 (get_or words 257 0) ≡ 1 ∷ 1 ∷ 0 ∷ 1 ∷ 1 ∷ 1 ∷ 1 ∷ 0 ∷ 1 ∷ []
unfolding bits
K-is = ap (bits 9) K-number

pub words-rising : T (rising words)
words-rising = computed.in_order

pub words-rise : (i j : ℕ) → i < j → j < 258 → get_or words i 0 < get_or words j 0
words-rise i j h k = rising-at words words-rising i j h (omega (arith, words-258))

-- at places up to j no word is greater than that at j
words-least : (i j : ℕ) → i ≤ j → j < 258 → get_or words i 0 ≤ get_or words j 0
words-least i j h k =
    ⊎_elim (λ e. let equal = ap (λ (m : ℕ). get_or words m 0) e in omega arith) (λ less. omega (arith, words-rise i j less k))
    (eq-or-lt_of_le h)

pub words-below : (i : ℕ) → i < 258 → get_or words i 0 < 512
words-below i h = omega (arith, K-number, words-least i 257 (omega arith) (omega arith))

pub words-exactly : (nine : ℕ) → nine < 512 → ltb (place_in words nine) (length words) ≡ keeps_rule (bits 9 nine)
unfolding words
words-exactly nine h = among-exactly 0 512 nine zero-le h

pub words-keep-rule : (i : ℕ) → i < 258 → T (keeps_rule (bits 9 (get_or words i 0)))
words-keep-rule i h =
    let w = get_or words i 0 in
    let place = place_at words words-rising i (omega (arith, words-258)) in
    subst T (words-exactly w (words-below i h)) (lt→ltb (place_in words w) (length words) (omega (arith, place, words-258)))

pub words-calm : (i : ℕ) → i < 258 → Calm (bits 9 (get_or words i 0))
words-calm i h = calm-row (bits 9 (get_or words i 0)) (every-at calm_word words computed.all-calm i (omega (arith, words-258)))

-- ---- the same of the word of a byte

pub word_below : (x : ℕ) → x < 256 → word_of x < 512
unfolding word_of
word_below x h = words-below _ (omega arith)

pub word-keeps-rule : (x : ℕ) → x < 256 → T (keeps_rule (bits 9 (word_of x)))
unfolding word_of
word-keeps-rule x h = words-keep-rule _ (omega arith)

pub word-calm : (x : ℕ) → x < 256 → Calm (bits 9 (word_of x))
unfolding word_of
word-calm x h = words-calm _ (omega arith)

pub word-order : (x y : ℕ) → x < y → y < 256 → word_of x < word_of y
unfolding word_of
word-order x y h k = words-rise _ _ (omega arith) (omega arith)

pub word-of-complement : (x : ℕ) → x < 256 → bits 9 (word_of (255 - x)) ≡ map (1 -◌) (bits 9 (word_of x))
unfolding bits equal_neighbours words word_of
word-of-complement x h =
    same-eq (bits 9 (word_of (255 - x))) (map (1 -◌) (bits 9 (word_of x)))
    (everywhere-at (λ (k : ℕ). same (bits 9 (word_of (255 - k))) (map (1 -◌) (bits 9 (word_of k)))) 256 tt x h)

pub word-half : (x : ℕ) → x < 256 → word_of x / 256 ≡ x / 128
unfolding word_of
word-half x h = go (ltb x 128) refl
  where
    of-127 : get_or words 128 0 ≡ 246
    of-127 = mark 2

    of-128 : get_or words 129 0 ≡ 265
    of-128 = mark 3

    go : (t : Bool) → ltb x 128 ≡ t → get_or words (x + 1) 0 / 256 ≡ x / 128
    go true e =
        let low = ltb-true x 128 e in
        omega (arith, of-127, words-least (x + 1) 128 (omega arith) (omega arith))
    go false e =
        let high = ltb-false x 128 e in
        omega (arith, of-128, words-least 129 (x + 1) (omega arith) (omega arith), words-below (x + 1) (omega arith))
