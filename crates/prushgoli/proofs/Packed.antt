-- Packing loses nothing. Assumes nothing.
--     Fits            refusal's number, and length or place, have 16 bits each, what else is answered 32
--     told_back       what C reads out of the number are the document's numbers that were packed
--     pack-only       two answers are packed alike only if their numbers are the same
--     refused-fits    a refusal fits if its place does
--     answer-packs, bounds-pack, line-packs    so an answer is packed into a number that tells which answer it was; of a line where the
--                     number of the identifier leaves bit 31 to its form
--     same-packed     a call that passes an answer on says what that answer says
use mathlib.Core.Path.{◌≡◌, sym, ap, ◌∙◌}
use mathlib.Core.List.{List}
use Prim.Native.Nat.{ℕ, ◌+◌, ◌*◌, ◌/◌, ◌%◌, ◌^◌, ◌<◌}
use Rattle.std.proofs.Common.{Result}
use native.Mathlib.Omega.{arith}
use Rattle.refusals.specs.Table.{Numbers, place_of, in_table, answer_numbers}
use Rattle.refusals.specs.declared.Refusal.{Refusal}
use Rattle.refusals.proofs.Table.{number_small, high-none}
use Rattle.refusals.proofs.Answers.{answer-only}
use Rattle.wire.specs.Answers.{bounds_numbers}
use Rattle.wire.specs.declared.Bounds.{Bounds}
use Rattle.wire.proofs.BoundsAnswers.{bounds-only}
use Rattle.line.specs.Read.{line_numbers}
use Rattle.line.specs.declared.Frame.{Frame}
use Rattle.line.proofs.ReadAnswers.{Bit31Free, line-only}
use Rattle.prushgoli.specs.Packing.{pack, told}

pub record Fits (x : Numbers) : Type 0 where
  pub low : x.low < 2 ^ 16
  pub refusal : x.refusal < 2 ^ 16
  pub high : x.high < 2 ^ 32

pub refused-fits : (r : Refusal) → place_of r < 2 ^ 16 → Fits (in_table r)
refused-fits r h = record { low = h; refusal = omega (arith, number_small r); high = omega (arith, high-none r) }

pub told_back : (x : Numbers) → Fits x → told (pack x) ≡ x
unfolding pack
told_back x f = λ i. record { refusal = second i; low = first i; high = third i }
  where
    first : (x.low + x.refusal * 2 ^ 16 + x.high * 2 ^ 32) % 2 ^ 16 ≡ x.low
    first = omega (arith, f.low, f.refusal)

    second : (x.low + x.refusal * 2 ^ 16 + x.high * 2 ^ 32) / 2 ^ 16 % 2 ^ 16 ≡ x.refusal
    second = omega (arith, f.low, f.refusal)

    third : (x.low + x.refusal * 2 ^ 16 + x.high * 2 ^ 32) / 2 ^ 32 ≡ x.high
    third = omega (arith, f.low, f.refusal)

pub pack-only : (x y : Numbers) → Fits x → Fits y → pack x ≡ pack y → x ≡ y
pack-only x y f g e = sym (told_back x f) ∙ ap told e ∙ told_back y g

pub answer-packs : (a b : Result ℕ Refusal) → Fits (answer_numbers a) → Fits (answer_numbers b) → pack (answer_numbers a) ≡ pack (answer_numbers b) → a ≡ b
answer-packs a b f g e = answer-only a b (pack-only (answer_numbers a) (answer_numbers b) f g e)

pub bounds-pack : (a b : Result Bounds Refusal) → Fits (bounds_numbers a) → Fits (bounds_numbers b) → pack (bounds_numbers a) ≡ pack (bounds_numbers b) → a ≡ b
bounds-pack a b f g e = bounds-only a b (pack-only (bounds_numbers a) (bounds_numbers b) f g e)

pub line-packs : (a b : Result Frame Refusal) → Bit31Free a → Bit31Free b → Fits (line_numbers a) → Fits (line_numbers b) → pack (line_numbers a) ≡ pack (line_numbers b)
    → a ≡ b
line-packs a b x y f g e = line-only a b x y (pack-only (line_numbers a) (line_numbers b) f g e)

pub same-packed : {A : Type 0} (numbers : A → Numbers) (memory : A → List ℕ) (a b : A) (r : ℕ) (left : List ℕ) → a ≡ b
    → r ≡ pack (numbers a) → left ≡ memory a → (r ≡ pack (numbers b)) × (left ≡ memory b)
same-packed numbers memory a b r left e n m = (n ∙ ap (λ x. pack (numbers x)) e, m ∙ ap memory e)
