-- What each call answers can be packed. Assumes nothing.
--     encode-fits, decode-fits, length-fits, make-fits, bounds-fit, read_fits
--     bounds-both    both bounds have 16 bits
use mathlib.Core.Path.{◌≡◌, refl, ap}
use mathlib.Core.List.{List}
use Prim.Native.Nat.{ℕ, ◌^◌, ◌<◌}
use native.Mathlib.Omega.{arith}
use lib.Dec.{lit<}
use Rattle.std.proofs.Common.{Result, Ok, Err}
use Rattle.refusals.specs.declared.Refusal.{Refusal}
use Rattle.refusals.specs.Table.{Numbers, given, numbers, answer_numbers}
use Rattle.refusals.proofs.Table.{high-none}
use Rattle.field.specs.Encode.{encode_answer}
use Rattle.field.proofs.Small.{encode-small}
use Rattle.decoding.specs.Decode.{decode_answer}
use Rattle.decoding.proofs.Small.{decode-small}
use Rattle.wire.specs.declared.Identifier.{Identifier}
use Rattle.wire.specs.Identifier.{number_for_c}
use Rattle.wire.specs.Answers.{make_answer, length_answer, bounds_answer, bounds_numbers}
use Rattle.wire.specs.declared.Bounds.{Bounds}
use Rattle.wire.proofs.Small.{length-small, make-small, bounds-small}
use Rattle.reading.specs.declared.Reading.{Reading}
use Rattle.line.specs.Read.{read_answer, line_numbers}
use Rattle.line.specs.declared.Frame.{Frame}
use Rattle.line.proofs.Small.{read_small}
use Rattle.prushgoli.proofs.Packed.{Fits, refused-fits}

-- of each answer the refusal's number is small
given-fits : {A : Type 0} (told : A → Numbers) → ((x : A) → (told x).refusal ≡ 0) → (a : Result A Refusal)
    → (numbers told a).low < 2 ^ 16 → (numbers told a).high < 2 ^ 32 → Fits (numbers told a)
given-fits told none (Ok x) h g = record { low = h; refusal = omega (arith, none x); high = g }
given-fits told none (Err r) h g = refused-fits r h

length-high : (a : Result ℕ Refusal) → (answer_numbers a).high < 2 ^ 32
length-high (Ok n) = lit< tt
length-high (Err r) = omega (arith, high-none r)

answer-fits : (a : Result ℕ Refusal) → (answer_numbers a).low < 2 ^ 16 → Fits (answer_numbers a)
answer-fits a h = given-fits (λ n. given n 0) (λ n. refl) a h (length-high a)

-- the numbers of an answer that is said to be another's
low : {A : Type 0} (numbers : A → Numbers) {a b : A} → a ≡ b → (numbers a).low ≡ (numbers b).low
low numbers = ap (λ x. (numbers x).low)

high : {A : Type 0} (numbers : A → Numbers) {a b : A} → a ≡ b → (numbers a).high ≡ (numbers b).high
high numbers = ap (λ x. (numbers x).high)

pub encode-fits : (payload : List ℕ) (room : ℕ) (a : Result ℕ Refusal) → a ≡ encode_answer payload room → Fits (answer_numbers a)
encode-fits payload room a e = answer-fits a (omega (arith, low answer_numbers e, encode-small payload room))

pub decode-fits : (field : List ℕ) (room : ℕ) (a : Result ℕ Refusal) → a ≡ decode_answer field room → Fits (answer_numbers a)
decode-fits field room a e = answer-fits a (omega (arith, low answer_numbers e, decode-small field room))

module _ (identifier : Identifier) (payload : List ℕ) where
  pub length-fits : (a : Result ℕ Refusal) → a ≡ length_answer identifier payload → Fits (answer_numbers a)
  length-fits a e = answer-fits a (omega (arith, low answer_numbers e, length-small identifier payload))

  pub make-fits : (room : ℕ) (a : Result ℕ Refusal) → a ≡ make_answer identifier payload room → Fits (answer_numbers a)
  make-fits room a e = answer-fits a (omega (arith, low answer_numbers e, make-small identifier payload room))

pub bounds-both : (identifier : Identifier) (size : ℕ) (b : Result Bounds Refusal) → b ≡ bounds_answer identifier size
    → ((bounds_numbers b).low < 2 ^ 16) × ((bounds_numbers b).high < 2 ^ 16)
bounds-both identifier size b e =
    let few = bounds-small identifier size in
    (omega (arith, low bounds_numbers e, few.0), omega (arith, high bounds_numbers e, few.1))

pub bounds-fit : (identifier : Identifier) (size : ℕ) (b : Result Bounds Refusal) → b ≡ bounds_answer identifier size → Fits (bounds_numbers b)
bounds-fit identifier size b e =
    let both = bounds-both identifier size b e in
    given-fits (λ b. given b.least b.most) (λ b. refl) b both.0 (omega (arith, both.1))

pub read_fits : (reading : Reading) (line : List ℕ) (room : ℕ) (l : Result Frame Refusal) → l ≡ read_answer reading line room → Fits (line_numbers l)
read_fits reading line room l e =
    let few = read_small reading line room in
    given-fits (λ f. given f.length (number_for_c f.identifier)) (λ f. refl) l (omega (arith, low line_numbers e, few.0)) (omega (arith, high line_numbers e, few.1))
