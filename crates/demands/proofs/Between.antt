-- The calls between the crates that can refuse, in document 01's numbers. Assumes nothing.
--     code-refused    coding a payload into one number: 1, place 0, exactly when the payload is longer than 7 bytes
--     code-given      else the bytes of its field, and their number
--     number-wide     decoding a field that is one number: 3, place 0, where the number has bits above those of n bytes
--     number-decoded  else as decoding these bytes
--     scan-passed     what scanning a line refuses, reading it refuses with the same number and place
use mathlib.Core.Path.{◌≡◌, refl, ap}
use mathlib.Core.List.{List}
use mathlib.Core.Logic.{◌↔◌}
use Prim.Native.Nat.{ℕ, ◌*◌, ◌^◌, ◌≤◌, ◌<◌}
use native.Mathlib.Omega.{arith}
use lib.ListN.{length}
use Rattle.bits.specs.Rows.{number}
use Rattle.bits.specs.Packing.{unpacked}
use Rattle.std.proofs.Common.{Result, Ok, Err}
use Rattle.refusals.specs.declared.Refusal.{Refusal}
use Rattle.refusals.specs.Table.{Numbers, given, ◌at◌, answer_numbers}
use Rattle.field.specs.Field.{field_of}
use Rattle.field.specs.Coded.{coded, coded_numbers, field_from}
use Rattle.field.specs.declared.encoding.Coded.{Coded}
use Rattle.field.proofs.Coded.{coded-long, coded-short, coded-refused}
use Rattle.decoding.specs.Decode.{decode_answer}
use Rattle.decoding.specs.Number.{number_answer}
use Rattle.decoding.proofs.NumberAnswers as numbers
use Rattle.reading.specs.Scan.{scanned}
use Rattle.reading.specs.declared.Reading.{Reading}
use Rattle.scanning.specs.Held.{held_in, held_numbers}
use Rattle.scanning.specs.declared.Held.{Held}
use Rattle.line.specs.Read.{read_answer, line_numbers}
use Rattle.line.proofs.FromScan.{from-refused}

module _ (payload : List ℕ) where
  pub code-refused : coded_numbers (coded payload) ≡ (1 at 0) ↔ 7 < length payload
  code-refused = (go (coded payload) refl, λ long. ap coded_numbers (coded-long payload long))
    where
      go : (c : Result Coded Refusal) → coded payload ≡ c → coded_numbers c ≡ (1 at 0) → 7 < length payload
      go (Ok c) e one = let none : ◌≡◌ {A = ℕ} 0 1 = ap (λ (x : Numbers). x.refusal) one in absurd (omega arith)
      go (Err r) e one = (coded-refused payload r e).0

  pub code-given : length payload ≤ 7
      → coded_numbers (coded payload) ≡ given (length (field_of payload)) (number 0 (unpacked 8 (field_of payload)))
  code-given short = ap coded_numbers (coded-short payload short)

module _ (n v room : ℕ) where
  pub number-wide : 2 ^ (8 * n) ≤ v → answer_numbers (number_answer n v room) ≡ (3 at 0)
  number-wide wide = ap answer_numbers (numbers.number-wide n v room wide)

  pub number-decoded : v < 2 ^ (8 * n) → number_answer n v room ≡ decode_answer (field_from n v) room
  number-decoded fits = numbers.number_fits n v room fits

pub scan-passed : (reading : Reading) (line : List ℕ) (room : ℕ) →
    let scan = held_in (scanned reading line) in
    0 < (held_numbers scan).refusal → line_numbers (read_answer reading line room) ≡ held_numbers scan
scan-passed reading line room = go (held_in (scanned reading line)) refl
  where
    go : (h : Result Held Refusal) → held_in (scanned reading line) ≡ h → 0 < (held_numbers h).refusal → line_numbers (read_answer reading line room) ≡ held_numbers h
    go (Ok h) e some = absurd (omega arith)
    go (Err r) e some = ap line_numbers (from-refused reading line room r e)
