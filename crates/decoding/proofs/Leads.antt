-- The symbols of the words that are left lead to the answer and the payload that all words of a field lead to: the invariant of the loop
-- over them. Assumes nothing.
--     stops    the first that is no byte decides the answer
use mathlib.Core.Path.{◌≡◌, sym}
use mathlib.Core.List.{List, ◌∷◌, map}
use Prim.Native.Nat.{ℕ}
use Rattle.std.proofs.Common.{Err, Option, Some, None}
use Rattle.bits.specs.Rows.{number}
use Rattle.bits.specs.Packing.{unpacked}
use Rattle.words.specs.declared.Symbol.{Symbol}
use Rattle.words.specs.declared.Symbol.TheVariants.{Byte, Escape}
use Rattle.words.specs.Lists.{carried}
use Rattle.decoding.specs.Decode.{byte_of, words_answer, padding_answer}
use Rattle.decoding.specs.Reading.{padded, body_answer, body_bytes, no_byte}

-- the symbols l, as words from i on behind the bytes of `payload`, lead where all of the field's do
pub record Leads (field size count i payload : ℕ) (l : List (Option Symbol)) : Type 0 where
  pub to-answer : words_answer i l (padding_answer (padded count field) size) ≡ body_answer size count field
  pub to-payload : number payload (unpacked 8 (map byte_of l)) ≡ number 0 (unpacked 8 (body_bytes size count field))

pub stops : {field size count i payload : ℕ} (y : Option Symbol) {l : List (Option Symbol)} → carried y ≡ None → Leads field size count i payload (y ∷ l)
    → body_answer size count field ≡ Err (no_byte i y)
stops (Some (Byte x)) none leads = absurd (cc)
stops (Some Escape) none leads = sym leads.to-answer
stops None none leads = sym leads.to-answer
