-- What writing a part of a line leaves; no public contract cites it. Assumes nothing.
use Rattle.std.specs.Prelude.{◌≡◌, List, [], ℕ, ◌+◌, ◌≤◌, length, take, Result, Ok, Err, IfOk}
use Rattle.std.proofs.lemmas.List.Edits.{sets}
use Rattle.refusals.specs.declared.Refusal.{Refusal}
use Rattle.report.specs.declared.text.Text.{Text}

-- a text has room for so many bytes more
abbrev pub HasRoom : ℕ → Text → Type 0
HasRoom n text = text.end + n ≤ length text.bytes.now

-- these bytes stand behind what was written, all else is as it was
pub record Wrote (row : List ℕ) (before after : Text) : Type 0 where
  pub bytes-are : after.bytes.now ≡ sets before.bytes.now before.end row
  pub end-is : after.end ≡ before.end + length row
  pub long-is : length after.bytes.now ≡ length before.bytes.now
  pub same : after.bytes.ghost_name ≡ before.bytes.ghost_name

-- the result of an answer stands at the start of these bytes
abbrev pub held_in : Result ℕ Refusal → List ℕ → List ℕ
held_in (Ok n) bytes = take n bytes
held_in (Err refusal) bytes = []

abbrev pub Holds : Result ℕ Refusal → List ℕ → Type 0
Holds answer bytes = IfOk answer (λ n. (n ≤ 8) × (n ≤ length bytes))
