-- What setting up the parts of a payload's frame gives; no public contract cites it. Assumes nothing.
use Rattle.std.specs.Prelude.{ℕ, ◌≤◌, ◌≡◌, List, length, Result, Ok, Err}
use Rattle.refusals.specs.declared.Refusal.{Refusal}
use Rattle.wire.specs.declared.Identifier.{Identifier}
use Rattle.wire.specs.Identifier.{Allowed, room_for}
use Rattle.wire.specs.Answers.{payload_line, length_answer, make_answer}
use Rattle.frame.specs.Parts.{line_in}
use Rattle.frame.specs.declared.parts.Parts.{Parts}

-- the parts of the payload's line, for which the room of the identifier's form is enough
pub record IsFrame (p : Parts) (identifier : Identifier) (payload : List ℕ) : Type 0 where
  pub allowed : Allowed identifier
  pub short : length payload ≤ 7
  pub line-is : line_in p ≡ payload_line identifier payload
  pub enough : length (line_in p) ≤ room_for identifier

-- these, or a refusal of the length and of the frame, whatever the room
abbrev pub Gives : Result Parts Refusal → Identifier → List ℕ → Type 0
Gives (Ok p) identifier payload = IsFrame p identifier payload
Gives (Err refusal) identifier payload =
    (length_answer identifier payload ≡ Err refusal) × ((room : ℕ) → make_answer identifier payload room ≡ Err refusal)
