-- What the frame of a line holds; cited between the crates alone. Assumes nothing.
use Rattle.std.specs.Prelude.{ℕ, ◌*◌, List, take, drop, Result, Ok, Err}
use Rattle.bits.specs.Rows.{number}
use Rattle.refusals.specs.declared.Refusal.{Refusal}
use Rattle.refusals.specs.Table.{Numbers, given, numbers}
use Rattle.wire.specs.Identifier.{number_for_c}
use Rattle.reading.specs.Scan.{data_start, identifier_in, dlc_in, Scanned, whole, stopped}
use Rattle.scanning.specs.declared.Held.{Held}

-- the data bits among the frame's bits, as one number [12.16]
unfoldable pub data_in : List ℕ → ℕ
data_in frame = number 0 (take (8 * dlc_in frame) (drop (data_start frame) frame))

-- the first problem met; else identifier, DLC and data bits [12.1, 12.15]
abbrev pub held_in : Scanned → Result Held Refusal
held_in (stopped met refusal) = Err refusal
held_in (whole frame) = Ok (record { identifier = identifier_in frame; field = record { n = dlc_in frame; number = data_in frame } })

-- in the document's numbers: the DLC, and the identifier; the data bits stand beside them [7.3, 7.5]
abbrev pub held_numbers : Result Held Refusal → Numbers
held_numbers = numbers (λ held. given held.field.n (number_for_c held.identifier))
