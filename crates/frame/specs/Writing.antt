-- What writing bits into a line leaves; no public contract cites it. Assumes nothing.
use Rattle.std.specs.Prelude.{ℕ, ◌+◌, ◌≤◌, ◌≡◌, List, ◌++◌, length}
use Rattle.std.specs.Borrow.{MutBor}
use Rattle.std.proofs.lemmas.List.Edits.{sets}
use Rattle.bits.specs.declared.Run.{Run}
use Rattle.bits.specs.Rows.{bits}
use Rattle.bits.specs.Stuffing.{stuffed, run_after_row}
use Rattle.wire.specs.Line.{ending}
use Rattle.frame.specs.Fours.{run_of}
use Rattle.frame.specs.declared.writing.Writer.{Writer}

-- n bits more fit into the line
abbrev pub Room : ℕ → Writer → Type 0
Room n w = w.at + n ≤ length w.line.now

-- a row stands at a place of the line that was lent, all else is as it was, and the next bit goes behind it
pub record Placed (at : ℕ) (row : List ℕ) (before : MutBor (List ℕ)) (w : Writer) : Type 0 where
  pub line-is : w.line.now ≡ sets before.now at row
  pub at-is : w.at ≡ at + length row
  pub same : w.line.ghost_name ≡ before.ghost_name

-- a row stands there as it is sent behind a run
pub record Written (r : Run) (at : ℕ) (row : List ℕ) (before : MutBor (List ℕ)) (w : Writer) : Type 0 where
  pub placed : Placed at (stuffed r row) before w
  pub run_is : run_of w.last.bits ≡ run_after_row r row

-- what follows the data field: the CRC bits with their stuff bits, and the ten bits that are never stuffed
abbrev pub tail_row : Run → ℕ → List ℕ
tail_row r crc = stuffed r (bits 15 crc) ++ ending 1
