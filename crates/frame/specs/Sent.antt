-- What follows four bits as they are sent; no public contract cites it. Assumes nothing.
use Rattle.std.specs.Prelude.{◌≡◌, ℕ, ◌≤◌, List, [], ◌∷◌, ◌++◌, length, Option, Some, None}
use Rattle.bits.specs.Rows.{bits}
use Rattle.bits.specs.declared.Run.{Run}
use Rattle.bits.specs.Stuffing.{stuffed, stuff_count, run_after_row}
use Rattle.frame.specs.Fours.{run_of}
use Rattle.frame.specs.declared.stuffing.Counted.{Counted}
use Rattle.frame.specs.declared.stuffing.Sent.{Sent}

-- the bit that goes out before the last four, if there is one
abbrev pub first_bits : Option ℕ → List ℕ
first_bits (Some bit) = bit ∷ []
first_bits None = []

-- four bits as they are sent behind those sent last
pub record IsSent (last four : ℕ) (sent : Sent) : Type 0 where
  pub row_is : first_bits sent.first ++ bits 4 sent.last.bits ≡ stuffed (run_of last) (bits 4 four)
  pub run_is : run_of sent.last.bits ≡ run_after_row (run_of last) (bits 4 four)
  pub drawn_is : length (first_bits sent.first) ≡ stuff_count (run_of last) (bits 4 four)

-- the stuff bits that a row draws behind a run, and four bits that end in the run behind it
pub record Counts (r : Run) (row : List ℕ) (counted : Counted) : Type 0 where
  pub run_is : run_of counted.last.bits ≡ run_after_row r row
  pub drawn-is : counted.drawn ≡ stuff_count r row
  pub few : counted.drawn ≤ length row
