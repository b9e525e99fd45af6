-- Calm rows: entered with a run of at most two, such a row draws no stuff bit and leaves a run of at most two. Assumes nothing.
use Rattle.std.specs.Prelude.{◌≡◌, List, ℕ, ◌≤◌, ◌<◌}
use Rattle.bits.specs.declared.Run.{Run}
use Rattle.bits.specs.Stuffing.{stuff_count, run_after_row}

-- a run of at most two bits
pub record Short (r : Run) : Type 0 where
  pub bit_is : r.bit < 2
  pub few : r.count ≤ 2

pub record CalmAfter (r : Run) (l : List ℕ) : Type 0 where
  pub no-stuff : stuff_count r l ≡ 0
  pub short : Short (run_after_row r l)

abbrev pub Calm : List ℕ → Type 0
Calm l = (r : Run) → Short r → CalmAfter r l
