-- A line with a bit of one's choice in its ACK slot, the ninth bit from the end. Assumes nothing. [4.8]
use Rattle.std.specs.Prelude.{ℕ, ◌-◌, List, length, set}

unfoldable pub with_ack : ℕ → List ℕ → List ℕ
with_ack ack line = set line (length line - 9) ack
