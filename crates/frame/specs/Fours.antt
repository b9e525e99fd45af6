-- Four bits at a time, as the code sends them; no public contract cites it. Assumes nothing.
use Rattle.std.specs.Prelude.{ℕ, ◌+◌, ◌-◌, ◌*◌, ◌/◌, ◌%◌, List, map, length}
use Rattle.bits.specs.Numbers.{numbers_from}
use Rattle.bits.specs.Rows.{bits, number}
use Rattle.bits.specs.declared.Run.{Run}
use Rattle.bits.specs.Stuffing.{nothing_sent, stuffed, run_after_row}

-- the run that ends four bits; it is that of all that was sent, if these were sent last
abbrev pub run_of : ℕ → Run
run_of last = run_after_row nothing_sent (bits 4 last)

-- four bits as they are sent behind those sent last: as a number, with 32 added where a stuff bit is among them
abbrev pub sent_of : ℕ → ℕ → ℕ
sent_of last four = let row = stuffed (run_of last) (bits 4 four) in number 0 row + 32 * (length row - 4)

unfoldable pub sent_list : List ℕ
sent_list = map (λ (i : ℕ). sent_of (i / 16) (i % 16)) (numbers_from 0 256)

-- four bits as the bytes of a line
unfoldable pub byte_list : List (List ℕ)
byte_list = map (bits 4) (numbers_from 0 16)

-- the CRC bits, and behind them one that draws no stuff bit: the last of them negated
abbrev pub quiet_check : ℕ → ℕ
quiet_check crc = crc * 2 + 1 - crc % 2
