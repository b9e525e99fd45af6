-- What a DLC stands for. Assumes nothing.
use Rattle.std.specs.Prelude.{ℕ, cond, ltb}

-- how many data bytes a DLC stands for; ISO 11898-1 reads one above 8 as 8, and a line with it is refused before its CRC is looked at [12.5, 12.13]
unfoldable pub data_bytes : ℕ → ℕ
data_bytes dlc = cond (ltb 8 dlc) 8 dlc
