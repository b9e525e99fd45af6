-- What a DLC stands for. Assumes nothing.
--     data-bytes, data-bytes-most    a DLC up to 8 counts the data bytes; one above stands for 8
use mathlib.Core.Path.{◌≡◌}
use Prim.Native.Nat.{ℕ, ◌≤◌, ◌<◌}
use borrow.Author.Tests.{lt-ltb, le-ltb}
use Rattle.crc.specs.Dlc.{data_bytes}

pub data-bytes : (dlc : ℕ) → dlc ≤ 8 → data_bytes dlc ≡ dlc
unfolding data_bytes
data-bytes dlc h = simp (le-ltb 8 dlc h)

pub data-bytes-most : (dlc : ℕ) → 8 < dlc → data_bytes dlc ≡ 8
unfolding data_bytes
data-bytes-most dlc h = simp (lt-ltb 8 dlc h)
