-- A number four bits at a time, as the code takes it; no public contract cites it. Assumes nothing.
use Rattle.std.specs.Prelude.{ℕ, ◌*◌, ◌/◌, ◌%◌, ◌^◌}

-- the four bits of a number behind which `left` times four are left
abbrev pub four_at : ℕ → ℕ → ℕ
four_at number left = number / 2 ^ (4 * left) % 16
