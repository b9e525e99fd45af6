-- One number for each answer, as C takes it, and what C reads out of it. Assumes nothing.
use Rattle.std.specs.Prelude.{ℕ, ◌+◌, ◌*◌, ◌/◌, ◌%◌, ◌^◌}
use Rattle.refusals.specs.Table.{Numbers}

-- bits 0 to 15 a length or a place; bits 16 to 31 the refusal's number, 0 for none; bits 32 to 63 what else is answered, or 0 [13.1]
unfoldable pub pack : Numbers → ℕ
pack x = x.low + x.refusal * 2 ^ 16 + x.high * 2 ^ 32

-- the three parts of such a number [13.2]
abbrev pub told : ℕ → Numbers
told packed = record { refusal = packed / 2 ^ 16 % 2 ^ 16; low = packed % 2 ^ 16; high = packed / 2 ^ 32 }
