-- The data field by size: what document 01's table goes by. Payloads have 0 to 7 bytes; above that these numbers mean nothing.
-- Assumes nothing.
use Rattle.std.specs.Prelude.{ℕ, zero, suc, ◌+◌, ◌-◌, ◌*◌, ◌%◌, List, [], ◌∷◌, length}

-- how many bytes the field of a payload has, which is the DLC: one more than the payload, but none for the empty payload [3.1, 3.7]
abbrev pub field_bytes : ℕ → ℕ
field_bytes zero = 0
field_bytes (suc size) = suc (suc size)

-- the break bit of a field of n bytes: the complement of the lowest bit of the DLC; the empty field has none [3.3, 3.7]
abbrev pub break_bit : ℕ → List ℕ
break_bit zero = []
break_bit (suc n) = (1 - suc n % 2) ∷ []

-- how many bits the break bit and the words leave for padding [3.5, 3.7]
abbrev pub padding_bits : ℕ → ℕ
padding_bits size = 8 * field_bytes size - (length (break_bit (field_bytes size)) + 9 * size)
