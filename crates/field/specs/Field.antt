-- The data field of a payload. Assumes nothing.
use Rattle.std.specs.Prelude.{ℕ, List, ◌++◌, map, length}
use Rattle.bits.specs.Packing.{unpacked, packed}
use Rattle.words.specs.Words.{word_of}
use Rattle.field.specs.Sizes.{field_bytes, break_bit, padding_bits}
use Rattle.field.specs.Padding.{padding}

-- the bits of the words, in payload order [3.2]
abbrev pub word_bits : List ℕ → List ℕ
word_bits payload = unpacked 9 (map word_of payload)

-- the break bit, then the words, then padding, always from 0 [3.2, 3.4]
unfoldable pub field_bits : List ℕ → List ℕ
field_bits payload =
    let size = length payload in
    break_bit (field_bytes size) ++ (word_bits payload ++ padding 0 (padding_bits size))

-- the same in bytes; the most significant bit of each is sent first [3.6]
unfoldable pub field_of : List ℕ → List ℕ
field_of payload = packed 8 (field_bytes (length payload)) (field_bits payload)
