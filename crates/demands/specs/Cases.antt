-- Document 01's worked cases: those marked *, those of bounds, and its table by size; and those of change requests #102, #109
-- and #110. What is
-- said on paper, beside what the definitions give: evidence for these, and nothing to believe. Assumes nothing.
use Rattle.std.specs.Prelude.{◌≡◌, List, [], ◌∷◌, ◌++◌, ℕ, ◌*◌, length, set, take, drop, replicate}
use Rattle.bits.specs.Packing.{unpacked}
use Rattle.refusals.specs.Table.{Numbers, given, ◌at◌, answer_numbers}
use Rattle.field.specs.Sizes.{field_bytes, break_bit, padding_bits}
use Rattle.field.specs.Field.{field_of}
use Rattle.decoding.specs.Decode.{decode_answer}
use Rattle.crc.specs.Crc.{crc}
use Rattle.wire.specs.declared.Identifier.{Identifier}
use Rattle.wire.specs.declared.Identifier.TheVariants.{Base, Long}
use Rattle.wire.specs.Header.{header}
use Rattle.wire.specs.StuffBits.{after_header, after_crc}
use Rattle.wire.specs.Answers.{payload_line, length_answer, bounds_answer, bounds_numbers}
use Rattle.line.specs.Read.{acknowledged, own, read_answer, line_numbers}

-- a payload codes as a field; a field decodes, with room for seven bytes, to a refusal; the frame of an identifier and a payload has a
-- CRC, so many stuff bits in the header and in the CRC, and so many bits; its line has these bits from a place on; asking for the bounds
-- of an identifier and a size is answered so; reading a line, with room for seven bytes, is answered so as our own and so from a live bus; a
-- payload's size has, in the table, field bytes, break bit, word bits and padding bits [3.7, 16.1, 16.2, 16.4, 16.5, 16.6]
pub data Case : Type 0 where
  codes : List ℕ → List ℕ → Case
  refuses : List ℕ → Numbers → Case
  frames : Identifier → List ℕ → ℕ → ℕ → ℕ → ℕ → Case
  ends : Identifier → List ℕ → ℕ → List ℕ → Case
  bounds : Identifier → ℕ → Numbers → Case
  reads : List ℕ → Numbers → Numbers → Case
  row : ℕ → ℕ → List ℕ → ℕ → ℕ → Case

-- those marked * [16.1]
abbrev pub starred : List Case
starred =
    codes (0xF0 ∷ []) (0xEA ∷ 0x55 ∷ [])
    ∷ codes (0x00 ∷ []) (0x90 ∷ 0xD5 ∷ [])
    ∷ codes (0xFF ∷ []) (0xEF ∷ 0x15 ∷ [])
    ∷ codes (0x0E ∷ []) (0x95 ∷ 0x55 ∷ [])
    ∷ codes (0x10 ∷ []) (0x96 ∷ 0x55 ∷ [])
    ∷ codes (0x74 ∷ []) (0xBA ∷ 0x55 ∷ [])
    ∷ codes (0x80 ∷ []) (0xC2 ∷ 0x55 ∷ [])
    ∷ codes (0x00 ∷ 0x00 ∷ []) (0x10 ∷ 0xC8 ∷ 0x6A ∷ [])
    ∷ codes (0x00 ∷ 0x00 ∷ 0x00 ∷ 0x00 ∷ 0x00 ∷ 0x00 ∷ 0x00 ∷ []) (0x90 ∷ 0xC8 ∷ 0x64 ∷ 0x32 ∷ 0x19 ∷ 0x0C ∷ 0x86 ∷ 0x43 ∷ [])
    ∷ codes [] []
    ∷ refuses (0x90 ∷ 0x95 ∷ []) (5 at 0)
    ∷ refuses (0xEA ∷ 0x54 ∷ []) (7 at 0)
    ∷ refuses (0x6A ∷ 0x55 ∷ []) (4 at 0)
    ∷ frames (Base 0) [] 0 3 3 50
    ∷ []

-- these have no star [16.2]
abbrev pub of_bounds : List Case
of_bounds =
    bounds (Base 0x555) 1 (given 61 65)
    ∷ bounds (Base 0x555) 7 (given 108 112)
    ∷ bounds (Base 0) 1 (given 63 67)
    ∷ bounds (Base 2048) 0 (8 at 0)
    ∷ []

-- a CRC that ends in five 1s, and one that ends in five 0s: behind the five, at place 54, the stuff bit; four stuff bits in the CRC for
-- seven and for eight bytes of data, the last the longest frame of the base form [16.4]
abbrev pub of_stuffed_crc : List Case
of_stuffed_crc =
    frames (Base 0) (0x77 ∷ []) 0x07DF 3 2 65
    ∷ ends (Base 0) (0x77 ∷ []) 49 (replicate 5 1 ++ (0 ∷ replicate 10 1))
    ∷ frames (Base 0) (0x5F ∷ []) 0x7E20 3 2 65
    ∷ ends (Base 0) (0x5F ∷ []) 49 (replicate 5 0 ++ (1 ∷ replicate 10 1))
    ∷ frames (Base 0) (0x00 ∷ 0x00 ∷ 0x00 ∷ 0x01 ∷ 0x3E ∷ 0xBD ∷ []) 0x1E00 3 4 107
    ∷ frames (Base 0) (0x00 ∷ 0x00 ∷ 0x00 ∷ 0x00 ∷ 0x00 ∷ 0x82 ∷ 0xA6 ∷ []) 0x70F0 3 4 115
    ∷ []

-- the line of identifier 0 and the empty payload, whose ACK slot is at place 41: as it is, and with other bits from there on; and a line of
-- payload 5F without the stuff bit at 54 [16.5]
abbrev pub of_ack_slot : List Case
of_ack_slot =
    let made = payload_line (Base 0) [] in
    let old = payload_line (Base 0) (0x5F ∷ []) in
    reads made (given 0 0) (20 at 41)
    ∷ reads (set made 41 0) (given 0 0) (given 0 0)
    ∷ reads (set made 42 0) (13 at 42) (20 at 41)
    ∷ reads (set made 41 2) (9 at 41) (9 at 41)
    ∷ reads (take 41 made) (11 at 41) (11 at 41)
    ∷ reads (take 54 old ++ drop 55 old) (11 at 64) (20 at 56)
    ∷ []

-- in both forms: the greatest numbers, and those above them; frames of the long form, the last the longest; a line of it, and with other
-- bits for SRR, RTR and the two reserved bits; and lines that are told at the bit before IDE, behind the identifier's eleven bits [16.6]
abbrev pub of_forms : List Case
of_forms =
    let made = payload_line (Long 0x15555555) (0xF0 ∷ []) in
    let front : List ℕ = 0 ∷ 1 ∷ 0 ∷ 1 ∷ 0 ∷ 1 ∷ 0 ∷ 0 ∷ 1 ∷ 1 ∷ 1 ∷ 1 ∷ [] in
    bounds (Base 2047) 0 (given 47 51)
    ∷ bounds (Long 2047) 0 (given 70 74)
    ∷ bounds (Long 0x15555555) 7 (given 128 132)
    ∷ bounds (Long 536870911) 0 (given 71 75)
    ∷ bounds (Long 536870912) 0 (8 at 0)
    ∷ frames (Long 0) [] 0x4610 7 0 71
    ∷ frames (Long 0x555) (0xF0 ∷ []) 0x6B23 4 0 84
    ∷ frames (Long 0xC3C3C) (0x1E ∷ 0x52 ∷ 0x4C ∷ 0x83 ∷ 0xFB ∷ 0xB0 ∷ 0xB7 ∷ []) 0x0F0F 8 4 140
    ∷ reads made (given 1 0x95555555) (20 at 73)
    ∷ reads (set made 12 0) (13 at 12) (13 at 12)
    ∷ reads (set made 32 1) (13 at 32) (13 at 32)
    ∷ reads (set made 33 1) (13 at 33) (13 at 33)
    ∷ reads (set made 34 1) (13 at 34) (13 at 34)
    ∷ reads (front ++ (1 ∷ 1 ∷ [])) (10 at 13) (10 at 13)
    ∷ reads (front ++ (1 ∷ 0 ∷ 0 ∷ [])) (13 at 12) (13 at 12)
    ∷ reads (front ++ (1 ∷ 2 ∷ [])) (9 at 13) (9 at 13)
    ∷ reads (front ++ (1 ∷ [])) (11 at 13) (11 at 13)
    ∷ reads (front ++ (0 ∷ 1 ∷ [])) (13 at 12) (13 at 12)
    ∷ []

-- the table by size, as it is printed [3.7]
abbrev pub by_size : List Case
by_size =
    row 0 0 [] 0 0
    ∷ row 1 2 (1 ∷ []) 9 6
    ∷ row 2 3 (0 ∷ []) 18 5
    ∷ row 3 4 (1 ∷ []) 27 4
    ∷ row 4 5 (0 ∷ []) 36 3
    ∷ row 5 6 (1 ∷ []) 45 2
    ∷ row 6 7 (0 ∷ []) 54 1
    ∷ row 7 8 (1 ∷ []) 63 0
    ∷ []

-- what the definitions give is what the paper says [3.7, 16.1, 16.2, 16.4, 16.5, 16.6]
abbrev pub Right : Case → Type 0
Right (codes payload field) = field_of payload ≡ field
Right (refuses field numbers) = answer_numbers (decode_answer field 7) ≡ numbers
Right (frames identifier payload check in_header in_crc bits) =
    let header_bits = header identifier (length (field_of payload)) in
    let data_bits = unpacked 8 (field_of payload) in
    (crc (header_bits ++ data_bits) ≡ check) × (after_header header_bits data_bits ≡ in_header) × (after_crc header_bits data_bits ≡ in_crc)
    × (answer_numbers (length_answer identifier payload) ≡ given bits 0)
Right (ends identifier payload place bits) = drop place (payload_line identifier payload) ≡ bits
Right (bounds identifier size numbers) = bounds_numbers (bounds_answer identifier size) ≡ numbers
Right (reads line as_own live) = (line_numbers (read_answer own line 7) ≡ as_own) × (line_numbers (read_answer acknowledged line 7) ≡ live)
Right (row size n break words padding) =
    (field_bytes size ≡ n) × (break_bit n ≡ break) × (9 * size ≡ words) × (padding_bits size ≡ padding)

abbrev pub AllRight : List Case → Type 0
AllRight [] = Unit {0}
AllRight (c ∷ l) = Right c × AllRight l
