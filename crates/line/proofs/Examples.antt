-- Lines read by hand, as one statement over one list. Assumes nothing.
--     long-made      two lines of the long form, written down here, are the made ones
--     lines-right    what reading each of them answers, as our own and from a live bus, in the document's numbers
use mathlib.Core.Path.{◌≡◌, refl}
use mathlib.Core.List.{List, [], ◌∷◌, ◌++◌, map}
use Prim.Native.Nat.{ℕ}
use lib.ListN.{set, take, replicate}
use Rattle.bits.specs.Rows.{bits, number}
use Rattle.bits.specs.Packing.{unpacked, packed}
use Rattle.bits.specs.Stuffing.{stuff_after, run_after, stuffed}
use Rattle.bits.specs.Neighbours.{equal_neighbours}
use Rattle.refusals.specs.Table.{Numbers, given, ◌at◌}
use Rattle.words.specs.Words.{words, word_of}
use Rattle.words.specs.Symbols.{place_in, symbol_of}
use Rattle.field.specs.Padding.{padding}
use Rattle.field.specs.Field.{field_bits, field_of}
use Rattle.decoding.specs.Parts.{break_part, words_part, padding_part}
use Rattle.decoding.specs.Decode.{decode_answer}
use Rattle.crc.specs.Crc.{xor, divide, remainder, crc}
use Rattle.wire.specs.declared.Identifier.TheVariants.{Long}
use Rattle.wire.specs.Header.{header}
use Rattle.wire.specs.Line.{crc_bits, stuffed_row, line_of, frame_line}
use Rattle.wire.specs.Answers.{payload_line}
use Rattle.reading.specs.Form.{header_form, form}
use Rattle.reading.specs.Scan.{long_in, header_width, identifier_in, dlc_in, crc_start, complete, stuff_due, must_be, shown, verdict, run_with, frame_with, scan, scanned}
use Rattle.line.specs.Read.{acknowledged, own, field_in, read_answer, line_numbers}

-- the frame of identifier 0 and the empty payload: 19 + 15 bits 0, six times five of them with a stuff bit; the last is at place 39
abbrev pub empty : List ℕ
empty = unpacked 6 (replicate 6 1) ++ (replicate 4 0 ++ replicate 10 1)

-- the frame of identifier 0 and payload 77, whose CRC ends in five 1s at place 53: the stuff bit is at place 54
abbrev pub ending1s : List ℕ
ending1s = unpacked 6 (replicate 3 1) ++ (bits 4 2 ++ (bits 16 0xBB15 ++ (bits 17 0b00001111100111110 ++ replicate 10 1)))

-- and of payload 5F, whose CRC ends in five 0s there
abbrev pub ending0s : List ℕ
ending0s = unpacked 6 (replicate 3 1) ++ (bits 4 2 ++ (bits 16 0xB315 ++ (bits 17 0b11110110001000001 ++ replicate 10 1)))

-- start of frame and an identifier of eleven bits
abbrev pub begins : ℕ → List ℕ
begins identifier = 0 ∷ bits 11 identifier

-- the header of identifier 555 hex and DLC 2 or 3: five 0s from RTR to the second DLC bit, a stuff bit, two DLC bits
abbrev pub header555 : ℕ → List ℕ
header555 dlc = begins 0x555 ++ (bits 6 1 ++ bits 2 dlc)

-- the frame of the long identifier 555 hex and payload F0: eleven bits 0 behind the start of frame, SRR and IDE 1 at places 14 and 15,
-- the low 18 bits of the identifier, RTR and two reserved bits 0 at places 35 to 37
abbrev pub long_f0 : List ℕ
long_f0 =
    bits 16 0b0000010000010011
    ++ (bits 8 0b00000100 ++ (bits 11 0x555 ++ (bits 8 0b00000110 ++ (bits 16 0xEA55 ++ (bits 15 0b110101100100011 ++ replicate 10 1)))))

-- the frame of the long identifier 15555555 hex and the empty payload
abbrev pub long_empty : List ℕ
long_empty = begins 0x555 ++ (1 ∷ 1 ∷ (bits 18 0x15555 ++ (bits 8 0b00000100 ++ (bits 15 0b011000110010110 ++ replicate 10 1))))

-- both are made so
pub long-made : (long_f0 ≡ payload_line (Long 0x555) (0xF0 ∷ [])) × (long_empty ≡ payload_line (Long 0x15555555) [])
unfolding bits number unpacked packed equal_neighbours words word_of padding field_bits field_of xor divide remainder crc stuff_after run_after stuffed header crc_bits stuffed_row line_of frame_line
long-made = (refl, refl)

-- a line, and its answers where there is room for seven bytes, read as our own and from a live bus: length and identifier, or a refusal's
-- number at its place
abbrev Case : Type 0
Case = List ℕ × Numbers × Numbers

abbrev alike : List ℕ → Numbers → Case
alike line numbers = (line, numbers, numbers)

abbrev pub cases : List Case
cases =
    -- the ACK slot: 1, 0, and a byte that is no bit
    (empty, given 0 0, 20 at 41)
    ∷ alike (set empty 41 0) (given 0 0)
    ∷ alike (set empty 41 2) (9 at 41)
    -- F0; a data field of bits 0 only, with three stuff bits, whose break bit is wrong; an escape in the place of the second word
    ∷ (header555 2 ++ (bits 16 0xEA55 ++ (bits 16 0b0101111101001011 ++ replicate 10 1)), given 1 0x555, 20 at 53)
    ∷ (header555 2 ++ (bits 19 0b0000100000100000100 ++ (bits 16 0b0010000010100100 ++ replicate 10 1)), 4 at 0, 20 at 56)
    ∷ (header555 3 ++ (bits 24 0x6A484A ++ (bits 16 0b0111110111001000 ++ replicate 10 1)), 5 at 1, 20 at 61)
    ∷ alike (header555 3 ++ (bits 24 0x6A484A ++ (bits 16 0b0111110111001000 ++ (1 ∷ 0 ∷ replicate 8 1)))) (5 at 1)
    -- the line ends before a bit, before a stuff bit, and before the ACK slot; it goes on
    ∷ alike [] (11 at 0)
    ∷ alike (replicate 5 0) (11 at 5)
    ∷ alike (take 41 empty) (11 at 41)
    ∷ (empty ++ (7 ∷ []), 11 at 50, 20 at 41)
    -- 9 comes before 13, and before 10
    ∷ alike (2 ∷ []) (9 at 0)
    ∷ alike (set empty 5 2) (9 at 5)
    -- a sixth equal bit; one behind IDE; one in the place of RTR
    ∷ alike (set empty 5 0) (10 at 5)
    ∷ alike (begins 0b10101011000 ++ (0 ∷ 0 ∷ 0 ∷ [])) (10 at 14)
    ∷ alike (begins 0b10101011111 ++ (1 ∷ [])) (10 at 12)
    -- start of frame, the bit before IDE, which is told once IDE is read, the reserved bit, CRC delimiter, ACK delimiter behind a 1 and
    -- behind a 0, the last end bit
    ∷ alike (1 ∷ []) (13 at 0)
    ∷ alike (begins 0x555 ++ (1 ∷ [])) (11 at 13)
    ∷ alike (begins 0x555 ++ (1 ∷ 0 ∷ [])) (13 at 12)
    ∷ alike (begins 0x555 ++ (0 ∷ 1 ∷ [])) (13 at 12)
    ∷ alike (begins 0x555 ++ (0 ∷ 0 ∷ 1 ∷ [])) (13 at 14)
    ∷ alike (set empty 40 0) (13 at 40)
    ∷ (set empty 42 0, 13 at 42, 20 at 41)
    ∷ alike (set (set empty 41 0) 42 0) (13 at 42)
    ∷ (set empty 49 0, 13 at 49, 20 at 41)
    -- a CRC bit, and the last one
    ∷ alike (set empty 36 1) (12 at 39)
    ∷ alike (set empty 39 1) (12 at 39)
    -- the stuff bit behind the last CRC bit; lines without it, in which the CRC delimiter is taken for it
    ∷ (ending1s, given 1 0, 20 at 56)
    ∷ (ending0s, given 1 0, 20 at 56)
    ∷ alike (take 54 ending1s ++ replicate 10 1) (10 at 54)
    ∷ (take 54 ending0s ++ replicate 10 1, 11 at 64, 20 at 56)
    -- the line ends before it, and behind it; a byte that is no bit; the CRC delimiter behind it
    ∷ alike (take 54 ending1s) (11 at 54)
    ∷ alike (take 55 ending1s) (11 at 55)
    ∷ alike (set ending1s 54 2) (9 at 54)
    ∷ alike (set ending1s 55 0) (13 at 55)
    -- a wrong CRC comes before it
    ∷ alike (set (set ending1s 39 1) 54 1) (12 at 53)
    -- DLC 1; DLC 15 and a sixth 1 behind it
    ∷ alike (unpacked 6 (replicate 3 1) ++ bits 4 1) (3 at 21)
    ∷ alike (begins 0b10101010100 ++ (0 ∷ 0 ∷ 0 ∷ 1 ∷ bits 5 31)) (3 at 19)
    -- five 1s end at the bit before IDE: a sixth 1; a stuff bit, and IDE 0 or 1 behind it, or the line's end; a byte that is no bit; the
    -- line's end
    ∷ alike (begins 0b10101001111 ++ (1 ∷ 1 ∷ [])) (10 at 13)
    ∷ alike (begins 0b10101001111 ++ (1 ∷ 0 ∷ 0 ∷ [])) (13 at 12)
    ∷ alike (begins 0b10101001111 ++ (1 ∷ 0 ∷ 1 ∷ [])) (11 at 15)
    ∷ alike (begins 0b10101001111 ++ (1 ∷ 0 ∷ 2 ∷ [])) (9 at 14)
    ∷ alike (begins 0b10101001111 ++ (1 ∷ 0 ∷ [])) (11 at 14)
    ∷ alike (begins 0b10101001111 ++ (1 ∷ 2 ∷ [])) (9 at 13)
    ∷ alike (begins 0b10101001111 ++ (1 ∷ [])) (11 at 13)
    -- RTR 0 and IDE 1, next to each other, and with a stuff bit between them
    ∷ alike (begins 0b10101001111 ++ (0 ∷ 1 ∷ [])) (13 at 12)
    ∷ alike (begins 0b10101010000 ++ (0 ∷ 1 ∷ 1 ∷ [])) (13 at 12)
    -- the long form, with low bits of the identifier alone, and with high ones
    ∷ (long_f0, given 1 0x80000555, 20 at 75)
    ∷ alike (set long_f0 75 0) (given 1 0x80000555)
    ∷ (long_empty, given 0 0x95555555, 20 at 56)
    -- its SRR, RTR and two reserved bits; its fourth DLC bit, and the last CRC bit
    ∷ alike (set long_f0 14 0) (13 at 14)
    ∷ alike (set long_f0 35 1) (13 at 35)
    ∷ alike (set long_f0 36 1) (13 at 36)
    ∷ alike (set long_f0 37 1) (13 at 37)
    ∷ alike (set (set long_f0 41 0) 42 1) (3 at 42)
    ∷ alike (set long_f0 73 0) (12 at 73)
    -- it ends before the bit that would be the first behind a header of the base form, and before the last end bit
    ∷ alike (take 22 long_f0) (11 at 22)
    ∷ alike (take 83 (set long_f0 75 0)) (11 at 83)
    ∷ []

-- what reading a line answers
abbrev answers : List ℕ → Numbers × Numbers
answers line = (line_numbers (read_answer own line 7), line_numbers (read_answer acknowledged line 7))

pub lines-right : map (λ (c : Case). answers c.0) cases ≡ map (λ (c : Case). (c.1, c.2)) cases
unfolding bits number unpacked packed equal_neighbours words place_in symbol_of padding break_part words_part padding_part decode_answer xor divide remainder crc header_form form long_in header_width dlc_in crc_start complete stuff_due must_be shown verdict run_with frame_with scan scanned identifier_in field_in read_answer
lines-right = refl
