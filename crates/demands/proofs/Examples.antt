-- Document 01's worked cases that are to be proved, those marked *, as one statement over one list; those of bounds, which have no star;
-- its table by size; and the cases of change requests #102, #109 and #110. Assumes nothing.
--     starred-right    what the definitions give in each case is what the document says
--     bounds-right     the same of the bounds
--     stuffed-crc-right    of frames whose CRC draws a stuff bit behind its last bit
--     ack-slot-right   of lines read as our own and from a live bus
--     forms-right      of both forms: bounds, frames of the long one, lines of it, and lines told at the bit before IDE
--     table-right      and of the eight rows of the table
use mathlib.Core.Path.{refl}
use Rattle.bits.specs.Rows.{bits, number}
use Rattle.bits.specs.Packing.{unpacked, packed}
use Rattle.bits.specs.Neighbours.{equal_neighbours}
use Rattle.bits.specs.Stuffing.{stuff_after, run_after, stuffed, stuff_count, run_after_row}
use Rattle.words.specs.Words.{words, word_of}
use Rattle.words.specs.Symbols.{place_in, symbol_of}
use Rattle.field.specs.Padding.{padding}
use Rattle.field.specs.Field.{field_bits, field_of}
use Rattle.decoding.specs.Parts.{break_part, words_part, padding_part}
use Rattle.decoding.specs.Decode.{decode_answer}
use Rattle.crc.specs.Crc.{xor, divide, remainder, crc}
use Rattle.wire.specs.Header.{header}
use Rattle.wire.specs.Line.{crc_bits, stuffed_row, line_of, frame_line}
use Rattle.wire.specs.StuffBits.{stuff_bits_in, header_stuff_bits}
use Rattle.wire.specs.Answers.{length_answer, bounds_answer}
use Rattle.reading.specs.Form.{header_form, form}
use Rattle.reading.specs.Scan.{long_in, header_width, identifier_in, dlc_in, crc_start, complete, stuff_due, must_be, shown, verdict, run_with, frame_with, scan, scanned}
use Rattle.line.specs.Read.{field_in, read_answer}
use Rattle.demands.specs.Cases.{starred, of_bounds, of_stuffed_crc, of_ack_slot, of_forms, by_size, AllRight}

-- a case, and the others behind it
infixr 5 ◌and◌
◌and◌ : {A B : Type 0} → A → B → A × B
a and b = (a, b)

pub starred-right : AllRight starred
unfolding bits number unpacked packed equal_neighbours words word_of place_in symbol_of padding field_bits field_of break_part words_part padding_part decode_answer stuff_after run_after stuffed stuff_count run_after_row header xor divide remainder crc crc_bits stuffed_row line_of frame_line stuff_bits_in length_answer
starred-right =
    refl and refl and refl and refl and refl and refl and refl and refl and refl and refl and refl and refl and refl and (refl, refl, refl, refl) and tt

pub bounds-right : AllRight of_bounds
unfolding bits stuff_after run_after stuff_count header header_stuff_bits bounds_answer
bounds-right = refl and refl and refl and refl and tt

pub stuffed-crc-right : AllRight of_stuffed_crc
unfolding bits number unpacked packed equal_neighbours words word_of padding field_bits field_of stuff_after run_after stuffed stuff_count run_after_row header xor divide remainder crc crc_bits stuffed_row line_of frame_line stuff_bits_in length_answer
stuffed-crc-right = (refl, refl, refl, refl) and refl and (refl, refl, refl, refl) and refl and (refl, refl, refl, refl) and (refl, refl, refl, refl) and tt

pub ack-slot-right : AllRight of_ack_slot
unfolding bits number unpacked packed equal_neighbours words word_of place_in symbol_of padding field_bits field_of break_part words_part padding_part decode_answer stuff_after run_after stuffed header xor divide remainder crc crc_bits stuffed_row line_of frame_line header_form form long_in header_width dlc_in crc_start complete stuff_due must_be shown verdict run_with frame_with scan scanned identifier_in field_in read_answer
ack-slot-right = (refl, refl) and (refl, refl) and (refl, refl) and (refl, refl) and (refl, refl) and (refl, refl) and tt

pub forms-right : AllRight of_forms
unfolding bits number unpacked packed equal_neighbours words word_of place_in symbol_of padding field_bits field_of break_part words_part padding_part decode_answer stuff_after run_after stuffed stuff_count run_after_row header xor divide remainder crc crc_bits stuffed_row line_of frame_line stuff_bits_in header_stuff_bits length_answer bounds_answer header_form form long_in header_width dlc_in crc_start complete stuff_due must_be shown verdict run_with frame_with scan scanned identifier_in field_in read_answer
forms-right =
    refl and refl and refl and refl and refl and (refl, refl, refl, refl) and (refl, refl, refl, refl) and (refl, refl, refl, refl) and (refl, refl) and (refl, refl)
    and (refl, refl) and (refl, refl) and (refl, refl) and (refl, refl) and (refl, refl) and (refl, refl) and (refl, refl) and (refl, refl) and tt

pub table-right : AllRight by_size
table-right = (refl, refl, refl, refl) and (refl, refl, refl, refl) and (refl, refl, refl, refl) and (refl, refl, refl, refl) and (refl, refl, refl, refl) and (refl, refl, refl, refl) and (refl, refl, refl, refl) and (refl, refl, refl, refl) and tt
