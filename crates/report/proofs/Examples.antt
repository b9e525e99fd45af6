-- Reports worked by hand, of the definitions. Assumes nothing.
--     example-right    document 01's example: five lines, the last with refusal 14
--     long-right       a payload of seven bytes and its field; a data field that is cut
--     last-right       a body that ends with the trace is whole
--     odd-right        a payload of eight bytes, fields of one and of nine; neither stops the report; a body that is cut does
use mathlib.Core.Path.{◌≡◌, refl}
use mathlib.Core.List.{[], ◌∷◌}
use Rattle.bits.specs.Rows.{bits, number}
use Rattle.bits.specs.Packing.{unpacked, packed}
use Rattle.bits.specs.Neighbours.{equal_neighbours}
use Rattle.words.specs.Words.{words, word_of}
use Rattle.words.specs.Symbols.{place_in, symbol_of}
use Rattle.field.specs.Padding.{padding}
use Rattle.field.specs.Field.{field_bits, field_of}
use Rattle.field.specs.Encode.{encode_answer}
use Rattle.decoding.specs.Parts.{break_part, words_part, padding_part}
use Rattle.decoding.specs.Decode.{decode_answer, payload_of}
use Rattle.records.specs.Records.{kind_of, record_at, body_at}
use Rattle.report.specs.Text.{decimal_in, decimal, hex_digit, bytes_text}
use Rattle.report.specs.Report.{line_text, outcome_text, encoded_text, decoded_text, line_at, reported_at}
use Rattle.report.specs.Whole.{lines_from, report}

pub example-right : report (0x11 ∷ 0xF0 ∷ 0x22 ∷ 0x90 ∷ 0x95 ∷ 0x22 ∷ 0xEA ∷ 0x55 ∷ 0x10 ∷ 0x30 ∷ []) ≡
    0x31 ∷ 0x20 ∷ 0x45 ∷ 0x20 ∷ 0x30 ∷ 0x20 ∷ 0x30 ∷ 0x20 ∷ 0x45 ∷ 0x41 ∷ 0x35 ∷ 0x35 ∷ 0x0A
    ∷ 0x32 ∷ 0x20 ∷ 0x44 ∷ 0x20 ∷ 0x35 ∷ 0x20 ∷ 0x30 ∷ 0x20 ∷ 0x2D ∷ 0x0A
    ∷ 0x33 ∷ 0x20 ∷ 0x44 ∷ 0x20 ∷ 0x30 ∷ 0x20 ∷ 0x30 ∷ 0x20 ∷ 0x46 ∷ 0x30 ∷ 0x0A
    ∷ 0x34 ∷ 0x20 ∷ 0x45 ∷ 0x20 ∷ 0x30 ∷ 0x20 ∷ 0x30 ∷ 0x20 ∷ 0x2D ∷ 0x0A
    ∷ 0x35 ∷ 0x20 ∷ 0x2D ∷ 0x20 ∷ 0x31 ∷ 0x34 ∷ 0x20 ∷ 0x39 ∷ 0x20 ∷ 0x2D ∷ 0x0A ∷ []
unfolding bits number unpacked packed equal_neighbours words word_of place_in symbol_of padding field_bits field_of break_part words_part padding_part encode_answer decode_answer payload_of kind_of record_at body_at decimal_in decimal hex_digit bytes_text line_text outcome_text encoded_text decoded_text line_at reported_at lines_from report
example-right = refl

pub odd-right : report (0x18 ∷ 0x00 ∷ 0x00 ∷ 0x00 ∷ 0x00 ∷ 0x00 ∷ 0x00 ∷ 0x00 ∷ 0x00 ∷ 0x21 ∷ 0x90 ∷ 0x29 ∷ 0x00 ∷ 0x00 ∷ 0x00 ∷ 0x00 ∷ 0x00 ∷ 0x00 ∷ 0x00 ∷ 0x00 ∷ 0x00 ∷ 0x13 ∷ 0x0E ∷ 0x10 ∷ []) ≡
    0x31 ∷ 0x20 ∷ 0x45 ∷ 0x20 ∷ 0x31 ∷ 0x20 ∷ 0x30 ∷ 0x20 ∷ 0x2D ∷ 0x0A
    ∷ 0x32 ∷ 0x20 ∷ 0x44 ∷ 0x20 ∷ 0x33 ∷ 0x20 ∷ 0x30 ∷ 0x20 ∷ 0x2D ∷ 0x0A
    ∷ 0x33 ∷ 0x20 ∷ 0x44 ∷ 0x20 ∷ 0x33 ∷ 0x20 ∷ 0x30 ∷ 0x20 ∷ 0x2D ∷ 0x0A
    ∷ 0x34 ∷ 0x20 ∷ 0x2D ∷ 0x20 ∷ 0x31 ∷ 0x34 ∷ 0x20 ∷ 0x32 ∷ 0x31 ∷ 0x20 ∷ 0x2D ∷ 0x0A ∷ []
unfolding bits number unpacked packed equal_neighbours words word_of place_in symbol_of padding field_bits field_of break_part words_part padding_part encode_answer decode_answer payload_of kind_of record_at body_at decimal_in decimal hex_digit bytes_text line_text outcome_text encoded_text decoded_text line_at reported_at lines_from report
odd-right = refl

pub long-right : report (0x17 ∷ 0x00 ∷ 0x00 ∷ 0x00 ∷ 0x00 ∷ 0x00 ∷ 0x00 ∷ 0x00 ∷ 0x28 ∷ 0x90 ∷ 0xC8 ∷ 0x64 ∷ 0x32 ∷ 0x19 ∷ 0x0C ∷ 0x86 ∷ 0x43 ∷ 0x22 ∷ 0xEA ∷ []) ≡
    0x31 ∷ 0x20 ∷ 0x45 ∷ 0x20 ∷ 0x30 ∷ 0x20 ∷ 0x30 ∷ 0x20 ∷ 0x39 ∷ 0x30 ∷ 0x43 ∷ 0x38 ∷ 0x36 ∷ 0x34 ∷ 0x33 ∷ 0x32 ∷ 0x31 ∷ 0x39 ∷ 0x30 ∷ 0x43 ∷ 0x38 ∷ 0x36 ∷ 0x34 ∷ 0x33 ∷ 0x0A
    ∷ 0x32 ∷ 0x20 ∷ 0x44 ∷ 0x20 ∷ 0x30 ∷ 0x20 ∷ 0x30 ∷ 0x20 ∷ 0x30 ∷ 0x30 ∷ 0x30 ∷ 0x30 ∷ 0x30 ∷ 0x30 ∷ 0x30 ∷ 0x30 ∷ 0x30 ∷ 0x30 ∷ 0x30 ∷ 0x30 ∷ 0x30 ∷ 0x30 ∷ 0x0A
    ∷ 0x33 ∷ 0x20 ∷ 0x2D ∷ 0x20 ∷ 0x31 ∷ 0x34 ∷ 0x20 ∷ 0x31 ∷ 0x37 ∷ 0x20 ∷ 0x2D ∷ 0x0A ∷ []
unfolding bits number unpacked packed equal_neighbours words word_of place_in symbol_of padding field_bits field_of break_part words_part padding_part encode_answer decode_answer payload_of kind_of record_at body_at decimal_in decimal hex_digit bytes_text line_text outcome_text encoded_text decoded_text line_at reported_at lines_from report
long-right = refl

pub last-right : report (0x11 ∷ 0xF0 ∷ []) ≡ 0x31 ∷ 0x20 ∷ 0x45 ∷ 0x20 ∷ 0x30 ∷ 0x20 ∷ 0x30 ∷ 0x20 ∷ 0x45 ∷ 0x41 ∷ 0x35 ∷ 0x35 ∷ 0x0A ∷ []
unfolding bits number unpacked packed equal_neighbours words word_of place_in symbol_of padding field_bits field_of break_part words_part padding_part encode_answer decode_answer payload_of kind_of record_at body_at decimal_in decimal hex_digit bytes_text line_text outcome_text encoded_text decoded_text line_at reported_at lines_from report
last-right = refl
