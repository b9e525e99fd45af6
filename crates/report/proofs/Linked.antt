-- What a program has of this crate: the table of its functions' code. A program with it, and with what is called of the crates below
-- (`Below`), has the code of each call and of all that it calls. What is derived calls std, of which there is no table: no call linked
-- here calls it. Assumes nothing.
use mathlib.Core.Bool.{true}
use prog.Linked.{Tree, World, Holds, in_world}
use prog.LinkedThreads.{HasT}
use Rattle.refusals.proofs.Refusal.number.Symbol as number
use Rattle.refusals.proofs.Refusal.place.Symbol as place
use Rattle.field.proofs.encode.Symbol as encode
use Rattle.decoding.proofs.decode.Symbol as decode
use Rattle.records.proofs.record_at.Symbol as record_at
use Rattle.report.proofs.TheLink as link
use Rattle.report.proofs.TheLinks.report-text-Text-new as text-Text-new
use Rattle.report.proofs.TheLinks.report-text-Text-length as text-Text-length
use Rattle.report.proofs.TheLinks.report-text-Text-byte as text-Text-byte
use Rattle.report.proofs.TheLinks.report-text-Text-digit as text-Text-digit
use Rattle.report.proofs.TheLinks.report-text-Text-decimal as text-Text-decimal
use Rattle.report.proofs.TheLinks.report-text-Text-spaced as text-Text-spaced
use Rattle.report.proofs.TheLinks.report-text-hex_digit as text-hex_digit
use Rattle.report.proofs.TheLinks.report-text-Text-bytes as text-Text-bytes
use Rattle.report.proofs.TheLinks.report-writing-line as writing-line
use Rattle.report.proofs.TheLinks.report-writing-coded as writing-coded
use Rattle.report.proofs.TheLinks.report-line_at as line_at

abbrev pub table : Tree
table = link.table

abbrev pub Below : World → Type 0
Below program =
    HasT (in_world program) true decode.code
    × (HasT (in_world program) true encode.code
    × (HasT (in_world program) true record_at.code
    × (HasT (in_world program) true number.code
    × (HasT (in_world program) true place.code × Unit {0}))))

module _ (program : World) (here : Holds program "report" table) (below : Below program) where
  has-text-Text-new : HasT (in_world program) true text-Text-new.code
  has-text-Text-new = text-Text-new.has (in_world program) true (link.found-report::text::Text::new program here)

  has-text-Text-length : HasT (in_world program) true text-Text-length.code
  has-text-Text-length = text-Text-length.has (in_world program) true (link.found-report::text::Text::length program here)

  has-text-Text-byte : HasT (in_world program) true text-Text-byte.code
  has-text-Text-byte = text-Text-byte.has (in_world program) true (link.found-report::text::Text::byte program here)

  has-text-Text-digit : HasT (in_world program) true text-Text-digit.code
  has-text-Text-digit = text-Text-digit.has (in_world program) true (link.found-report::text::Text::digit program here) has-text-Text-byte

  has-text-Text-decimal : HasT (in_world program) true text-Text-decimal.code
  has-text-Text-decimal = text-Text-decimal.has (in_world program) true (text-Text-decimal.cycle_has (in_world program) true (link.found-report::text::Text::decimal program here) has-text-Text-digit)

  has-text-Text-spaced : HasT (in_world program) true text-Text-spaced.code
  has-text-Text-spaced = text-Text-spaced.has (in_world program) true (link.found-report::text::Text::spaced program here) has-text-Text-byte has-text-Text-decimal

  has-text-hex_digit : HasT (in_world program) true text-hex_digit.code
  has-text-hex_digit = text-hex_digit.has (in_world program) true (link.found-report::text::hex_digit program here)

  has-text-Text-bytes : HasT (in_world program) true text-Text-bytes.code
  has-text-Text-bytes = text-Text-bytes.has (in_world program) true (link.found-report::text::Text::bytes program here) has-text-Text-byte has-text-hex_digit

  has-writing-line : HasT (in_world program) true writing-line.code
  has-writing-line = writing-line.has (in_world program) true (link.found-report::writing::line program here) below.1.1.1.0 below.1.1.1.1.0 has-text-Text-byte has-text-Text-bytes has-text-Text-spaced

  has-writing-coded : HasT (in_world program) true writing-coded.code
  has-writing-coded = writing-coded.has (in_world program) true (link.found-report::writing::coded program here) below.0 below.1.0 has-writing-line

  pub has-line_at : HasT (in_world program) true line_at.code
  has-line_at = line_at.has (in_world program) true (link.found-report::line_at program here) below.1.1.0 has-text-Text-length has-text-Text-new has-writing-coded has-writing-line
