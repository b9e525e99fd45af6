-- The parts of a frame, as the code has them, and its line. Assumes nothing.
--     line-parts      a line in two parts, of which the second follows the data field
--     crc-of-parts    the CRC of a frame's parts is that of the header and the data field that its DLC announces, and has 15 bits
--     quiet-length    how many bits the line of a frame's parts has, where no data bit draws a stuff bit
use mathlib.Core.Path.{◌≡◌, sym, ap, ◌∙◌, subst}
use mathlib.Core.List.{List, ◌++◌, append_assoc}
use Prim.Native.Nat.{ℕ, ◌+◌, ◌-◌, ◌*◌, ◌%◌, ◌^◌, ◌<◌}
use native.Mathlib.Omega.{arith}
use lib.ListN.{length}
use lib.Pow.{pow_mono}
use Rattle.bits.specs.Rows.{bits}
use Rattle.bits.specs.Stuffing.{nothing_sent, stuffed, stuff_count, run_after_row}
use Rattle.bits.proofs.Rows.{bits-length}
use Rattle.bits.proofs.Stuffing.{stuffed-append}
use Rattle.crc.specs.Crc.{crc}
use Rattle.crc.specs.Dlc.{data_bytes}
use Rattle.crc.proofs.Dlc.{data-bytes}
use Rattle.crc.proofs.Division.{crc-below}
use Rattle.crc.proofs.CrcFours.{crc-short}
use Rattle.wire.specs.Line.{crc_bits, stuffed_row, ending, line_of}
use Rattle.wire.proofs.LineParts.{data_run, line-length}
use Rattle.frame.specs.Writing.{tail_row}
use Rattle.frame.specs.Header.{bits_of}
use Rattle.frame.specs.Parts.{header_bits, data_bits, line_in}
use Rattle.frame.specs.declared.header.Header.{Header}
use Rattle.frame.specs.declared.parts.Parts.{Parts}

pub line-parts : (header_bits data_bits : List ℕ) →
    let x = crc (header_bits ++ data_bits) in
    line_of header_bits data_bits ≡ stuffed nothing_sent (header_bits ++ data_bits) ++ tail_row (run_after_row nothing_sent (header_bits ++ data_bits)) x
unfolding line_of stuffed_row crc_bits
line-parts header_bits data_bits =
    let before = header_bits ++ data_bits in
    let check = bits 15 (crc before) in
    ap (λ (l : List ℕ). stuffed nothing_sent l ++ ending 1) (sym (append_assoc header_bits data_bits check))
    ∙ ap (λ (l : List ℕ). l ++ ending 1) (stuffed-append nothing_sent before check)
    ∙ append_assoc (stuffed nothing_sent before) (stuffed (run_after_row nothing_sent before) check) (ending 1)

-- the bits 0 before a header that is shorter than 39 bits change nothing
shorter : (h : Header) (l : List ℕ) → crc (bits 39 h.number ++ l) ≡ crc (bits_of h ++ l)
shorter h l =
    let own : ℕ = 3 + 4 * h.fours in
    let whole : 39 ≡ 36 - 4 * h.fours + own = omega arith in
    let wide = pow_mono {i = 2 + 4 * h.fours} {j = own} (omega arith) in
    ap (λ (k : ℕ). crc (bits k h.number ++ l)) whole
    ∙ crc-short (36 - 4 * h.fours) own h.number l (omega (arith, wide, h.first))

pub crc-of-parts : (p : Parts) (r : ℕ)
    → r ≡ crc (bits 39 p.header.number ++ bits (8 * data_bytes (p.header.number % 16)) p.field.number)
    → (r ≡ crc (header_bits p ++ data_bits p)) × (r < 2 ^ 15)
crc-of-parts p r e =
    let number = p.header.number in
    let bytes = ap data_bytes p.dlc ∙ data-bytes p.field.n p.few in (
      e ∙ ap (λ (n : ℕ). crc (bits 39 number ++ bits (8 * n) p.field.number)) bytes ∙ shorter p.header (data_bits p),
      subst (λ (x : ℕ). x < 2 ^ 15) (sym e) (crc-below _),
    )

pub quiet-length : (p : Parts) →
    let x = crc (header_bits p ++ data_bits p) in
    length (line_in p)
    ≡ 28 + 4 * p.header.fours + 8 * p.field.n + (stuff_count nothing_sent (header_bits p) + stuff_count (data_run (header_bits p) (data_bits p)) (bits 15 x))
unfolding crc_bits
quiet-length p =
    omega (
      arith,
      line-length (header_bits p) (data_bits p),
      bits-length (3 + 4 * p.header.fours) p.header.number,
      bits-length (8 * p.field.n) p.field.number,
      p.quiet,
    )
