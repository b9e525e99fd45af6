-- The parts of a line, over any header and any data field. Assumes nothing.
--     stuff_count-three    the stuff bits of three rows one behind the other, from the start of frame
--     crc-length      the CRC has 15 bits
--     line-length     a line's bits are those of its parts and the stuff bits
--     after-header, after-data, after-crc    the stuff bits that follow bits of a part, by the part alone and the run before it
use mathlib.Core.Path.{◌≡◌, refl, sym, ap, ap₂, ◌∙◌}
use mathlib.Core.List.{List, ◌++◌, append_assoc}
use Prim.Native.Nat.{ℕ, ◌+◌}
use native.Mathlib.Omega.{arith}
use lib.ListN.{length, take, drop, length-append}
use lib.Seq.{take_at, drop_at, take_all}
use Rattle.bits.specs.declared.Run.{Run}
use Rattle.bits.specs.Stuffing.{nothing_sent, stuff_count, run_after_row}
use Rattle.bits.proofs.Rows.{bits-length}
use Rattle.bits.proofs.Stuffing.{run_after_row-append, stuff_count-append, stuffed-length}
use Rattle.wire.specs.Line.{crc_bits, stuffed_row, line_of}
use Rattle.wire.specs.StuffBits.{stuff_bits_in, after_header, after_data, after_crc}

-- the runs that header and data bits leave
abbrev pub header_run : List ℕ → Run
header_run header_bits = run_after_row nothing_sent header_bits

abbrev pub data_run : List ℕ → List ℕ → Run
data_run header_bits data_bits = run_after_row (header_run header_bits) data_bits

pub stuff_count-three : (l m n : List ℕ)
    → stuff_count nothing_sent (l ++ (m ++ n)) ≡ stuff_count nothing_sent l + (stuff_count (header_run l) m + stuff_count (data_run l m) n)
stuff_count-three l m n = simp stuff_count-append

module _ (header_bits data_bits : List ℕ) where
  abbrev check : List ℕ
  check = crc_bits header_bits data_bits

  pub crc-length : length (crc_bits header_bits data_bits) ≡ 15
  unfolding crc_bits
  crc-length = bits-length 15 _

  pub line-length : length (line_of header_bits data_bits)
      ≡ length header_bits + length data_bits + 25
      + (stuff_count nothing_sent header_bits + (stuff_count (header_run header_bits) data_bits + stuff_count (data_run header_bits data_bits) check))
  unfolding line_of stuffed_row
  line-length =
      simp (length-append, stuffed-length)
      (omega (arith, stuff_count-three header_bits data_bits check, crc-length))

  pub after-header : after_header header_bits data_bits ≡ stuff_count nothing_sent header_bits
  unfolding stuff_bits_in stuffed_row run_after_row
  after-header = ap (stuff_count nothing_sent) (take_at header_bits _ _ refl)

  pub after-data : after_data header_bits data_bits ≡ stuff_count (header_run header_bits) data_bits
  unfolding stuff_bits_in stuffed_row
  after-data =
      let rest = data_bits ++ check in
      ap₂ (λ (l m : List ℕ). stuff_count (run_after_row nothing_sent l) m) (take_at header_bits rest _ refl)
      (ap (take (length data_bits)) (drop_at header_bits rest _ refl) ∙ take_at data_bits _ _ refl)

  pub after-crc : after_crc header_bits data_bits ≡ stuff_count (data_run header_bits data_bits) check
  unfolding stuff_bits_in stuffed_row
  after-crc =
      let before = header_bits ++ data_bits in
      let n = length header_bits + length data_bits in
      let joined = sym (append_assoc header_bits data_bits check) in
      let long = length-append header_bits data_bits in
      ap₂ stuff_count
      (ap (run_after_row nothing_sent) (ap (take n) joined ∙ take_at before check n long) ∙ run_after_row-append nothing_sent header_bits data_bits)
      (ap (take 15) (ap (drop n) joined ∙ drop_at before check n long) ∙ take_all 15 check (omega (arith, crc-length)))
