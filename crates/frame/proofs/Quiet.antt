-- Rows that draw no stuff bit, where the code makes use of them. Assumes nothing.
--     quiet-sent       such a row goes out as it is
--     quiet-field      the run that a field leaves is that of its last four bits
--     header-first     a header's first three bits start with 0
--     header-counts, header-sent    what a header leaves and how it goes out, told by the bits behind its first three
--     check-drawn, check-sent    the bit added to the CRC draws none; what goes out
use mathlib.Core.Path.{◌≡◌, refl, sym, ap, ap₂, ◌∙◌}
use mathlib.Core.List.{List, [], ◌∷◌, ◌++◌}
use Prim.Native.Nat.{ℕ, zero, suc, ◌+◌, ◌-◌, ◌*◌, ◌/◌, ◌%◌, ◌^◌, ◌≤◌, ◌<◌}
use native.Mathlib.Nat.{zero-add}
use native.Mathlib.Omega.{arith}
use lib.Dec.{lit<}
use lib.ListN.{length}
use lib.Pow.{shr_lt}
use Rattle.bits.specs.declared.Run.{Run}
use Rattle.bits.specs.Rows.{bits}
use Rattle.bits.specs.Stuffing.{nothing_sent, stuff_after, run_after, stuffed, stuff_count, run_after_row}
use Rattle.bits.proofs.Calm.{other-calm}
use Rattle.bits.proofs.Rows.{bits-length, bits_below, bits-split, bits-low, bits-join}
use Rattle.bits.proofs.Stuffing.{stuffed-append, stuff_count-append, run_after_row-append, stuff-weight, run-bit}
use Rattle.frame.specs.declared.header.Header.{Header}
use Rattle.frame.specs.declared.stuffing.Counted.{Counted}
use Rattle.frame.specs.Header.{bits_of}
use Rattle.frame.specs.Fours.{run_of, quiet_check}
use Rattle.frame.specs.Sent.{Counts}
use Rattle.frame.proofs.FourBits.{start-row, start-quiet, start-run, quiet-run}

-- a bit that draws none
none_after : (l : List ℕ) → length l ≡ 0 → l ≡ []
none_after [] e = refl
none_after (x ∷ l) e = absurd (omega arith)

pub quiet-sent : (r : Run) (l : List ℕ) → stuff_count r l ≡ 0 → stuffed r l ≡ l
unfolding stuff_count stuffed
quiet-sent r [] e = refl
quiet-sent r (b ∷ l) e =
    let none = none_after (stuff_after r b) (omega arith) in
    rw none (ap (λ (m : List ℕ). b ∷ m) (quiet-sent (run_after r b) l (omega arith)))

-- a run that four bits end
of_four : (last : ℕ) → ((run_of last).bit < 2) × ((run_of last).count ≤ 4)
of_four last = (run-bit nothing_sent (bits 4 last) (lit< tt) (bits_below 4 last), (stuff-weight nothing_sent (bits 4 last) (omega arith)).1)

pub quiet-field : (last n v : ℕ) → 0 < n → stuff_count (run_of last) (bits (8 * n) v) ≡ 0
    → run_of (v % 16) ≡ run_after_row (run_of last) (bits (8 * n) v)
quiet-field last n v some none =
    let k : ℕ = 8 * n - 4 in
    let front : List ℕ = bits k (v / 2 ^ 4) in
    let few : 8 * n ≡ k + 4 = omega arith in
    let parts : bits (8 * n) v ≡ front ++ bits 4 v = ap (λ (m : ℕ). bits m v) few ∙ bits-split k 4 v in
    let before : Run = run_after_row (run_of last) front in
    let r = of_four last in
    let quiet : stuff_count before (bits 4 v) ≡ 0 = omega (arith, ap (stuff_count (run_of last)) parts, stuff_count-append (run_of last) front (bits 4 v)) in
    let low : stuff_count before (bits 4 (v % 16)) ≡ 0 = ap (stuff_count before) (bits-low 4 v) ∙ quiet in
    let bit = run-bit (run_of last) front r.0 (bits_below k (v / 2 ^ 4)) in
    let count = (stuff-weight (run_of last) front r.1).1 in
    sym (quiet-run before (v % 16) bit count (omega arith) low)
    ∙ ap (run_after_row before) (bits-low 4 v) ∙ sym (run_after_row-append (run_of last) front (bits 4 v))
    ∙ ap (run_after_row (run_of last)) (sym parts)

module _ (h : Header) where
  -- its first three bits, and the others
  abbrev three : ℕ
  three = h.number / 2 ^ (4 * h.fours)

  abbrev others : List ℕ
  others = bits (4 * h.fours) h.number

  split : bits_of h ≡ bits 3 three ++ others
  split = bits-split 3 (4 * h.fours) h.number

  pub header-first : h.number / 2 ^ (4 * h.fours) < 4
  header-first = shr_lt 2 (4 * h.fours) h.first

  header-drawn : stuff_count nothing_sent (bits_of h)
      ≡ stuff_count (run_of (8 + h.number / 2 ^ (4 * h.fours))) (bits (4 * h.fours) h.number)
  header-drawn =
      ap (stuff_count nothing_sent) split ∙ stuff_count-append nothing_sent _ _
      ∙ ap₂ (λ (n : ℕ) (r : Run). n + stuff_count r others) (start-quiet _ header-first) (start-run _ header-first) ∙ zero-add _

  header-run-is : run_after_row nothing_sent (bits_of h)
      ≡ run_after_row (run_of (8 + h.number / 2 ^ (4 * h.fours))) (bits (4 * h.fours) h.number)
  header-run-is =
      ap (run_after_row nothing_sent) split ∙ run_after_row-append nothing_sent _ _ ∙ ap (λ (r : Run). run_after_row r others) (start-run _ header-first)

  pub header-counts : (last : ℕ) (c : Counted) → last ≡ 8 + h.number / 2 ^ (4 * h.fours)
      → Counts (run_of last) (bits (4 * h.fours) h.number) c → Counts nothing_sent (bits_of h) c
  header-counts last c first counts =
      record {
        run_is = counts.run_is ∙ ap (λ (x : ℕ). run_after_row (run_of x) others) first ∙ sym header-run-is;
        drawn-is = counts.drawn-is ∙ ap (λ (x : ℕ). stuff_count (run_of x) others) first ∙ sym header-drawn;
        few = omega (arith, counts.few, bits-length (4 * h.fours) h.number, bits-length (3 + 4 * h.fours) h.number);
      }

  pub header-sent : stuffed nothing_sent (bits_of h)
      ≡ bits 3 (h.number / 2 ^ (4 * h.fours))
      ++ stuffed (run_of (8 + h.number / 2 ^ (4 * h.fours))) (bits (4 * h.fours) h.number)
  header-sent =
      ap (stuffed nothing_sent) split ∙ stuffed-append nothing_sent _ _
      ∙ ap₂ (λ (l : List ℕ) (r : Run). l ++ stuffed r others) (start-row _ header-first) (start-run _ header-first)

-- behind a bit its other draws none
other-quiet : (r : Run) (b : ℕ) → b < 2 → stuff_count (run_after r b) (bits 1 (1 - b)) ≡ 0
unfolding bits stuff_count
other-quiet r zero h = omega (arith, (other-calm r 0 (lit< tt)).no-stuff)
other-quiet r (suc zero) h = omega (arith, (other-calm r 1 (lit< tt)).no-stuff)
other-quiet r (suc (suc b)) h = absurd (omega arith)

module _ (r : Run) (crc : ℕ) where
  other : List ℕ
  other = bits 1 (1 - crc % 2)

  check-split : bits 16 (quiet_check crc) ≡ bits 15 crc ++ other
  unfolding other
  check-split =
      let e : quiet_check crc ≡ crc * 2 ^ 1 + (1 - crc % 2) = omega arith in
      ap (bits 16) e ∙ bits-join 15 1 crc (1 - crc % 2) (omega arith)

  other-draws-none : stuff_count (run_after_row r (bits 15 crc)) other ≡ 0
  unfolding bits run_after_row other
  other-draws-none =
      let before : Run = run_after_row r (bits 14 (crc / 2)) in
      let last : crc / 2 ^ 0 % 2 ≡ crc % 2 = omega arith in
      ap (λ (q : Run). stuff_count q other)
      (ap (run_after_row r) (bits-split 14 1 crc) ∙ run_after_row-append r (bits 14 (crc / 2)) (bits 1 crc) ∙ ap (run_after before) last)
      ∙ other-quiet before (crc % 2) (omega arith)

  pub check-drawn : stuff_count r (bits 16 (quiet_check crc)) ≡ stuff_count r (bits 15 crc)
  check-drawn = omega (arith, ap (stuff_count r) check-split, stuff_count-append r (bits 15 crc) other, other-draws-none)

  pub check-sent : stuffed r (bits 16 (quiet_check crc)) ≡ stuffed r (bits 15 crc) ++ bits 1 (1 - crc % 2)
  unfolding other
  check-sent =
      ap (stuffed r) check-split ∙ stuffed-append r (bits 15 crc) other
      ∙ ap (λ (l : List ℕ). stuffed r (bits 15 crc) ++ l) (quiet-sent _ _ other-draws-none)
