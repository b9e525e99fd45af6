-- The laws of writing bits into a line. Assumes nothing.
--     placed-length, written-length    a line is as long as it was
--     placed_next, written_next    the next four bits of a number are written: what is left leads where all of it led
--     placed_behind       two rows are written one behind the other
--     written_behind      two rows are written one behind the other, with their stuff bits
--     written-header      a header is written, its first three bits as they are
--     written-field       a field that draws no stuff bit is written as it is
--     written-tail        what follows it: the bit added to the CRC is written over
--     tail-room           the room that this takes
--     written-line        a row is written from the start of a line on, and bits as they are behind it
use mathlib.Core.Path.{◌≡◌, refl, sym, ap, ◌∙◌}
use mathlib.Core.List.{List, ◌++◌}
use Prim.Native.Nat.{ℕ, suc, ◌+◌, ◌-◌, ◌*◌, ◌/◌, ◌%◌, ◌^◌, ◌≤◌, ◌<◌}
use native.Mathlib.Nat.{zero-add}
use native.Mathlib.Omega.{arith}
use lib.ListN.{length, length-append, drop, replicate}
use lib.Seq.{sets, length-sets, sets-eq, set-set}
use Rattle.std.specs.Borrow.{MutBor}
use Rattle.bits.specs.declared.Run.{Run}
use Rattle.bits.specs.Rows.{bits}
use Rattle.bits.specs.Fours.{four_at}
use Rattle.bits.specs.Stuffing.{nothing_sent, stuffed, stuff_count, run_after_row}
use Rattle.bits.proofs.Filling.{sets-append}
use Rattle.bits.proofs.Rows.{bits-length, bits-split}
use Rattle.bits.proofs.Fours.{fours-next}
use Rattle.bits.proofs.Stuffing.{run_after_row-append, stuffed-append, stuffed-length}
use Rattle.wire.specs.Line.{ending}
use Rattle.frame.specs.declared.header.Header.{Header}
use Rattle.frame.specs.Header.{bits_of}
use Rattle.frame.specs.Fours.{run_of, quiet_check}
use Rattle.frame.specs.declared.writing.Writer.{Writer}
use Rattle.frame.specs.Writing.{Placed, Written, tail_row}
use Rattle.frame.proofs.Quiet.{quiet-sent, header-first, check-sent}
use Rattle.frame.proofs.FourBits.{run-fours, sent-fours, start-row, start-run}

pub placed-length : {at : ℕ} {row : List ℕ} {before : MutBor (List ℕ)} {w : Writer} → Placed at row before w → length w.line.now ≡ length before.now
placed-length {at} {row} {before} p = ap length p.line-is ∙ length-sets before.now at row

pub written-length : {r : Run} {at : ℕ} {row : List ℕ} {before : MutBor (List ℕ)} {w : Writer}
    → Written r at row before w → length w.line.now ≡ length before.now
written-length w = placed-length w.placed

pub placed_next : (before after : Writer) (left n : ℕ) → 0 < left
    → Placed before.at (bits 4 (four_at n (left - 1))) before.line after
    → sets before.line.now before.at (bits (4 * left) n) ≡ sets after.line.now after.at (bits (4 * (left - 1)) n)
placed_next before after left n h p =
    let row : List ℕ = bits 4 (four_at n (left - 1)) in
    ap (sets before.line.now before.at) (fours-next left n h) ∙ sets-append before.line.now before.at row (bits (4 * (left - 1)) n)
    ∙ rw (p.line-is, p.at-is) refl

pub written_next : (before after : Writer) (left n : ℕ) → 0 < left →
    let r : Run = run_of before.last.bits in
    let s : Run = run_of after.last.bits in
    Written r before.at (bits 4 (four_at n (left - 1))) before.line after →
    (sets before.line.now before.at (stuffed r (bits (4 * left) n)) ≡ sets after.line.now after.at (stuffed s (bits (4 * (left - 1)) n)))
    × (run_after_row r (bits (4 * left) n) ≡ run_after_row s (bits (4 * (left - 1)) n))
    × (before.at + length (stuffed r (bits (4 * left) n)) ≡ after.at + length (stuffed s (bits (4 * (left - 1)) n)))
written_next before after left n h w =
    let r : Run = run_of before.last.bits in
    let row : List ℕ = bits 4 (four_at n (left - 1)) in
    let e = sent-fours r left n h in (
      ap (sets before.line.now before.at) e
          ∙ sets-append before.line.now before.at (stuffed r row) (stuffed (run_after_row r row) (bits (4 * (left - 1)) n))
          ∙ rw (w.placed.line-is, w.placed.at-is, w.run_is) refl,
      run-fours r left n h ∙ rw w.run_is refl,
      rw (e, w.placed.at-is, w.run_is, length-append) (omega arith),
    )

pub placed_behind : {at : ℕ} {before : MutBor (List ℕ)} {w v : Writer} (l m : List ℕ)
    → Placed at l before w → Placed w.at m w.line v → Placed at (l ++ m) before v
placed_behind {at} {before} l m p q =
    record {
      line-is = q.line-is ∙ rw (p.line-is, p.at-is) (sym (sets-append before.now at l m));
      at-is = rw length-append (omega (arith, p.at-is, q.at-is));
      same = q.same ∙ p.same;
    }

pub written_behind : {r : Run} {at : ℕ} {before : MutBor (List ℕ)} {w v : Writer} (l m : List ℕ)
    → Written r at l before w → Written (run_of w.last.bits) w.at m w.line v → Written r at (l ++ m) before v
written_behind {r} {at} {before} {w} {v} l m first second =
    let here = rw first.run_is at second in
    record {
      placed = rw (stuffed-append r l m) (placed_behind (stuffed r l) (stuffed (run_after_row r l) m) first.placed here.placed);
      run_is = here.run_is ∙ sym (run_after_row-append r l m);
    }

pub written-header : (h : Header) {before : MutBor (List ℕ)} {w v : Writer} →
    let three = h.number / 2 ^ (4 * h.fours) in
    Placed 0 (bits 3 three) before w → w.last.bits ≡ 8 + three
    → Written (run_of w.last.bits) w.at (bits (4 * h.fours) h.number) w.line v
    → Written nothing_sent 0 (bits_of h) before v
written-header h {before} {w} {v} placed last written =
    let three : ℕ = h.number / 2 ^ (4 * h.fours) in
    let first : Written nothing_sent 0 (bits 3 three) before w = record {
      placed = rw (start-row three (header-first h)) placed;
      run_is = ap run_of last ∙ sym (start-run three (header-first h));
    } in
    rw (bits-split 3 (4 * h.fours) h.number) (written_behind (bits 3 three) (bits (4 * h.fours) h.number) first written)

pub written-field : (r : Run) (n v : ℕ) {at : ℕ} {before : MutBor (List ℕ)} {w : Writer} → stuff_count r (bits (8 * n) v) ≡ 0
    → run_of w.last.bits ≡ run_after_row r (bits (8 * n) v) → Placed at (bits (4 * (2 * n)) v) before w
    → Written r at (bits (8 * n) v) before w
written-field r n v quiet behind placed =
    let all : 4 * (2 * n) ≡ 8 * n = omega arith in
    record { placed = rw (quiet-sent r (bits (8 * n) v) quiet) (rw all at placed); run_is = behind }

-- how many bits go out behind the data field, with the one that is written over
pub tail-room : (r : Run) (crc : ℕ) →
    (length (stuffed r (bits 16 (quiet_check crc))) ≡ length (stuffed r (bits 15 crc)) + 1)
    × (length (tail_row r crc) ≡ length (stuffed r (bits 15 crc)) + 10)
    × (15 ≤ length (stuffed r (bits 15 crc)))
tail-room r crc =
    let front = stuffed r (bits 15 crc) in (
      ap length (check-sent r crc) ∙ length-append front _ ∙ ap (λ (k : ℕ). length front + k) (bits-length 1 _),
      length-append front (ending 1),
      omega (arith, stuffed-length r (bits 15 crc), bits-length 15 crc),
    )

-- ten bits 1 over one bit
ten-over : (l : List ℕ) (i a : ℕ) → sets (sets l i (bits 1 a)) i (bits 10 1023) ≡ sets l i (ending 1)
unfolding bits
ten-over l i a = ap (λ (m : List ℕ). sets m (suc i) (replicate 9 1)) (set-set l i (a / 2 ^ 0 % 2) 1)

pub written-tail : (r : Run) (crc : ℕ) {at : ℕ} {before : MutBor (List ℕ)} {w v : Writer}
    → Written r at (bits 16 (quiet_check crc)) before w → Placed (w.at - 1) (bits 10 1023) w.line v → Placed at (tail_row r crc) before v
written-tail r crc {at} {before} {w} {v} written placed =
    let front = stuffed r (bits 15 crc) in
    let one = bits 1 (1 - crc % 2) in
    let room = tail-room r crc in
    let behind : w.at - 1 ≡ at + length front = omega (arith, written.placed.at-is, room.0) in
    let both : w.line.now ≡ sets (sets before.now at front) (at + length front) one =
    written.placed.line-is ∙ ap (sets before.now at) (check-sent r crc) ∙ sets-append before.now at front one in
    record {
      line-is = placed.line-is ∙ rw (behind, both) (ten-over (sets before.now at front) (at + length front) _) ∙ sym (sets-append before.now at front (ending 1));
      at-is = omega (arith, placed.at-is, bits-length 10 1023, behind, room.1);
      same = placed.same ∙ written.placed.same;
    }

pub written-line : (l tail : List ℕ) {before : MutBor (List ℕ)} {w v : Writer} →
    let whole : List ℕ = stuffed nothing_sent l ++ tail in
    Written nothing_sent 0 l before w → Placed w.at tail w.line v → length whole ≤ length before.now
    → (v.at ≡ length whole) × (v.line.now ≡ whole ++ drop (length whole) before.now)
written-line l tail {before} written placed room =
    let whole = stuffed nothing_sent l ++ tail in
    let both = placed_behind (stuffed nothing_sent l) tail written.placed placed in (
      both.at-is ∙ zero-add (length whole),
      both.line-is ∙ sets-eq whole before.now 0 (rw (zero-add (length whole)) room)
          ∙ ap (λ (n : ℕ). whole ++ drop n before.now) (zero-add (length whole)),
    )
