-- The line of a frame's bits: stuffed to the last CRC bit, and then as they are. Assumes nothing.
--     line-of    it is the made line, but for the bit in the ACK slot
use mathlib.Core.Path.{◌≡◌, refl, sym, ap, ◌∙◌}
use mathlib.Core.Bool.{Bool, true, false}
use mathlib.Core.List.{List, [], ◌∷◌, ◌++◌, append_assoc}
use Prim.Native.Nat.{ℕ, ◌+◌, ◌-◌, ◌≤◌, ◌<◌}
use native.Mathlib.Omega.{arith}
use lib.Dec.{eqb, ltb}
use lib.ListN.{length, length-append}
use lib.Seq.{append_snoc}
use borrow.Author.Tests.{ltb-true, ltb-false, ne_eqb}
use Rattle.bits.specs.declared.Run.{Run}
use Rattle.bits.specs.Stuffing.{nothing_sent, stuff_after, run_after, stuffed}
use Rattle.wire.specs.Line.{crc_bits, stuffed_row, ending, line_of}
use Rattle.wire.proofs.LineParts.{crc-length}
use Rattle.reading.specs.Scan.{header_width, data_start, crc_start, stuff_due, run_with}
use Rattle.reading.proofs.Partial.{start-least, long-stays, start-stays}
use Rattle.reading.proofs.StuffDue.{due-within, due-past}
use Rattle.reading.proofs.OnLine.{due_bits, due_run, on_line, line_from, no-stuff}
use Rattle.line.specs.Ack.{with_ack}
use Rattle.line.proofs.AckSlot.{line-ack}

-- how many bits of a frame a stuff bit may follow
abbrev within : List ℕ → ℕ
within frame = crc_start frame + 15

module _ (run : Run) (frame l : List ℕ) where
  due-five : length frame ≤ within (frame ++ l) → stuff_due run frame ≡ eqb run.count 5
  due-five h = due-within run frame (go (ltb (length frame) (data_start frame)) refl)
    where
      go : (t : Bool) → ltb (length frame) (data_start frame) ≡ t → length frame ≤ within frame
      go true e = omega (arith, ltb-true (length frame) (data_start frame) e, (start-least frame).1)
      go false e = omega (arith, h, start-stays frame l (ltb-false (length frame) (data_start frame) e))

  due-never : within (frame ++ l) < length frame → stuff_due run frame ≡ false
  due-never h =
      let least = start-least (frame ++ l) in
      let same : data_start (frame ++ l) ≡ data_start frame = ap header_width (long-stays frame l (omega (arith, h, least.0))) in
      due-past run frame (omega (arith, h, start-stays frame l (omega (arith, h, least.1, same))))

stuff-within : (run : Run) (b : ℕ) (frame l : List ℕ) → length frame ≤ within (frame ++ l)
    → (due_bits (run_with run b) frame ≡ stuff_after run b) × (due_run (run_with run b) frame ≡ run_after run b)
unfolding due_bits due_run stuff_after run_after run_with
stuff-within run b frame l h =
    let due = due-five (run_with run b) frame l h in
    (rw due, rw (due, ne_eqb (1 - b) b (λ e. omega arith)))

plain-rest : (run : Run) (frame l : List ℕ) → within (frame ++ l) ≤ length frame → on_line run frame l ≡ l
unfolding on_line
plain-rest run frame [] h = refl
plain-rest run frame (b ∷ l) h =
    let next = run_with run b in
    let more = frame ++ (b ∷ []) in
    let past : within (more ++ l) < length more = rw (append_snoc frame b l, length-append frame (b ∷ [])) (omega arith) in
    ap (b ∷◌) (no-stuff next more l (due-never next more l past) ∙ plain-rest next more l (omega arith))

stuffed-front : (run : Run) (frame m l : List ℕ) → length frame + length m ≡ within (frame ++ (m ++ l))
    → on_line run frame (m ++ l) ≡ stuffed run m ++ l
unfolding on_line stuffed
stuffed-front run frame [] l h = plain-rest run frame l (omega arith)
stuffed-front run frame (b ∷ m) l h =
    let more = frame ++ (b ∷ []) in
    let long : length more + length m ≡ within (more ++ (m ++ l))
    = rw (append_snoc frame b (m ++ l), length-append frame (b ∷ [])) (omega arith) in
    let same = stuff-within run b more (m ++ l) (omega arith) in
    ap (b ∷◌) (rw (same.0, same.1, append_assoc) (ap (stuff_after run b ++◌) (stuffed-front (run_after run b) more m l long)))

whole-line : (m l : List ℕ) → length m ≡ within (m ++ l) → line_from nothing_sent [] (m ++ l) ≡ stuffed nothing_sent m ++ l
unfolding stuff_due
whole-line m l h = no-stuff nothing_sent [] (m ++ l) refl ∙ stuffed-front nothing_sent [] m l (omega arith)

pub line-of : (header_bits data_bits : List ℕ) (ack : ℕ) →
    let all = header_bits ++ (data_bits ++ (crc_bits header_bits data_bits ++ ending ack)) in
    length (header_bits ++ data_bits) ≡ crc_start all → line_from nothing_sent [] all ≡ with_ack ack (line_of header_bits data_bits)
unfolding stuffed_row
line-of header_bits data_bits ack h =
    let m = stuffed_row header_bits data_bits in
    let same : header_bits ++ (data_bits ++ (crc_bits header_bits data_bits ++ ending ack)) ≡ m ++ ending ack = simp append_assoc in
    let long : length m ≡ within (m ++ ending ack)
    = simp length-append (omega (arith, ap crc_start same, length-append header_bits data_bits, crc-length header_bits data_bits)) in
    ap (line_from nothing_sent []) same ∙ whole-line m (ending ack) long ∙ sym (line-ack header_bits data_bits ack)
