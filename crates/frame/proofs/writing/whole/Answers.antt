-- `frame::writing::whole` meets its contract: what the calls write, one behind the other, is the line. Assumes nothing.
use mathlib.Core.Path.{◌≡◌, ap, ◌∙◌, subst}
use mathlib.Core.List.{List, ◌++◌}
use Prim.Native.Nat.{ℕ, ◌+◌, ◌*◌, ◌≤◌}
use native.Mathlib.Omega.{arith}
use borrow.Author.Rules.{rules}
use lib.ListN.{length, length-append, drop}
use Rattle.bits.specs.declared.Run.{Run}
use Rattle.bits.specs.Stuffing.{nothing_sent, stuffed, stuff_count, run_after_row}
use Rattle.bits.proofs.Rows.{bits-length}
use Rattle.bits.proofs.Stuffing.{stuffed-append}
use Rattle.crc.specs.Crc.{crc}
use Rattle.wire.proofs.LineParts.{header_run}
use Rattle.frame.specs.Parts.{header_bits, data_bits, line_in}
use Rattle.frame.specs.Writing.{tail_row}
use Rattle.frame.specs.declared.parts.Parts.{Parts}
use Rattle.frame.proofs.FrameParts.{line-parts, crc-of-parts}
use Rattle.frame.proofs.Quiet.{quiet-sent}
use Rattle.frame.proofs.Written.{written-length, written_behind, written-line}
use Rattle.frame.proofs.writing.whole.Goals as goal
use Rattle.frame.proofs.writing.whole.Goals.{After-tail}

-- the room that the parts take: what is before the CRC, and the rest
module _ (p : Parts) where
  before : List ℕ
  before = header_bits p ++ data_bits p

  room : length (line_in p) ≡ length (stuffed nothing_sent before) + length (tail_row (run_after_row nothing_sent before) (crc before))
  unfolding before
  room = ap length (line-parts (header_bits p) (data_bits p)) ∙ length-append (stuffed nothing_sent before) _

  room-before : length (stuffed nothing_sent before) ≡ length (stuffed nothing_sent (header_bits p)) + 8 * p.field.n
  unfolding before
  room-before =
      ap length
      (stuffed-append nothing_sent (header_bits p) (data_bits p)
      ∙ ap (λ (l : List ℕ). stuffed nothing_sent (header_bits p) ++ l) (quiet-sent (header_run (header_bits p)) (data_bits p) p.quiet))
      ∙ length-append (stuffed nothing_sent (header_bits p)) (data_bits p)
      ∙ ap (λ (k : ℕ). length (stuffed nothing_sent (header_bits p)) + k) (bits-length (8 * p.field.n) p.field.number)

pub behind-writer-requires : goal.behind-writer-requires
behind-writer-requires c = omega (arith, c.requires, room c.args.parts, room-before c.args.parts)

pub field-requires : goal.field-requires
field-requires c =
    let p = c.args.parts in
    let header = c.behind-writer.ensures in (
      p.few,
      ap (λ (r : Run). stuff_count r (data_bits p)) header.run_is ∙ p.quiet,
      omega (arith, c.requires, room p, room-before p, header.placed.at-is, written-length header),
    )

pub tail-requires : goal.tail-requires
unfolding before
tail-requires c =
    let p = c.args.parts in
    let check = crc-of-parts p _ c.of_frame-crc.ensures in
    let written = written_behind (header_bits p) (data_bits p) c.behind-writer.ensures c.field.ensures in
    (check.1, rw (written.run_is, check.0) (omega (arith, c.requires, room p, written.placed.at-is, written-length written)))

-- the line as the writer leaves it
line : (c : After-tail) →
    let whole = line_in c.args.parts in
    (c.tail.new.self.at ≡ length whole) × (c.tail.new.self.line.now ≡ whole ++ drop (length whole) c.args.line.now)
line c =
    let p = c.args.parts in
    let check = crc-of-parts p _ c.of_frame-crc.ensures in
    let written = written_behind (header_bits p) (data_bits p) c.behind-writer.ensures c.field.ensures in
    let tail = rw (written.run_is, check.0) at c.tail.ensures in
    let parts = line-parts (header_bits p) (data_bits p) in
    rw parts (written-line (header_bits p ++ data_bits p) _ written tail (subst (λ (l : List ℕ). length l ≤ length c.args.line.now) parts c.requires))

pub returns-clause-length : goal.returns-clause-length
returns-clause-length c = (line (goal.at.returns-clause-length c).After-tail).0

pub returns-clause-memory : goal.returns-clause-memory
returns-clause-memory c =
    let written = line (goal.at.returns-clause-memory c).After-tail in
    let same = c.tail.ensures.same ∙ c.field.ensures.placed.same ∙ c.behind-writer.ensures.placed.same in
    search rules
