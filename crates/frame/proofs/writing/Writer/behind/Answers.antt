-- `frame::writing::Writer::behind` meets its contract: three bits as they are, then the others with their stuff bits. Assumes nothing.
use mathlib.Core.Path.{◌≡◌, ap, ◌∙◌}
use Prim.Native.Nat.{ℕ, ◌+◌, ◌*◌, ◌/◌, ◌^◌}
use native.Mathlib.Omega.{arith}
use lib.ListN.{length, length-append}
use Rattle.bits.specs.Rows.{bits}
use Rattle.bits.specs.Stuffing.{nothing_sent, stuffed}
use Rattle.bits.proofs.Rows.{bits-length}
use Rattle.frame.specs.declared.header.Header.{Header}
use Rattle.frame.specs.Header.{bits_of}
use Rattle.frame.specs.Fours.{run_of}
use Rattle.frame.proofs.Quiet.{header-sent}
use Rattle.frame.proofs.Written.{placed-length, written-header}
use Rattle.frame.proofs.writing.Writer.behind.Goals as goal

-- the room that a header takes
room : (h : Header) →
    length (stuffed nothing_sent (bits_of h)) ≡ 3 + length (stuffed (run_of (8 + h.number / 2 ^ (4 * h.fours))) (bits (4 * h.fours) h.number))
room h =
    let three = h.number / 2 ^ (4 * h.fours) in
    let others = stuffed (run_of (8 + three)) (bits (4 * h.fours) h.number) in
    ap length (header-sent h) ∙ length-append (bits 3 three) _ ∙ ap (λ (k : ℕ). k + length others) (bits-length 3 three)

pub plain-requires : goal.plain-requires
plain-requires c = (omega arith, omega (arith, c.requires, room c.args.header))

pub stuffed-requires : goal.stuffed-requires
stuffed-requires c =
    let header = c.args.header in
    let placed = c.plain.ensures.row in (
      omega (arith, header.few),
      rw (c.plain.ensures.last, c.start.ensures)
          (omega (arith, c.requires, room header, placed.at-is, bits-length 3 (header.number / 2 ^ (4 * header.fours)), placed-length placed)),
    )

pub returns : goal.returns
returns c =
    written-header c.args.header c.plain.ensures.row (c.plain.ensures.last ∙ c.start.ensures) c.stuffed.ensures
