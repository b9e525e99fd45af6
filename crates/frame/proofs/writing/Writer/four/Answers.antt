-- `frame::writing::Writer::four` meets its contract: the list tells whether a stuff bit goes out too. Assumes nothing.
use mathlib.Core.Path.{refl, sym, ap}
use native.Mathlib.Nat.{add-zero}
use native.Mathlib.Omega.{arith}
use lib.ListN.{length, length-append}
use Rattle.bits.proofs.Rows.{bits-length}
use Rattle.frame.specs.Sent.{first_bits}
use Rattle.frame.specs.Writing.{Placed}
use Rattle.frame.proofs.Written.{placed-length}
use Rattle.frame.proofs.writing.Writer.four.Goals as goal
use Rattle.frame.proofs.writing.Writer.four.Goals.{Joined-sent, in-Some, in_default}

-- the bit before the last four, if there is one
first : (c : Joined-sent) → Placed c.args.self.now.at (first_bits c.behind-sent.result.first) c.args.self.now.line c.match-sent.self
first c = elim c.match-sent.branch [
  | in-Some w ↦ rw (w.self-is, w.in-Some.is) (record { line-is = refl; at-is = refl; same = refl })
  | in_default w ↦ rw (w.self-is, w.in_default.is) (record { line-is = refl; at-is = sym (add-zero _); same = refl })
]

pub plain_four-requires : goal.plain_four-requires
plain_four-requires c =
    let placed = first (goal.at.plain_four-requires c).Joined-sent in
    let sent = c.behind-sent.result in
    let row = ap length c.behind-sent.ensures.row_is in
    omega (
      arith,
      c.requires,
      placed.at-is,
      placed-length placed,
      bits-length 4 sent.last.bits,
      simp length-append at row,
    )
