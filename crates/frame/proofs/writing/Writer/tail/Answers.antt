-- `frame::writing::Writer::tail` meets its contract: the CRC with its stuff bits, and what is never stuffed. Assumes nothing.
use native.Mathlib.Omega.{arith}
use Rattle.frame.specs.Fours.{run_of}
use Rattle.frame.proofs.Written.{tail-room, written-length, written-tail}
use Rattle.frame.proofs.writing.Writer.tail.Goals as goal

pub stuffed-requires : goal.stuffed-requires
stuffed-requires c =
    let room = tail-room (run_of c.args.self.now.last.bits) c.args.crc in
    (omega arith, rw c.check.ensures (omega (arith, c.requires.1, room.0, room.1)))

pub overflow_sub-self : goal.overflow_sub-self
overflow_sub-self c =
    let room = tail-room (run_of c.args.self.now.last.bits) c.args.crc in
    let written = rw c.check.ensures at c.stuffed.ensures in
    omega (arith, written.placed.at-is, room.0, room.2)

pub plain-requires : goal.plain-requires
plain-requires c =
    let room = tail-room (run_of c.args.self.now.last.bits) c.args.crc in
    let written = rw c.check.ensures at c.stuffed.ensures in
    (omega arith, omega (arith, c.requires.1, written.placed.at-is, room.0, room.1, written-length written))

pub returns : goal.returns
returns c =
    let written = rw c.check.ensures at c.stuffed.ensures in
    written-tail (run_of c.args.self.now.last.bits) c.args.crc written c.plain.ensures.row
