use Rattle.std.proofs.Common.{arith}
use Rattle.std.proofs.lemmas.List.{take_all}
use Rattle.report.proofs.Wrote.{wrote-behind}
use Rattle.report.proofs.HexBytes.{hex-more, bytes-none, bytes-some}
use Rattle.report.proofs.text.Text.bytes.Goals as goal

pub loop-byte-preserved : goal.loop-byte-preserved
loop-byte-preserved c =
    let two = wrote-behind (rw c.hex_digit.ensures at c.byte-in-loop-byte.ensures) (rw c.hex_digit-in-loop-byte.ensures at c.byte-in-loop-byte-2.ensures) in
    (rw (hex-more c.args.bytes.now c.loop-byte.byte-index (omega arith)) (wrote-behind c.loop-byte.invariant.0 two), omega arith)

pub returns-then-bytes-eq0-clause-written : goal.returns-then-bytes-eq0-clause-written
returns-then-bytes-eq0-clause-written c = rw (bytes-none c.args.bytes.now c.if-bytes-eq0.true) c.byte.ensures

pub returns-after-loop-byte-clause-written : goal.returns-after-loop-byte-clause-written
returns-after-loop-byte-clause-written c =
    let bytes = c.args.bytes.now in
    rw (bytes-some bytes c.if-bytes-eq0.false, ← take_all c.loop-byte.byte-index bytes c.loop-byte-test.false) c.loop-byte.invariant.0
