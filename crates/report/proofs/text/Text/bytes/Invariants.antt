use Rattle.std.proofs.Common.{◌≡◌, ◌+◌, ◌*◌, take}
use Rattle.report.specs.Text.{hex}
use Rattle.report.specs.Writing.{Wrote}
use Rattle.report.proofs.text.Text.bytes.Given as goal

abbrev pub invariant-loop-byte : goal.invariant-loop-byte
invariant-loop-byte l =
    Wrote (hex (take l.byte-index l.bytes)) l.initial.self l.self × (l.self.end ≡ l.initial.self.end + 2 * l.byte-index)
