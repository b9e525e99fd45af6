-- The buffer holds what the body codes to.
use Rattle.std.proofs.Common.{refl}
use Rattle.report.proofs.Outcomes.{Coded, coded-held, coded-shown}
use Rattle.report.proofs.writing.coded.Goals as goal
use Rattle.report.proofs.writing.coded.Goals.{Joined-found, in-Payload, in-Field}

left : (c : Joined-found) → Coded c.args.found c.args.body.now c.match-found.letter.0 c.match-found.letter.1 c.match-found.bytes
left c =
    elim c.match-found.branch [
      | in-Payload w ↦
          rw (w.in-Payload.is, w.letter-is, w.bytes-is)
          (record { letter-is = refl; answer-is = w.encode.ensures.answer; old = _; left = w.encode.ensures.memory })
      | in-Field w ↦
          rw (w.in-Field.is, w.letter-is, w.bytes-is)
          (record { letter-is = refl; answer-is = w.decode.ensures.answer; old = _; left = w.decode.ensures.memory })
    ]

pub line-requires : goal.line-requires
line-requires c = (coded-held _ _ _ _ _ (left (goal.at.line-requires c).Joined-found), c.requires)

pub returns : goal.returns
returns c = rw (← coded-shown _ _ _ _ _ (left (goal.at.returns c).Joined-found) c.args.number) c.line.ensures
