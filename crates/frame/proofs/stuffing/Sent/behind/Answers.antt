-- `frame::stuffing::Sent::behind` meets its contract: the list holds what is sent. Assumes nothing.
use mathlib.Core.Path.{◌≡◌, ap, ◌∙◌}
use mathlib.Core.List.{List}
use Prim.Native.Nat.{ℕ, ◌+◌, ◌*◌}
use lib.ListN.{get_or}
use Rattle.frame.specs.Fours.{sent_of}
use Rattle.frame.proofs.FourBits.{sent-list-at, run-left, four-sent, five-sent}
use Rattle.frame.proofs.stuffing.Sent.behind.Goals as goal
use Rattle.frame.proofs.stuffing.Sent.behind.Goals.{then-sent-lt32, else-sent-lt32}

pub returns : goal.returns
returns c =
    let last = c.args.last in
    let four = c.args.four in
    let held : get_or c.list.result.now (last.bits * 16 + four.bits) 0 ≡ sent_of last.bits four.bits =
    ap (λ (l : List ℕ). get_or l (last.bits * 16 + four.bits) 0) c.list.ensures ∙ sent-list-at last.bits four.bits last.low four.low in
    elim c.if-sent-lt32.branch [
      | then-sent-lt32 w ↦
          let sent = four-sent last.bits four.bits _ last.low four.low held w.if-sent-lt32.true in
          record { row_is = rw w.result-is sent.0; run_is = run-left last.bits four.bits _ last.low four.low held; drawn_is = rw w.result-is sent.1 }
      | else-sent-lt32 w ↦
          let sent = five-sent last.bits four.bits _ last.low four.low held w.if-sent-lt32.false in
          record { row_is = rw w.result-is sent.0; run_is = run-left last.bits four.bits _ last.low four.low held; drawn_is = rw w.result-is sent.1 }
    ]
