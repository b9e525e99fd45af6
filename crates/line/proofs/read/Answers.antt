-- `line::read` meets its contract: the bits decide, and then the data field. Assumes nothing.
use mathlib.Core.Path.{sym, ap, ◌∙◌}
use mathlib.Core.List.{List, ◌++◌}
use Prim.Native.Nat.{ℕ}
use lib.ListN.{length, drop}
use Rattle.line.specs.Read.{with_identifier}
use Rattle.line.proofs.FromScan.{from-held, from-refused}
use Rattle.line.proofs.read.Goals as goal

pub returns-in-Err-clause-answer : goal.returns-in-Err-clause-answer
returns-in-Err-clause-answer c = sym (from-refused _ _ _ _ (sym c.scan.ensures ∙ c.in-Err.is))

pub returns-in-Err-decode_number-clause-answer : goal.returns-in-Err-decode_number-clause-answer
returns-in-Err-decode_number-clause-answer c =
    let held = from-held _ _ _ (length c.args.payload.now) (sym c.scan.ensures ∙ c.in-Ok.is) in
    ap (with_identifier c.in-Ok.held.identifier) c.in-Err-decode_number.ensures.answer ∙ held.0

pub returns-in-Ok-decode_number-clause-answer : goal.returns-in-Ok-decode_number-clause-answer
returns-in-Ok-decode_number-clause-answer c =
    let held = from-held _ _ _ (length c.args.payload.now) (sym c.scan.ensures ∙ c.in-Ok.is) in
    ap (with_identifier c.in-Ok.held.identifier) c.in-Ok-decode_number.ensures.answer ∙ held.0

pub returns-in-Ok-decode_number-clause-memory : goal.returns-in-Ok-decode_number-clause-memory
returns-in-Ok-decode_number-clause-memory c =
    let held = from-held _ _ _ (length c.args.payload.now) (sym c.scan.ensures ∙ c.in-Ok.is) in
    c.in-Ok-decode_number.ensures.memory ∙ ap (λ (l : List ℕ). l ++ drop (length l) c.args.payload.now) held.1
