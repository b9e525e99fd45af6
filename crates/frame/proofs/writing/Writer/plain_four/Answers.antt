-- `frame::writing::Writer::plain_four` meets its contract: the bytes that the list holds are the four bits. Assumes nothing.
use mathlib.Core.Path.{◌≡◌, refl, ap, ◌∙◌}
use mathlib.Core.List.{List, []}
use Prim.Native.Nat.{ℕ, suc, ◌+◌}
use native.Mathlib.Omega.{arith}
use lib.ListN.{get_or}
use Rattle.bits.specs.Rows.{bits}
use Rattle.bits.proofs.Rows.{bits-length}
use Rattle.frame.proofs.FourBits.{byte-list-at}
use Rattle.frame.proofs.writing.Writer.plain_four.Goals as goal

pub returns-clause-row : goal.returns-clause-row
unfolding bits
returns-clause-row c =
    let at = c.args.self.now.at in
    let four = c.args.four in
    let read : get_or c.list.result.now four.bits [] ≡ bits 4 four.bits =
    ap (λ (l : List (List ℕ)). get_or l four.bits []) c.list.ensures ∙ byte-list-at four.bits four.low in
    let one : at + 1 ≡ suc at = omega arith in
    let two : at + 2 ≡ suc (suc at) = omega arith in
    let three : at + 3 ≡ suc (suc (suc at)) = omega arith in
    record { line-is = rw (read, one, two, three) refl; at-is = omega (arith, bits-length 4 four.bits); same = refl }
