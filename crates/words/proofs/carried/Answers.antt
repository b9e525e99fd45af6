-- `words::carried` meets its contract: what the short list tells. Assumes nothing.
use mathlib.Core.Path.{sym, ap}
use native.Mathlib.Omega.{arith}
use Rattle.words.specs.Lists.{carried}
use Rattle.words.proofs.ShortList.{short-byte, short_none}
use Rattle.words.proofs.carried.Goals as goal

pub returns-then-entry-gt127 : goal.returns-then-entry-gt127
returns-then-entry-gt127 c =
    let entry = rw c.list.ensures at c.entry_in-entry.ensures in
    sym (short_none c.args.nine (rw entry at c.if-entry-gt127.true))

pub returns : goal.returns
returns c =
    let entry = rw c.list.ensures at c.entry_in-entry.ensures in
    let few = rw entry at c.if-entry-gt127.false in
    rw entry (sym (ap carried (short-byte c.args.nine (omega (arith, few)))))
