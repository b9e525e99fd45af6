-- What a lent buffer holds after an answer. Assumes nothing.
use Rattle.std.specs.Prelude.{ℕ, cond, List, ◌++◌, eqb, length, drop}
use Rattle.refusals.specs.Table.{Numbers}

-- where it is no refusal the result, and behind it the old bytes; after a refusal the old bytes [7.6, 7.7]
abbrev pub after : Numbers → List ℕ → List ℕ → List ℕ
after x result old = cond (eqb x.refusal 0) (result ++ drop (length result) old) old
