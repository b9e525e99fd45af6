-- The digits of the tenth part come first.
use Rattle.std.proofs.Common.{arith}
use Rattle.report.proofs.Wrote.{wrote-behind}
use Rattle.report.proofs.Decimal.{decimal-short, decimal-long, decimal-grows, decimal-one}
use Rattle.report.proofs.text.Text.+decimal.Goals as goal

pub digit-requires : goal.digit-requires
digit-requires t c = (c.if-n-lt10.true, omega (arith, c.requires, decimal-one c.args.n c.if-n-lt10.true))

pub returns-then-n-lt10 : goal.returns-then-n-lt10
returns-then-n-lt10 t c = rw (decimal-short c.args.n c.if-n-lt10.true) c.digit.ensures

pub decimal-requires : goal.decimal-requires
decimal-requires t c = (omega arith, omega (arith, c.requires, decimal-grows c.args.n c.if-n-lt10.false (omega (arith, c.ranges.n))))

pub digit-requires-2 : goal.digit-requires-2
digit-requires-2 t c = (omega arith, omega (arith, c.requires, decimal-grows c.args.n c.if-n-lt10.false (omega (arith, c.ranges.n))))

pub returns : goal.returns
returns t c = rw (decimal-long c.args.n c.if-n-lt10.false (omega (arith, c.ranges.n))) (wrote-behind c.decimal.ensures c.digit-2.ensures)
