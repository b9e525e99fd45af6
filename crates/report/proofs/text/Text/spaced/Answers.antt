use Rattle.std.proofs.Common.{arith}
use Rattle.report.proofs.Wrote.{wrote-behind}
use Rattle.report.proofs.Decimal.{decimal-most}
use Rattle.report.proofs.text.Text.spaced.Goals as goal

pub decimal-requires : goal.decimal-requires
decimal-requires c = omega (arith, c.requires, decimal-most c.args.n)

pub byte-requires : goal.byte-requires
byte-requires c = omega (arith, c.requires, decimal-most c.args.n)

pub returns : goal.returns
returns c =
    record {
      written = wrote-behind c.decimal.ensures c.byte.ensures;
      short = omega (arith, decimal-most c.args.n);
    }
