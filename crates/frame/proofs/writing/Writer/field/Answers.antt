-- `frame::writing::Writer::field` meets its contract: where no stuff bit is drawn the bits go out as they are. Assumes nothing.
use mathlib.Core.Path.{ap, ◌∙◌}
use Rattle.frame.specs.Fours.{run_of}
use Rattle.frame.proofs.Written.{written-field}
use Rattle.frame.proofs.writing.Writer.field.Goals as goal

pub returns : goal.returns
returns c =
    let fours = c.plain_fours.ensures in
    written-field _ c.args.field.n c.args.field.number c.requires.1 (ap run_of fours.last ∙ c.behind-self.ensures) fours.row
