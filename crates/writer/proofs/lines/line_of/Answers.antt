-- The numbers take the place of as many zeros.
use Rattle.std.proofs.Common.{ap}
use Rattle.scope.specs.Sheet.{line}
use Rattle.line.specs.Lines.{letter_from}
use Rattle.writer.specs.Laws.Filled.{three_filled}
use Rattle.writer.proofs.lines.line_of.Goals as goal

pub returns : goal.returns
returns g c = ap (line (letter_from c.args.letter)) (three_filled g.row.N c.requires c.args.x c.args.y c.args.z c.from-numbers.result c.from-numbers.ensures)
