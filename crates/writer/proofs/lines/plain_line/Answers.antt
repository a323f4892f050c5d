-- The third number is one of the zeros.
use Rattle.std.proofs.Common.{[], ◌∷◌, sym, ap, ◌∙◌}
use Rattle.scope.specs.Sheet.{plus, line, filled}
use Rattle.line.specs.Lines.{letter_from}
use Rattle.writer.specs.Laws.Filled.{two_filled, counted}
use Rattle.writer.proofs.lines.plain_line.Goals as goal

pub returns : goal.returns
returns g c =
    let two = plus c.args.x ∷ plus c.args.y ∷ [] in
    (rw (c.from.ensures, c.from-2.ensures, c.from-3.ensures) at c.line_of.ensures) ∙ ap (line (letter_from c.args.letter)) (two_filled g.row.N c.requires.0 (plus c.args.x) (plus c.args.y) ∙ ap (λ n. filled n two) (sym (counted g.row.N c.requires.0 c.requires.1)))
