-- A word 0 stands for no literal, and its number is 0; the weight takes the place of the zero behind the literals.
use Rattle.std.proofs.Common.{◌∙◌, ap, ap₂}
use Rattle.scope.specs.Sheet.{W, line}
use Rattle.writer.specs.Laws.Filled.{plain_fields, weighted_fields}
use Rattle.writer.proofs.lines.wish_line.Goals as goal

pub returns-then-this-gt-MOST_LITERALS : goal.returns-then-this-gt-MOST_LITERALS
returns-then-this-gt-MOST_LITERALS g c =
    let e = rw (c.number.ensures, c.number-2.ensures, c.number-3.ensures) at c.line_of-line.ensures in
    ap₂ line (ap (λ l. l.letter) e) (weighted_fields c.args.wish c.line_of-line.result.numbers c.from.result c.from.ensures g.row.N c.requires.0 c.requires.1 c.if-this-gt-MOST_LITERALS.true (ap (λ l. l.fields) e))

pub returns-else-this-gt-MOST_LITERALS : goal.returns-else-this-gt-MOST_LITERALS
returns-else-this-gt-MOST_LITERALS g c =
    let e = rw (c.number.ensures, c.number-2.ensures, c.number-3.ensures) at c.line_of-line.ensures in
    e ∙ ap (line W) (plain_fields c.args.wish g.row.N c.requires.0 c.requires.1 c.if-this-gt-MOST_LITERALS.false)
