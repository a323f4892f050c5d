-- The second number of a not is 0, which is one of the zeros.
use Rattle.std.proofs.Common.{arith, ap, ◌∙◌}
use Rattle.scope.specs.Sheet.{plus, line, field_count}
use Rattle.scope.specs.Sheet as scope
use Rattle.scope.proofs.Laws.Steps.{three_fields}
use Rattle.line.specs.Lines.{layout_of}
use Rattle.writer.specs.Laws.Filled.{one_filled}
use Rattle.writer.proofs.lines.gate_line.Goals as goal

pub returns-in-Not : goal.returns-in-Not
returns-in-Not g c =
    let y = layout_of g.row.N in
    rw c.in-Not.is (c.plain_line.ensures ∙ ap (line scope.N) (one_filled (field_count y) (omega (arith, three_fields y)) (plus c.in-Not.p)))
