-- The two tests are those of the definition, in its order.
use Rattle.std.proofs.Common.{arith, ◌∙◌}
use Rattle.scanner.specs.Laws.Walks.{byte_of_eq}
use Rattle.formula.specs.Formulas.{not_sign, open_sign, goes_deeper}
use Rattle.formula.proofs.level.goes_deeper.Goals as goal

pub returns-then-eq : goal.returns-then-eq
unfolding goes_deeper
returns-then-eq c = rw (← byte_of_eq c.args.b not_sign (omega arith), ← c.eq.ensures, c.if-eq.true)

pub returns-else-eq : goal.returns-else-eq
unfolding goes_deeper
returns-else-eq c = rw (← byte_of_eq c.args.b not_sign (omega arith), ← c.eq.ensures, c.if-eq.false) (c.eq-else-eq.ensures ∙ byte_of_eq c.args.b open_sign (omega arith))
