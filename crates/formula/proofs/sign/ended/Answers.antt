-- Where the byte stands it is in the text, so the place after it is a number.
use Rattle.std.proofs.Common.{◌≡◌, arith, sym, ◌∙◌, eqb-true}
use Rattle.scanner.specs.Look.{look}
use Rattle.scanner.specs.Laws.Walks.{stands}
use Rattle.formula.specs.Formulas.{ended_of}
use Rattle.formula.proofs.sign.ended.Goals as goal

pub overflow_add-result : goal.overflow_add-result
overflow_add-result c =
    let a = c.args in
    let e : look a.s.now a.at ≡ a.b = eqb-true _ _ (sym c.next_is.ensures ∙ c.if-next_is.true) in
    omega (arith, stands a.s.now a.at (omega arith))

pub returns-then-next_is : goal.returns-then-next_is
unfolding ended_of
returns-then-next_is c = rw (← c.next_is.ensures, c.if-next_is.true)

pub returns-else-next_is : goal.returns-else-next_is
unfolding ended_of
returns-else-next_is c = rw (← c.next_is.ensures, c.if-next_is.false, c.skip.ensures)
