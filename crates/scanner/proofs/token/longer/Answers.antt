-- Both cases are those of the definition; the place after a digit is a number, as the digit stands in the text.
use Rattle.std.proofs.Common.{arith, sym}
use Rattle.scanner.specs.Tokens.{longer}
use Rattle.scanner.specs.Laws.Tokens.{digit_is, digit_stands}
use Rattle.scanner.proofs.token.longer.Goals as goal

pub overflow_add-result : goal.overflow_add-result
overflow_add-result c = omega (arith, digit_stands _ _ _ (sym c.in-Some.ensures))

pub overflow_add-result-in-Some : goal.overflow_add-result-in-Some
overflow_add-result-in-Some c = omega (arith, (digit_is _ _ _ (sym c.in-Some.ensures)).2)

pub returns-in-Some : goal.returns-in-Some
unfolding longer
returns-in-Some c = rw (← c.in-Some.ensures)

pub returns-in-None : goal.returns-in-None
unfolding longer
returns-in-None c = rw (← c.in-None.ensures)
