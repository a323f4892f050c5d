-- The sign stands in the text, so the place after it is a number.
use Rattle.std.proofs.Common.{arith}
use Rattle.scanner.specs.Look.{skip}
use Rattle.scanner.specs.Laws.Walks.{stands}
use Rattle.formula.proofs.sign.operand_at.Goals as goal

pub overflow_add-skip : goal.overflow_add-skip
overflow_add-skip c = let a = c.args in omega (arith, c.skip.ensures, stands a.s.now (skip a.s.now a.at) c.requires)
