-- The invariant: whether the fields from i on are literals and then zeros is whether all are. A literal leaves that as it is; a 0
-- leaves it to the fields after it; any other number settles it.
use Rattle.std.proofs.Common.{◌≡◌, drop}
use Rattle.scope.specs.Causes.{literals}
use Rattle.line.specs.Lines.{numbers_from}
use Rattle.causes.proofs.allowed.are_literals.Given as goal

abbrev pub invariant-loop-i : goal.invariant-loop-i
invariant-loop-i l = literals l.a (numbers_from (drop l.i l.xs)) ≡ literals l.a (numbers_from l.xs)
