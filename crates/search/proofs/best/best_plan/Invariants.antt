-- The best so far is the best of the plans below i, with its cost.
use Rattle.scope.specs.Jobs.{task}
use Rattle.search.specs.Answers.{Priced}
use Rattle.search.specs.Laws.Plans.{Picks}
use Rattle.search.proofs.best.best_plan.Given as goal

abbrev pub invariant-loop-i : goal.invariant-loop-i
invariant-loop-i l = Picks (task l.sheet) l.list l.i l.best × Priced (task l.sheet) l.best
