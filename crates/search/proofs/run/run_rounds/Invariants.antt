-- The rule goes on from the patterns listed with the room that is left, the words after them are as they were lent, and the last
-- candidate and every better plan fail the list.
use Rattle.std.proofs.Common.{◌-◌, length, take}
use Rattle.scope.specs.Jobs.{task}
use Rattle.search.specs.Steps.{Fails}
use Rattle.search.specs.Laws.Runs.{Kept, Onward}
use Rattle.search.proofs.run.run_rounds.Given as goal

abbrev pub invariant-loop-pattern : goal.invariant-loop-pattern
invariant-loop-pattern l = Kept l.fn.list l.list l.length × Onward (task l.sheet) l.fn.list l.list l.length × Fails (task l.sheet) (take l.length l.list) l.last

abbrev pub decreases-loop-pattern : goal.decreases-loop-pattern
decreases-loop-pattern l = length l.list - l.length
