-- The sum is what the first i wishes cost, each of them at most 999.
use Rattle.std.proofs.Common.{◌*◌, ◌≡◌, ◌≤◌}
use Rattle.scope.specs.Sheet.{most_weight}
use Rattle.circuit.specs.Laws.Wishes.{first}
use Rattle.circuit.proofs.planned.Planned.cost.Given as goal

abbrev pub invariant-loop-i : goal.invariant-loop-i
invariant-loop-i l = (l.sum ≤ l.i * most_weight) × (l.sum ≡ first l.self.sheet.now l.fn.self.plan.0 l.i)
