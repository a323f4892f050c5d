-- The rules before i are true.
use Rattle.std.proofs.Common.{◌≡◌, ℕ, ◌<◌, get_or, true}
use Rattle.scope.specs.Meaning.{truth}
use Rattle.circuit.proofs.planned.Planned.passes.Given as goal

abbrev pub invariant-loop-i : goal.invariant-loop-i
invariant-loop-i l = (k : ℕ) → k < l.i → truth l.self.sheet.now l.self.plan.0 l.pattern.0 (get_or l.self.sheet.now.rules k 0) ≡ true
