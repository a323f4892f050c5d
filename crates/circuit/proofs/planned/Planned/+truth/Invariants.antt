-- A gate names points before its own, so the point's number falls.
use Rattle.circuit.proofs.planned.Planned.+truth.Given as goal

abbrev pub decreases-truth : goal.decreases-truth
decreases-truth l = l.point
