-- Each call in the cycle has a lesser measure: three times the depth, and 0, 1 or 2 by the level. A loop's invariant is that what is
-- read so far is a formula of its level; each turn reads an operand further, so fewer bytes are left.
use Rattle.std.proofs.Common.{List, ℕ, ◌+◌, ◌-◌, ◌*◌, ◌≢◌, length}
use Rattle.scope.specs.Typed.{ands, ors}
use Rattle.formula.specs.Formulas.{Good, and_sign, sign_at}
use Rattle.formula.proofs.level.+and_level_factor_or_level.Given as goal

abbrev pub decreases-and_level : goal.decreases-and_level
decreases-and_level l = l.depth * 3 + 1

abbrev pub decreases-factor : goal.decreases-factor
decreases-factor l = l.depth * 3

abbrev pub decreases-or_level : goal.decreases-or_level
decreases-or_level l = l.depth * 3 + 2

abbrev pub invariant-and_level-loop-c : goal.invariant-and_level-loop-c
invariant-and_level-loop-c l = (u : List ℕ) → Good ands l.s l.depth l.c l.gates l.at l.initial.p u l.initial.sheet → Good ands l.s l.depth l.c l.gates l.at l.p u l.sheet

abbrev pub decreases-and_level-loop-c : goal.decreases-and_level-loop-c
decreases-and_level-loop-c l = length l.s - l.p.at

abbrev pub invariant-or_level-loop-c : goal.invariant-or_level-loop-c
invariant-or_level-loop-c l = (sign_at l.s l.p.at ≢ and_sign) × ((u : List ℕ) → Good ors l.s l.depth l.c l.gates l.at l.initial.p u l.initial.sheet → Good ors l.s l.depth l.c l.gates l.at l.p u l.sheet)

abbrev pub decreases-or_level-loop-c : goal.decreases-or_level-loop-c
decreases-or_level-loop-c l = length l.s - l.p.at
