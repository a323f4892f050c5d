-- What the answers of the search say. Assumes nothing.
use Rattle.std.specs.Prelude.{ℕ, ◌≤◌, List, [], ◌≡◌, length, take, Option, Some, None, Result, Ok, Err, IfOk}
use Rattle.std.proofs.Math.Option.{none, some}
use Rattle.std.proofs.Math.Option as math
use Rattle.scope.specs.Rule.{Task, Verdict, no_room, verdict_of, run, rule}
use Rattle.scope.specs.Jobs.{over}
use Rattle.search.specs.declared.best.Candidate.{Candidate}
use Rattle.search.specs.declared.run.NoRoom.{NoRoom}
use Rattle.search.specs.declared.run.Run.{Run}

-- ---- the best plan, with its cost

abbrev pub best_of : Option Candidate → math.Option ℕ
best_of None = none
best_of (Some c) = some c.plan.0

-- its cost is what the plan costs
abbrev pub Priced : Task → Option Candidate → Type 0
Priced t None = Unit {0}
Priced t (Some c) = c.cost ≡ t.cost c.plan.0

-- ---- a full run over a lent list: its verdict, and the list afterwards

abbrev pub verdict_by : Result (Option Candidate) NoRoom → Verdict
verdict_by (Ok b) = verdict_of (best_of b)
verdict_by (Err e) = no_room

abbrev pub verdict_from : Run → Verdict
verdict_from r = verdict_by r.best

pub record Ran (t : Task) (lent : List ℕ) (r : Run) (after : List ℕ) : Type 0 where
  pub fits : r.length ≤ length lent
  pub ruled : rule t (length lent) [] ≡ run (verdict_from r) (take r.length after)
  pub list : after ≡ over (take r.length after) lent
  pub priced : IfOk r.best (Priced t)
