-- What steps of the code give: in no promise of an exported call. Assumes nothing.
use Rattle.std.specs.Prelude.{ℕ, suc, Option, Some, None, Result, Ok, Err}
use Rattle.std.proofs.Math.Option.{none, some}
use Rattle.std.proofs.Math.Option as math
use Rattle.scope.specs.Jobs.{refusal, found}
use Rattle.scope.specs.Jobs as jobs
use Rattle.search.specs.declared.best.Candidate.{Candidate}
use Rattle.search.specs.declared.run.NoRoom.{NoRoom}
use Rattle.search.specs.declared.run.Run.{Run}

-- the best plan with its cost, or 8
abbrev pub best_figures : Option Candidate → (length : ℕ) → jobs.Result
best_figures None l = refusal 8 0 0 l
best_figures (Some c) l = found c.plan.0 c.cost l

-- a full run's, or 9 where the room ran out
abbrev pub full_figures : Result (Option Candidate) NoRoom → (length : ℕ) → jobs.Result
full_figures (Ok b) l = best_figures b l
full_figures (Err e) l = refusal 9 0 0 l

abbrev pub run_figures : Run → jobs.Result
run_figures r = full_figures r.best r.length

-- a place from 0 as a position from 1
abbrev pub high_of : Option ℕ → math.Option ℕ
high_of None = none
high_of (Some i) = some (suc i)
