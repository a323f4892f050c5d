-- The figures that the jobs return, as the scope names them. Assumes nothing.
use Rattle.std.specs.Prelude.{ℕ, List, [], ◌∷◌, Result, Ok, Err}
use Rattle.scope.specs.Jobs.{refusal, found, Answer, answered, unrated, rated}
use Rattle.scope.specs.Jobs as jobs
use Rattle.scope.specs.Program.{one}
use Rattle.words.specs.declared.refusal.Cause.{Cause}
use Rattle.words.specs.Refusals.{number_of}
use Rattle.circuit.specs.Answers.{missed_of}
use Rattle.search.specs.declared.best.Candidate.{Candidate}
use Rattle.jobs.specs.declared.outcome.Outcome.{Outcome}
use Rattle.jobs.specs.declared.outcome.Rating.{Rating}

-- the plan with its cost, or the cause that there is none
abbrev pub answer_figures : Result Candidate Cause → (length : ℕ) → jobs.Result
answer_figures (Ok c) l = found c.plan.0 c.cost l
answer_figures (Err e) l = refusal (number_of e.refusal) e.place e.column l

abbrev pub result_of : Outcome → jobs.Result
result_of o = answer_figures o.answer o.length

-- the plan's cost, and the first pattern that it misses, if any
abbrev pub rating_of : Result Rating Cause → jobs.Rating
rating_of (Ok r) = rated r.cost (missed_of r.missed)
rating_of (Err e) = unrated (number_of e.refusal) e.place e.column

-- Answer's figures, and the lent list afterwards
abbrev pub answer_from : Outcome → List ℕ → Answer
answer_from o l = answered (result_of o) l

-- ---- the figures one by one, as the calls for C hand them out

abbrev pub figures : (number place column plan cost length : ℕ) → jobs.Result
figures n k i p c l = record { number = n; place = k; column = i; plan = p; cost = c; length = l }

-- sound is 1 or 0
abbrev pub rating_figures : jobs.Rating → List ℕ
rating_figures r = r.number ∷ r.place ∷ r.column ∷ r.cost ∷ one r.sound ∷ r.pattern ∷ r.length ∷ []
