-- Where there is no candidate the run ends, and where there is one, what it misses first says whether it ends.
use Rattle.std.specs.Prelude.{ℕ, List, Option, Some, None}
use Rattle.std.proofs.Common.{rules, tests, ◌≡◌, refl}
use Rattle.scope.specs.Rule.{Task, best, missed}
use Rattle.scope.specs.Jobs.{task}
use Rattle.words.specs.declared.Pattern.{Pattern}
use Rattle.circuit.specs.Answers.{missed_of}
use Rattle.search.specs.declared.best.Candidate.{Candidate}
use Rattle.search.specs.Answers.{best_of, Priced}
use Rattle.search.specs.Steps.{Stepped}
use Rattle.search.specs.Laws.Rounds.{no_candidate, candidate_sound, candidate_misses}
use Rattle.search.proofs.run.next.Goals as goal

-- a candidate, b, and the pattern that it misses first
module _ (t : Task) (l : List ℕ) (b : Option Candidate) (best_is : best_of b ≡ best t l) (priced : Priced t b) (c : Candidate) (e : b ≡ Some c) (m : Option Pattern) (missed_is : missed_of m ≡ missed t c.plan.0) where
  round : (o : Option Pattern) → m ≡ o → Stepped t l (Some c) o
  round None f = candidate_sound t l b best_is priced c e m missed_is f
  round (Some q) f = candidate_misses t l b best_is priced c e m missed_is q f

pub returns-in_err-plan-clause-stepped : goal.returns-in_err-plan-clause-stepped
returns-in_err-plan-clause-stepped c l e p =
    let n : c.args.candidate ≡ None = search (rules, tests) in
    let m : c.from_residual.result ≡ None = search (rules, tests) in
    rw (n, m) (no_candidate (task c.args.sheet.now) l c.args.candidate e p n)

pub returns-clause-stepped : goal.returns-clause-stepped
returns-clause-stepped c l e p =
    let n : c.args.candidate ≡ Some c.in_ok-plan.field-0 = search (rules, tests) in
    rw n (round (task c.args.sheet.now) l c.args.candidate e p c.in_ok-plan.field-0 n c.first_missed.result c.first_missed.ensures c.first_missed.result refl)
