-- The words before the place found are below the bound, and all are where none is found.
use Rattle.std.proofs.Common.{◌<◌, ◌≤◌, rules, tests}
use Rattle.std.proofs.lemmas.Iterator.{YieldsList-from_slice, IsFirst-from_position}
use Rattle.jobs.specs.Laws.Jobs.{high_found}
use Rattle.jobs.proofs.answer.first_high.Goals as goal

pub returns-clause-first : goal.returns-clause-first
returns-clause-first c =
    high_found c.args.bound c.args.list.now c.position.result
    (IsFirst-from_position _ _ c.position.result (λ q. c.args.bound ≤ q) (λ q. q < c.args.bound) c.position.ensures.ran (YieldsList-from_slice c.args.list.now c.iter.ensures.rest) (λ x q k. search (rules, tests)) (λ x q k. search (rules, tests)))
