-- The list is passed when each of its patterns is.
use Rattle.std.proofs.Common.{rules, tests, ◌∙◌}
use Rattle.std.proofs.lemmas.Iterator.{YieldsList-from_slice}
use Rattle.std.proofs.lemmas.Iterator.Search.{all_from_yields_List}
use Rattle.scope.specs.Meaning.{passes}
use Rattle.scope.specs.Jobs.{task}
use Rattle.search.specs.Laws.Plans.{all_passed}
use Rattle.search.proofs.best.passes_all.Goals as goal

pub returns : goal.returns
returns c =
    all_from_yields_List (passes c.args.planned.sheet.now c.args.planned.plan.0) _ _ c.all.result c.all.ensures.ran (YieldsList-from_slice c.args.list.now c.iter.ensures.rest) (λ x b q k. search (rules, tests))
    ∙ all_passed (task c.args.planned.sheet.now) c.args.planned.plan.0 c.args.list.now
