-- The next plan leaves the best so far or takes over, as the definition of the best has it.
use Rattle.std.proofs.Common.{◌≡◌, ◌^◌, arith, ap, ◌∙◌}
use Rattle.scope.specs.Meaning.{plans}
use Rattle.scope.specs.Jobs.{task}
use Rattle.search.specs.Laws.Plans.{picks_none, picks_next, picks_best}
use Rattle.search.proofs.best.best_plan.Goals as goal

pub loop-i-init : goal.loop-i-init
loop-i-init c = (picks_none (task c.args.sheet.now) c.args.list.now, tt)

pub loop-i-preserved : goal.loop-i-preserved
loop-i-preserved c =
    (picks_next (task c.args.sheet.now) c.args.list.now c.loop-i.i c.loop-i.best c.with_plan-best.result c.loop-i.invariant.0 c.with_plan-best.ensures.0, c.with_plan-best.ensures.1)

pub returns : goal.returns
returns c =
    let n : c.power-end.result ≡ plans c.args.sheet.now = c.power-end.ensures ∙ ap (λ k. 2 ^ k.switches) c.counts.ensures.counts in
    (picks_best (task c.args.sheet.now) c.args.list.now c.loop-i.i c.loop-i.best (omega arith) c.loop-i.invariant.0, c.loop-i.invariant.1)
