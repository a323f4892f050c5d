-- A broken wish costs its weight, which is at most 999, and a kept one 0.
use Rattle.std.proofs.Common.{◌≡◌, ◌≤◌, ◌<◌, length, get_or, arith, ap}
use Rattle.scope.specs.Sheet.{Allowed, most_weight}
use Rattle.scope.proofs.Laws.Alls.{all_at}
use Rattle.scope.specs.Words.{no_wish}
use Rattle.circuit.specs.Laws.Wishes.{first_none, first_next}
use Rattle.circuit.proofs.planned.Planned.cost.Goals as goal
use Rattle.circuit.proofs.planned.Planned.cost.Goals.{then-not-keeps, else-not-keeps}

pub loop-i-init : goal.loop-i-init
loop-i-init c = (omega arith, first_none c.args.self.sheet.now c.args.self.plan.0)

pub loop-i-preserved : goal.loop-i-preserved
loop-i-preserved c =
    let t = c.args.self.sheet.now in
    let i = c.loop-i.i in
    let n : i < length t.wishes = omega (arith, ap (λ k. k.wishes) c.counts-i-end.ensures.counts) in
    let few : (get_or t.wishes i no_wish).weight ≤ most_weight = (all_at (Allowed t.switches) t.wishes no_wish i c.switches-switches.ensures.valid.wishes n).weight.1 in
    let weighs : c.wish-wish.result.weight ≡ (get_or t.wishes i no_wish).weight = ap (λ w. w.weight) c.wish-wish.ensures in
    let kept = rw (c.switches-switches.ensures.count, c.switches-switches.ensures.plan, ap (λ w. w.clause) c.wish-wish.ensures) at c.keeps.ensures in
    let next = first_next t c.args.self.plan.0 i c.keeps.result n kept in
    elim c.if-not-keeps.branch [
      | then-not-keeps w ↦ (omega (arith, few, weighs, w.sum-is), omega (arith, weighs, w.sum-is, rw w.if-not-keeps.true at next))
      | else-not-keeps w ↦ (omega (arith, w.sum-is), omega (arith, w.sum-is, rw w.if-not-keeps.false at next))
    ]
