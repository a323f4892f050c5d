-- The search finds the first pattern that is not passed, or finds that all are.
use Rattle.std.proofs.Common.{◌≡◌, ◌^◌, true, false, rules, tests, ap, ◌∙◌}
use Rattle.std.proofs.lemmas.Iterator.{first_from_Range}
use Rattle.scope.specs.Meaning.{patterns, passes}
use Rattle.circuit.specs.Laws.Patterns.{missed_found}
use Rattle.circuit.proofs.planned.Planned.first_missed.Goals as goal

pub returns : goal.returns
returns c =
    let t = c.args.self.sheet.now in
    let p = c.args.self.plan.0 in
    let n : c.power.result ≡ patterns t = c.power.ensures ∙ ap (λ k. 2 ^ k.faults) c.counts.ensures.counts in
    missed_found t p c.power.result c.find.result c.map.result n c.map.ensures.cases
    (first_from_Range _ _ _ c.find.result (λ q. passes t p q ≡ false) (λ q. passes t p q ≡ true) c.find.ensures.ran (λ x q k. search (rules, tests)) (λ x q k. search (rules, tests)))
