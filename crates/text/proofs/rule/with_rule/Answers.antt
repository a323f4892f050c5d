-- The line's tests come out as those of the definition.
use Rattle.std.proofs.Common.{◌≡◌, ◌&&◌, leb, ltb, refl, rules, tests}
use Rattle.scope.specs.Sheet.{most_gates, most_rules}
use Rattle.text.proofs.rule.with_rule.Goals as goal

pub returns : goal.returns
returns c =
    let a = c.args in
    let room : c.if-p-le-MOST_GATES.room ≡ (leb a.p.gates most_gates && ltb a.l.rules most_rules) = search (rules, tests) in
    record { at = refl; gates = refl; rules = refl; wishes = refl; fault = λ rss h e. c.fault_with.ensures rss _ h (rw room at c.tests.ensures) e }
