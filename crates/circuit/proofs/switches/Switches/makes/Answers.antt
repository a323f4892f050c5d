-- A literal is true where its switch is not as its minus says.
use Rattle.std.proofs.Common.{rules, tests}
use Rattle.scope.specs.Meaning.{bits, nth}
use Rattle.circuit.specs.Laws.Wishes.{keeps_there}
use Rattle.circuit.proofs.switches.Switches.makes.Goals as goal

pub returns : goal.returns
returns c = keeps_there (nth (bits c.args.self.count c.args.self.plan.0)) c.args.literal c.is_some_and.result (search (rules, tests))
