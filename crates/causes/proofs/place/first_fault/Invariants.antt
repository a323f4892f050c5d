-- The invariant: the tests so far are met, so what the others tell is what all tell.
use Rattle.std.proofs.Common.{drop}
use Rattle.std.specs.Prelude.{Result}
use Rattle.words.specs.Refusals.{Tested}
use Rattle.words.specs.declared.refusal.Refusal.{Refusal}
use Rattle.causes.specs.Tests.{tests_from}
use Rattle.causes.proofs.place.first_fault.Given as goal

abbrev pub invariant-loop-met : goal.invariant-loop-met
invariant-loop-met l = (r : Result (Unit {0}) Refusal) → Tested (tests_from (drop l.met-index l.tests)) r → Tested (tests_from l.tests) r
