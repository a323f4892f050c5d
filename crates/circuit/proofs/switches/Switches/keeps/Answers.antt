-- A wish is kept when one of its literals is true.
use Rattle.std.proofs.Common.{rules, tests, sym, subst, ◌∙◌}
use Rattle.std.proofs.lemmas.Iterator.{YieldsList-from_slice}
use Rattle.std.proofs.lemmas.Iterator.Adapters.{serves_from_places}
use Rattle.std.proofs.lemmas.Iterator.Search.{any_from_yields_List}
use Rattle.scope.specs.Meaning.{bits, nth, keeps}
use Rattle.scope.proofs.Laws.Alls.{all_at}
use Rattle.words.specs.Entries.{literals_there}
use Rattle.words.specs.Laws.Literals.{Named}
use Rattle.circuit.specs.Laws.Wishes.{keeps_each, named_each}
use Rattle.circuit.proofs.switches.Switches.keeps.Goals as goal

pub any-requires-clause-callable : goal.any-requires-clause-callable
any-requires-clause-callable c =
    serves_from_places (YieldsList-from_slice c.args.clause c.iter.ensures.rest) (λ x q k. search (rules, tests)) (λ x k l e.
    let n : Named c.args.self.count (literals_there x.now) = subst (λ m. Named c.args.self.count (literals_there m)) (sym e) (all_at (λ m. Named c.args.self.count (literals_there m)) c.args.clause x.now k (named_each c.args.self.count c.args.clause c.requires) l) in
    search (rules, n))

pub returns : goal.returns
returns c =
    let v = nth (bits c.args.self.count c.args.self.plan.0) in
    any_from_yields_List (λ n. keeps v (literals_there n)) _ _ c.any.result c.any.ensures.ran (YieldsList-from_slice c.args.clause c.iter.ensures.rest) (λ x b q k. search (rules, tests))
    ∙ keeps_each v c.args.clause
