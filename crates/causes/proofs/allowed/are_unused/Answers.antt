-- All fields pass one test, as the definition has it.
use Rattle.std.proofs.Common.{rules, tests, ◌∙◌}
use Rattle.std.proofs.lemmas.Iterator.{YieldsList-from_slice}
use Rattle.std.proofs.lemmas.Iterator.Search.{all_from_yields_List}
use Rattle.scope.specs.Causes.{is}
use Rattle.field.specs.Columns.{number_from}
use Rattle.causes.proofs.Fields.{all_zeros}
use Rattle.causes.proofs.allowed.are_unused.Goals as goal

pub returns : goal.returns
returns c = all_from_yields_List (λ x. is 0 (number_from x)) _ _ _ c.all.ensures.ran (YieldsList-from_slice c.args.xs.now cc) (λ x b q k. search (rules, tests)) ∙ all_zeros _
