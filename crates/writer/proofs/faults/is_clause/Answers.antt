-- The numbers tested are those of the codes.
use Rattle.std.proofs.Common.{ap, ◌∙◌, rules, tests, false}
use Rattle.scope.specs.Causes.{literals}
use Rattle.field.specs.declared.Number.{Number}
use Rattle.writer.specs.Laws.Words.{numbers_mapped}
use Rattle.writer.proofs.faults.is_clause.Goals as goal

pub returns : goal.returns
returns c =
    let o : Number = record { minus = false; size = 0 } in
    c.are_literals.ensures ∙ ap (literals c.args.a) (numbers_mapped c.args.codes c.map.result o c.map.ensures.items.long (λ i h. let e = c.map.ensures.items.at i 0 o h in search (rules, tests)))
