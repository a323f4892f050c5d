-- The figure of a row says what it is of.
use Rattle.std.proofs.Common.{rules, sym, ap, false, ◌∙◌}
use Rattle.scope.specs.Program.{one}
use Rattle.scope.specs.Meaning.{bits}
use Rattle.scope.proofs.Laws.Points.{length_bits}
use Rattle.listing.specs.Laws.Rows.{given_wrote}
use Rattle.listing.proofs.rows.put_switches.Goals as goal

pub returns-clause-rows : goal.returns-clause-rows
returns-clause-rows c =
    let t = c.args.found.sheet.now in
    let plan = c.args.found.plan.0 in
    given_wrote _ _ one (bits t.switches plan) false (length_bits t.switches plan ∙ ap (λ k. k.switches) (sym c.counts-n.ensures.counts)) (λ i x h r. search rules) c.put_rows.ensures
