-- The figure of a row says what it is of.
use Rattle.std.proofs.Common.{rules, sym, ap}
use Rattle.scope.specs.Program.{one}
use Rattle.scope.specs.Meaning.{kept}
use Rattle.scope.specs.Words.{no_wish}
use Rattle.listing.specs.Laws.Rows.{given_wrote}
use Rattle.listing.proofs.rows.put_wishes.Goals as goal

pub returns : goal.returns
returns c =
    let t = c.args.found.sheet.now in
    given_wrote _ _ (λ w. one (kept t c.args.found.plan.0 w.clause)) t.wishes no_wish (ap (λ k. k.wishes) (sym c.counts-n.ensures.counts)) (λ i x h r. search rules) c.put_rows.ensures
