-- The figure of a row says what it is of.
use Rattle.std.proofs.Common.{rules, refl}
use Rattle.listing.specs.Laws.Rows.{given_wrote}
use Rattle.listing.proofs.rows.put_patterns.Goals as goal

pub returns : goal.returns
returns c = given_wrote _ _ (λ x. x) c.args.list.now 0 refl (λ i x h r. search rules) c.put_rows.ensures
