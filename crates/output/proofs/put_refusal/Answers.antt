-- Answer gives a refusal as it is, with nothing listed.
use Rattle.std.proofs.Common.{subst}
use Rattle.listing.specs.Rows.{Wrote}
use Rattle.output.specs.Laws.Listing.{refused_rows}
use Rattle.output.proofs.put_refusal.Goals as goal

pub returns : goal.returns
returns c =
    subst (λ rs. Wrote c.args.out.now rs c.put_listing.new.out c.put_listing.result)
    (refused_rows c.args.cause c.refused.result c.refused.ensures c.requires.source c.head.result c.head.ensures) c.put_listing.ensures
