-- A buffer that may be too short is left alone; otherwise the rows of what was read are put there.
use Rattle.std.proofs.Common.{refl}
use Rattle.output.specs.Laws.Listing.{not_listed, wrote_listing}
use Rattle.output.proofs.put_output.Goals as goal

pub returns-then-out-lt-MOST_LISTING-clause-listing : goal.returns-then-out-lt-MOST_LISTING-clause-listing
returns-then-out-lt-MOST_LISTING-clause-listing c = not_listed _ _ c.if-out-lt-MOST_LISTING.true

pub returns-in-Ok-clause-listing : goal.returns-in-Ok-clause-listing
returns-in-Ok-clause-listing c = rw c.in-Ok.is (wrote_listing _ _ c.args.out.now _ _ c.if-out-lt-MOST_LISTING.false refl c.put_answer-end.ensures)

pub returns-in-Err-clause-listing : goal.returns-in-Err-clause-listing
returns-in-Err-clause-listing c = rw c.in-Err.is (wrote_listing _ _ c.args.out.now _ _ c.if-out-lt-MOST_LISTING.false refl c.put_refusal-end.ensures)
