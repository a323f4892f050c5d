-- What is printed is no longer than its buffer.
use Rattle.output.specs.Laws.Listing.{listing_fits}
use Rattle.typed.proofs.main.Goals as goal

pub run-requires-clause-fits : goal.run-requires-clause-fits
run-requires-clause-fits c s lent m left printed kept = listing_fits _ lent.now left.now m printed kept
