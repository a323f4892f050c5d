-- A line that is not formed has one test, which is not met.
use Rattle.scope.specs.Causes.{First}
use Rattle.causes.proofs.place.Place.line_fault.Goals as goal

pub returns-in-Err : goal.returns-in-Err
returns-in-Err g c = λ t h. rw c.in-Err.is First.here
