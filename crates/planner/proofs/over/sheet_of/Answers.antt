-- What is read is a source for the jobs, so that what is accepted is valid.
use Rattle.std.proofs.Common.{refl}
use Rattle.planner.proofs.over.sheet_of.Goals as goal

pub new-requires : goal.new-requires
new-requires g c = (g.met.F.Form.source c.args.s.now _ c.in_ok-read.ensures.read).valid _ refl
