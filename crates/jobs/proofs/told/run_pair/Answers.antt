-- The cause to turn the source down is what is told, and the runs are those of a refusal.
use Rattle.jobs.proofs.told.run_pair.Goals as goal

pub returns-in-Err : goal.returns-in-Err
returns-in-Err c = rw c.in-Err.is (c.refused.ensures c.args.list.now c.args.j)
