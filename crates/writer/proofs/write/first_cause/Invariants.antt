-- The lines passed meet their tests.
use Rattle.std.proofs.Common.{◌≡◌}
use Rattle.writer.specs.Entries.{before_end}
use Rattle.writer.specs.Laws.Passed.{Passed}
use Rattle.writer.proofs.write.first_cause.Given as goal

abbrev pub invariant-loop-k : goal.invariant-loop-k
invariant-loop-k l = (l.k-end ≡ before_end l.words) × Passed l.words l.k-counter
