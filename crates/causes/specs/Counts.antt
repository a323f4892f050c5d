-- The counts of what the lines so far say: in no promise of an exported call. Assumes nothing.
use Rattle.std.specs.Prelude.{◌≤◌}
use Rattle.scope.specs.Sheet.{most_switches, most_faults, most_gates}
use Rattle.words.specs.declared.counts.Counts.{Counts}

-- few enough that the points are counted without a wrap
pub record Few (c : Counts) : Type 0 where
  pub switches : c.switches ≤ most_switches
  pub faults : c.faults ≤ most_faults
  pub gates : c.gates ≤ most_gates
