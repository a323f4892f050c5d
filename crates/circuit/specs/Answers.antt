-- What the answers say. Assumes nothing.
use Rattle.std.specs.Prelude.{ℕ, Option, Some, None}
use Rattle.std.proofs.Math.Option.{none, some}
use Rattle.std.proofs.Math.Option as math
use Rattle.words.specs.declared.Pattern.{Pattern}

-- the smallest pattern that is not passed; none if all are
abbrev pub missed_of : Option Pattern → math.Option ℕ
missed_of None = none
missed_of (Some p) = some p.0
