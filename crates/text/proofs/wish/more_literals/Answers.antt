-- The two tests are those of the definition, in its order.
use Rattle.std.proofs.Common.{arith, lt-ltb, le-ltb}
use Rattle.scope.specs.Sheet.{most_literals}
use Rattle.text.specs.Wishes.{more_literals}
use Rattle.text.proofs.wish.more_literals.Goals as goal

pub returns-then-w-lt-MOST_LITERALS : goal.returns-then-w-lt-MOST_LITERALS
unfolding more_literals
returns-then-w-lt-MOST_LITERALS c = let w = c.args.w in rw (lt-ltb w.count most_literals (omega arith)) c.literal_follows.ensures

pub returns-else-w-lt-MOST_LITERALS : goal.returns-else-w-lt-MOST_LITERALS
unfolding more_literals
returns-else-w-lt-MOST_LITERALS c = let w = c.args.w in rw (le-ltb w.count most_literals (omega arith))
