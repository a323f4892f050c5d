-- The literals so far are read; a further one comes after a space, where there are fewer than three, and ends at a later place.
use Rattle.std.proofs.Common.{◌-◌, length}
use Rattle.text.specs.Wishes.{LiteralsGood}
use Rattle.text.proofs.wish.literals_at.Given as goal

abbrev pub invariant-loop-w : goal.invariant-loop-w
invariant-loop-w l = LiteralsGood l.s l.switches l.at l.w

abbrev pub decreases-loop-w : goal.decreases-loop-w
decreases-loop-w l = length l.s - l.w.at
