-- The lines so far are read; a further line begins with the letter of a wish and ends at a later place, so less of the text is left.
use Rattle.std.proofs.Common.{◌-◌, length}
use Rattle.text.specs.Wishes.{WishesTold}
use Rattle.text.proofs.wish.wish_lines.Given as goal

abbrev pub invariant-loop-c : goal.invariant-loop-c
invariant-loop-c l = WishesTold l.s l.c l.l l.words

abbrev pub decreases-loop-c : goal.decreases-loop-c
decreases-loop-c l = length l.s - l.l.at
