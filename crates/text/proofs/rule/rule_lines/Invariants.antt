-- The lines so far are read; a further line begins with the letter of a rule and ends at a later place, so less of the text is left.
use Rattle.std.proofs.Common.{◌-◌, length}
use Rattle.text.specs.Lines.{RulesTold}
use Rattle.text.proofs.rule.rule_lines.Given as goal

abbrev pub invariant-loop-c : goal.invariant-loop-c
invariant-loop-c l = RulesTold l.s l.c l.l l.words

abbrev pub decreases-loop-c : goal.decreases-loop-c
decreases-loop-c l = length l.s - l.l.at
