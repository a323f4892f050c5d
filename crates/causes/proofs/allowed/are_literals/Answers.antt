-- A literal leaves whether all are literals and then zeros as it is; a 0 leaves it to the fields after it; any other number settles it.
use Rattle.std.proofs.Common.{sym, ◌∙◌}
use Rattle.causes.proofs.Fields.{literals_end, literals-fill, literals-go-on, literals-stop}
use Rattle.causes.proofs.allowed.are_literals.Goals as goal

pub returns-then-is_zero : goal.returns-then-is_zero
returns-then-is_zero c = c.are_unused.ensures ∙ literals-fill _ _ _ _ c.loop-i-test.true (sym c.is_zero.ensures ∙ c.if-is_zero.true) ∙ c.loop-i.invariant

pub returns-then-not-is_literal : goal.returns-then-not-is_literal
returns-then-not-is_literal c = literals-stop _ _ _ _ c.loop-i-test.true (sym c.is_zero.ensures ∙ c.if-is_zero.false) (sym c.is_literal.ensures ∙ c.if-not-is_literal.true) ∙ c.loop-i.invariant

pub loop-i-preserved : goal.loop-i-preserved
loop-i-preserved c = literals-go-on _ _ _ _ c.loop-i-test.true (sym c.is_zero.ensures ∙ c.if-is_zero.false) (sym c.is_literal.ensures ∙ c.if-not-is_literal.false) ∙ c.loop-i.invariant

pub returns : goal.returns
returns c = sym (literals_end _ _ _ c.loop-i-test.false) ∙ c.loop-i.invariant
