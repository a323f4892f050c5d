-- The two tests are those of the definition, in its order; the place after the space is a number, as the space stands in the text.
use Rattle.std.proofs.Common.{arith, sym, ◌∙◌, eqb-true}
use Rattle.scanner.specs.Laws.Walks.{stands}
use Rattle.text.specs.Wishes.{literal_follows}
use Rattle.text.proofs.wish.literal_follows.Goals as goal

pub overflow_add-at : goal.overflow_add-at
overflow_add-at c = let a = c.args in omega (arith, stands a.s.now a.at (omega (arith, eqb-true _ _ (sym c.next_is.ensures ∙ c.if-next_is.true))))

pub returns-then-next_is : goal.returns-then-next_is
unfolding literal_follows
returns-then-next_is c = rw (sym c.next_is.ensures ∙ c.if-next_is.true, c.next_is-then-next_is.ensures)

pub returns-else-next_is : goal.returns-else-next_is
unfolding literal_follows
returns-else-next_is c = rw (sym c.next_is.ensures ∙ c.if-next_is.false, c.if-next_is.false)
