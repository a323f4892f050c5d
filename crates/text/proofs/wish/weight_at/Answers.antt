-- A line feed alone says no weight. Otherwise the word, the number and the line feed are read in turn: where one is stuck no legal text
-- goes on.
use Rattle.std.proofs.Common.{arith, sym, ◌∙◌, eqb-true}
use Rattle.std.proofs.lemmas.Bool.{eqb-false}
use Rattle.scanner.specs.Laws.Tokens.{handed_on}
use Rattle.text.specs.Laws.Wishes.{weight_missing, weight_bad, weight_within, weight_unfed, weight_read}
use Rattle.text.proofs.wish.weight_at.Goals as goal

pub returns-then-next_is : goal.returns-then-next_is
returns-then-next_is c = weight_missing (eqb-true _ _ (sym c.next_is.ensures ∙ c.if-next_is.true))

pub returns-in_err-weight : goal.returns-in_err-weight
returns-in_err-weight c = rw (handed_on _ c.from_residual.ensures.1) (weight_bad (eqb-false _ _ (sym c.next_is.ensures ∙ c.if-next_is.false)) c.in_err-weight.ensures)

pub word_at-requires : goal.word_at-requires
word_at-requires c = (weight_within (eqb-false _ _ (sym c.next_is.ensures ∙ c.if-next_is.false)) c.in_ok-weight.ensures, omega arith)

pub returns-in_err-end : goal.returns-in_err-end
returns-in_err-end c = rw (handed_on _ c.from_residual-in_err-end.ensures.1) (weight_unfed (eqb-false _ _ (sym c.next_is.ensures ∙ c.if-next_is.false)) c.in_ok-weight.ensures c.in_err-end.ensures)

pub returns : goal.returns
returns c = weight_read (eqb-false _ _ (sym c.next_is.ensures ∙ c.if-next_is.false)) c.in_ok-weight.ensures c.in_ok-end.ensures
