-- The word, the literals and the weight with the line feed are read in turn: where one is stuck no legal text goes on, and after the last
-- one more wish is told.
use Rattle.scanner.specs.Laws.Tokens.{handed_on}
use Rattle.text.specs.Laws.Wishes.{no_name, no_literals_lem, ended_within, no_weight, wish_read}
use Rattle.text.proofs.wish.wish_line.Goals as goal

pub returns-in_err-at : goal.returns-in_err-at
returns-in_err-at c = rw (handed_on _ c.from_residual.ensures.1) (no_name c.requires.0 c.requires.1 c.in_err-at.ensures, tt)

pub returns-in_err-w : goal.returns-in_err-w
returns-in_err-w c = rw (handed_on _ c.from_residual-in_err-w.ensures.1) (no_literals_lem c.requires.0 c.requires.1 c.in_ok-at.ensures c.in_err-w.ensures, tt)

pub weight_at-requires : goal.weight_at-requires
weight_at-requires c = ended_within c.requires.0 c.requires.1 c.in_ok-at.ensures c.in_ok-w.ensures.0

pub returns-in_err-weight : goal.returns-in_err-weight
returns-in_err-weight c =
    let w = c.in_ok-w.ensures in
    rw (handed_on _ c.from_residual-in_err-weight.ensures.1) (no_weight c.requires.0 c.requires.1 c.in_ok-at.ensures w.0 w.1 c.in_err-weight.ensures, tt)

pub returns : goal.returns
returns c =
    let w = c.in_ok-w.ensures in
    wish_read c.requires.0 c.requires.1 c.in_ok-at.ensures w.0 w.1 c.in_ok-weight.ensures c.put_wish.ensures c.with_wish.ensures
