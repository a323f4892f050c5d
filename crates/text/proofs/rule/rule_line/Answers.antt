-- The word, the formula and the line feed are read in turn: where one is stuck no legal text goes on, and after the last one more rule
-- is told.
use Rattle.scanner.specs.Laws.Tokens.{handed_on}
use Rattle.text.specs.Laws.Lines.{rule_word_bad, rule_bad, fed_stuck, rule_good}
use Rattle.text.proofs.rule.rule_line.Goals as goal

pub returns-in_err-at : goal.returns-in_err-at
returns-in_err-at c = rw (handed_on _ c.from_residual.ensures.1) (rule_word_bad c.requires.0 c.requires.1 c.in_err-at.ensures, tt)

pub returns-in_err-formula : goal.returns-in_err-formula
returns-in_err-formula c = rw (handed_on _ c.from_residual-in_err-formula.ensures.1) (rule_bad c.requires.0 c.requires.1 c.in_ok-at.ensures c.in_err-formula.ensures.0, tt)

pub returns-in_err-p : goal.returns-in_err-p
returns-in_err-p c =
    let f = c.in_ok-formula.ensures in
    rw (handed_on _ c.from_residual-in_err-p.ensures.1) (fed_stuck c.requires.0 c.requires.1 c.in_ok-at.ensures f.0 f.1 f.2 c.in_err-p.ensures, tt)

pub returns : goal.returns
returns c =
    let f = c.in_ok-formula.ensures in
    rule_good c.requires.0 c.requires.1 c.in_ok-at.ensures f.0 f.1 f.2 c.in_ok-p.ensures c.put_rule.ensures c.with_rule.ensures
