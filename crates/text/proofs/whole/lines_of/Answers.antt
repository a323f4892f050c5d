-- The parts follow each other, and after the wishes the text ends or is stuck.
use Rattle.text.specs.Laws.Texts.{rules_begin, wishes_begin, text_goes_on, text_ends}
use Rattle.text.proofs.whole.lines_of.Goals as goal

pub rule_lines-requires : goal.rule_lines-requires
rule_lines-requires c = rules_begin c.in_ok-h.h c.requires.0 c.in_ok-h.ensures c.from.ensures c.requires.1 c.put_head.ensures

pub wish_lines-requires : goal.wish_lines-requires
wish_lines-requires c = wishes_begin c.in_ok-rules.ensures.0 c.in_ok-rules.ensures.1

pub returns-then-l-s : goal.returns-then-l-s
returns-then-l-s c = text_goes_on c.in_ok-l.ensures.0 c.in_ok-l.ensures.1 c.if-l-s.true

pub returns : goal.returns
returns c = text_ends c.in_ok-l.ensures.0 c.in_ok-l.ensures.1 c.if-l-s.false
