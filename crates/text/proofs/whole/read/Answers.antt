-- A text that is too long is refused, and any other is told by its lines.
use Rattle.words.specs.Laws.Sheets.{zero_words}
use Rattle.words.specs.Laws.Told.{fills_accepted, fills_refused}
use Rattle.scope.specs.Words.{held}
use Rattle.scope.specs.Texts.{TextRead}
use Rattle.text.specs.Laws.Texts.{too_long_lem, illegal, text_at_fault, text_accepted, text_valid, text_words}
use Rattle.text.proofs.whole.read.Goals as goal

pub returns-then-s-gt-MOST_TEXT : goal.returns-then-s-gt-MOST_TEXT
returns-then-s-gt-MOST_TEXT c = rw c.at.ensures (too_long_lem c.if-s-gt-MOST_TEXT.true)

pub lines_of-requires : goal.lines_of-requires
lines_of-requires c = (c.if-s-gt-MOST_TEXT.false, zero_words)

pub returns-in-Err : goal.returns-in-Err
returns-in-Err c = rw c.at-in-Err.ensures (fills_refused (TextRead c.args.s.now) _ _ (illegal c.if-s-gt-MOST_TEXT.false c.in-Err.ensures))

pub returns-in-Some : goal.returns-in-Some
returns-in-Some c = rw c.at-in-Some.ensures (fills_refused (TextRead c.args.s.now) _ _ (text_at_fault c.if-s-gt-MOST_TEXT.false c.in-Ok.ensures c.in-Some.is))

pub returns-in-None : goal.returns-in-None
returns-in-None c =
    let short = c.if-s-gt-MOST_TEXT.false in
    fills_accepted (TextRead c.args.s.now) (held c.lines_of.new.words) c.lines_of.new.words (text_accepted short c.in-Ok.ensures c.in-None.is) (text_valid short c.in-Ok.ensures c.in-None.is) (text_words short c.in-Ok.ensures c.in-None.is)
