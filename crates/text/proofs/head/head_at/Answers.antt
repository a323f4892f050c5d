-- Its parts are read in turn: where one is stuck no legal text goes on, and after the last the two numbers are told.
use Rattle.std.proofs.Common.{arith}
use Rattle.scanner.specs.Laws.Tokens.{handed_on}
use Rattle.text.specs.Laws.Lines.{faults_within, faults_bad, feed_within, feed_bad, head_read}
use Rattle.text.proofs.head.head_at.Goals as goal

pub named_at-requires-2 : goal.named_at-requires-2
named_at-requires-2 c = (faults_within c.in_ok-switches.ensures, omega arith)

pub returns-in_err-faults : goal.returns-in_err-faults
returns-in_err-faults c = rw (handed_on _ c.from_residual-in_err-faults.ensures.1) (faults_bad c.in_ok-switches.ensures c.in_err-faults.ensures)

pub word_at-requires : goal.word_at-requires
word_at-requires c = (feed_within c.in_ok-switches.ensures c.in_ok-faults.ensures, omega arith)

pub returns-in_err-at : goal.returns-in_err-at
returns-in_err-at c = rw (handed_on _ c.from_residual-in_err-at.ensures.1) (feed_bad c.in_ok-switches.ensures c.in_ok-faults.ensures c.in_err-at.ensures)

pub returns : goal.returns
returns c = head_read c.in_ok-switches.ensures c.in_ok-faults.ensures c.in_ok-at.ensures
