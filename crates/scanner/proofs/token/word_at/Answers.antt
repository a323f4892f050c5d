-- The word is read where as many bytes were passed as it has, and otherwise no legal text goes on at the place come to.
use Rattle.std.proofs.Common.{arith}
use Rattle.scanner.specs.Laws.Tokens.{word_good, word_bad}
use Rattle.scanner.proofs.token.word_at.Goals as goal

pub returns-then-end-at : goal.returns-then-end-at
returns-then-end-at c = λ st. let a = c.args in rw c.past_word-end.ensures (word_bad a.s.now a.word.now a.at c.requires.0 c.requires.1 st (omega arith))

pub returns : goal.returns
returns c = λ st. let a = c.args in rw c.past_word-end.ensures (word_good a.s.now a.word.now a.at c.requires.0 c.requires.1 st (omega arith))
