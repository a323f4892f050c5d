-- Where the word is bad both are, and else the walk comes past the word and goes on as over the number.
use Rattle.scope.specs.Parsing.{start}
use Rattle.scanner.specs.Laws.Tokens.{named_bad, handed_on}
use Rattle.scanner.proofs.token.named_at.Goals as goal

pub returns-in_err-word_at : goal.returns-in_err-word_at
returns-in_err-word_at c = rw (handed_on _ c.from_residual.ensures.1) (named_bad _ _ c.args.most c.in_err-word_at.ensures)

pub number_at-requires : goal.number_at-requires
number_at-requires c = (c.in_ok-word_at.ensures start).within
