use Rattle.scanner.specs.Laws.Tokens.{handed_on}
use Rattle.text.proofs.wish.add_literal.Goals as goal

pub returns-in_err-literal : goal.returns-in_err-literal
returns-in_err-literal c = rw (handed_on _ c.from_residual.ensures.1) c.in_err-literal.ensures
