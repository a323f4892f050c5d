-- The line's number is the one that is asked for.
use Rattle.std.proofs.Common.{arith}
use Rattle.text.proofs.lines.Lines.fault_with.Goals as goal

pub returns : goal.returns
returns c = λ rss rs h t e. c.first_of.ensures rss rs h t (omega (arith, e))
