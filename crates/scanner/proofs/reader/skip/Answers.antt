-- The next significant place is the one past a space.
use Prim.Native.Char.{code}
use Rattle.std.proofs.Common.{arith, ◌∙◌}
use Rattle.scanner.specs.Look.{skip}
use Rattle.scanner.specs.Laws.Walks.{past_byte}
use Rattle.scanner.proofs.reader.skip.Goals as goal

pub returns : goal.returns
unfolding skip
returns c = let a = c.args in c.past_byte.ensures ∙ past_byte a.text.now a.at (code " ") (omega arith)
