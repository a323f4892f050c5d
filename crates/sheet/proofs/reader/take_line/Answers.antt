-- By the letter: H finds no entries, and sets the counts of switches and faults; a gate, a rule or a wish is put behind those that are
-- there; Z leaves all as it is.
use Rattle.scope.specs.Causes.{make}
use Rattle.sheet.proofs.Entries.{head-taken, not_taken, and-taken, or-taken, rule-taken, wish-taken}
use Rattle.sheet.proofs.reader.take_line.Goals as goal

pub returns-in-Head : goal.returns-in-Head
returns-in-Head g c = rw c.in-Head.is (head-taken _ c.args.line.now.numbers _ _ c.put_head.ensures)

pub returns-in-Not : goal.returns-in-Not
returns-in-Not g c = rw c.in-Not.is (not_taken _ c.args.line.now.numbers _ _ c.put_gate.ensures)

pub returns-in-And : goal.returns-in-And
returns-in-And g c = rw c.in-And.is (and-taken _ c.args.line.now.numbers _ _ c.put_gate-in-And.ensures)

pub returns-in-Or : goal.returns-in-Or
returns-in-Or g c = rw c.in-Or.is (or-taken _ c.args.line.now.numbers _ _ c.put_gate-in-Or.ensures)

pub returns-in-Rule : goal.returns-in-Rule
returns-in-Rule g c = rw c.in-Rule.is (rule-taken _ c.args.line.now.numbers _ _ c.put_rule.ensures)

pub returns-in-Wish : goal.returns-in-Wish
returns-in-Wish g c = rw c.in-Wish.is (wish-taken _ c.args.line.now.numbers _ _ _ c.wish_words.ensures c.put_wish.ensures)

pub returns-in-End : goal.returns-in-End
unfolding make
returns-in-End g c = rw c.in-End.is (λ t z k. k)
