-- By what the line is of: a valid sheet has room for it.
use Rattle.std.proofs.Common.{arith, sym, ap, ◌∙◌}
use Rattle.scope.specs.Sheet.{plus, R, Z, line, weighted, field_count, gate_line}
use Rattle.scope.proofs.Laws.Steps.{three_fields}
use Rattle.line.specs.Lines.{layout_of}
use Rattle.words.specs.Laws.Held.{held_gates, held_rules, held_wishes, held_gate}
use Rattle.writer.specs.Laws.Filled.{one_filled}
use Rattle.writer.specs.Laws.Lines.{line_is}
use Rattle.writer.specs.Laws.Printed.{few_lines}
use Rattle.writer.specs.declared.entries.Entry.{Entry}
use Rattle.writer.proofs.lines.Lines.at.Goals as goal

pub valid_gate-requires-clause-listed : goal.valid_gate-requires-clause-listed
valid_gate-requires-clause-listed g c = omega (arith, c.in-Gate.ensures, held_gates c.args.self.words.now)

pub rule_at-requires : goal.rule_at-requires
rule_at-requires g c = omega (arith, c.in-Rule.ensures, c.requires.valid.few_rules, held_rules c.args.self.words.now)

pub wish_at-requires : goal.wish_at-requires
wish_at-requires g c = omega (arith, c.in-Wish.ensures, c.requires.valid.few_wishes, held_wishes c.args.self.words.now)

pub overflow_cast-k : goal.overflow_cast-k
overflow_cast-k g c = omega (arith, few_lines weighted c.args.self.words.now c.requires.valid)

pub returns-in-Head : goal.returns-in-Head
returns-in-Head g c = (rw c.counts_of-c.ensures at c.plain_line.ensures) ∙ (sym (line_is (layout_of g.row.N) c.args.self.words.now c.args.k Entry.Head c.in-Head.ensures))

pub returns-in-Gate : goal.returns-in-Gate
returns-in-Gate g c = (c.gate_line.ensures ∙ ap (gate_line (layout_of g.row.N)) (c.valid_gate.ensures ∙ held_gate c.args.self.words.now c.in-Gate.i c.in-Gate.ensures.0)) ∙ (sym (line_is (layout_of g.row.N) c.args.self.words.now c.args.k (Entry.Gate c.in-Gate.i) c.in-Gate.ensures))

pub returns-in-Rule : goal.returns-in-Rule
returns-in-Rule g c =
    (rw c.rule_at.ensures at c.plain_line-in-Rule.ensures) ∙ ap (line R) (one_filled (field_count (layout_of g.row.N)) (omega (arith, three_fields (layout_of g.row.N))) (plus _)) ∙ (sym (line_is (layout_of g.row.N) c.args.self.words.now c.args.k (Entry.Rule c.in-Rule.i) c.in-Rule.ensures))

pub returns-in-Wish : goal.returns-in-Wish
returns-in-Wish g c = rw (c.wish_line.ensures, c.wish_at.ensures) (sym (line_is (layout_of g.row.N) c.args.self.words.now c.args.k (Entry.Wish c.in-Wish.i) c.in-Wish.ensures))

pub returns-in-End : goal.returns-in-End
returns-in-End g c =
    (rw c.in-End.ensures at c.plain_line-in-End.ensures) ∙ ap (line Z) (one_filled (field_count (layout_of g.row.N)) (omega (arith, three_fields (layout_of g.row.N))) (plus _)) ∙ (sym (line_is (layout_of g.row.N) c.args.self.words.now c.args.k Entry.End c.in-End.ensures))
