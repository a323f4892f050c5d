-- After `s` and after `f` a number is read, whose point is the switch's or comes after all switches; with `!` and `(` ruled out, no
-- other byte begins an operand.
use Rattle.std.proofs.Common.{◌∙◌, arith}
use Rattle.scanner.specs.Laws.Walks.{stands}
use Rattle.formula.specs.Laws.Factors.{switch_read, fault_read, no_atom}
use Rattle.formula.proofs.level.atom.Goals as goal

pub numbered-requires : goal.numbered-requires
numbered-requires c = let a = c.args in (omega (arith, stands a.s.now a.at (omega (arith, c.in-Some-eq115.ensures))), omega arith)

pub numbered-requires-in-Some-eq102 : goal.numbered-requires-in-Some-eq102
numbered-requires-in-Some-eq102 c = let a = c.args in (omega (arith, stands a.s.now a.at (omega (arith, c.in-Some-eq102.ensures))), a.c.few_switches)

pub returns-in-Some-eq115 : goal.returns-in-Some-eq115
returns-in-Some-eq115 c = switch_read c.args.c c.requires.0 (omega (arith, c.in-Some-eq115.ensures)) _ c.numbered.ensures

pub returns-in-Some-eq102 : goal.returns-in-Some-eq102
returns-in-Some-eq102 c = fault_read c.args.c c.requires.0 (omega (arith, c.in-Some-eq102.ensures)) _ c.numbered-in-Some-eq102.ensures

pub returns-in_default : goal.returns-in_default
returns-in_default c =
    let b = c.in_default in
    no_atom c.args.c c.requires.0 (λ z. b.field-0-test.0.1 (b.ensures ∙ z)) (λ z. b.field-0-test.1 (b.ensures ∙ z)) c.requires.1

pub returns-in_default-2 : goal.returns-in_default-2
returns-in_default-2 c =
    let e = rw c.in_default.is at c.look.ensures in
    no_atom c.args.c c.requires.0 (λ z. omega (arith, e)) (λ z. omega (arith, e)) c.requires.1
