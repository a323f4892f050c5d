-- The first literal is read, and each further one is put last, after the space that stands in the text.
use Rattle.std.proofs.Common.{sym, arith}
use Rattle.scanner.specs.Laws.Tokens.{handed_on}
use Rattle.text.specs.Laws.Wishes.{literal_asked, less_literals, literals_first, literals_more, literals_stuck}
use Rattle.text.proofs.wish.literals_at.Goals as goal

pub returns-in_err-w : goal.returns-in_err-w
returns-in_err-w c = rw (handed_on _ c.from_residual.ensures.1) (λ v. c.in_err-w.ensures v _)

pub loop-w-init : goal.loop-w-init
loop-w-init c = literals_first c.in_ok-w.ensures

pub overflow_add-w : goal.overflow_add-w
overflow_add-w c = omega (arith, (literal_asked _ _ (sym c.loop-w-test.ensures)).0)

pub add_literal-requires-in-loop-w : goal.add_literal-requires-in-loop-w
add_literal-requires-in-loop-w c = literal_asked _ _ (sym c.loop-w-test.ensures)

pub loop-w-smaller : goal.loop-w-smaller
loop-w-smaller c = less_literals _ c.in_ok-w-2.ensures

pub loop-w-preserved : goal.loop-w-preserved
loop-w-preserved c = literals_more (sym c.loop-w-test.ensures) c.loop-w.invariant c.in_ok-w-2.ensures

pub returns-in_err-w-2 : goal.returns-in_err-w-2
returns-in_err-w-2 c = rw (handed_on _ c.from_residual-in_err-w-2.ensures.1) (literals_stuck (sym c.loop-w-test.ensures) c.loop-w.invariant c.in_err-w-2.ensures)
