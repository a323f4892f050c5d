-- A turn of a loop reads an operand after a sign, which stands in the text, and puts the operator's gate; a factor is a single number,
-- a not or a formula in brackets, each one level deeper.
use Rattle.std.proofs.Common.{sym, arith, eqb-true}
use Rattle.std.proofs.lemmas.Bool.{eqb-false}
use Rattle.scanner.specs.Laws.Tokens.{handed_on}
use Rattle.formula.specs.Laws.Levels.{sign_stands, turn_ends, operand_asked, less_left, ands_first, ands_stuck, ands_more, ands_halt, ors_first, ors_stuck, ors_more, ors_halt}
use Rattle.formula.specs.Laws.Factors.{deeper_here, not_here, open_here, inner_asked, too_deep, not_read, not_stuck, bracket_read, bracket_stuck}
use Rattle.formula.proofs.level.+and_level_factor_or_level.Goals as goal

-- ---- factors joined by `&`

pub and_level-returns-in_err-p : goal.and_level-returns-in_err-p
and_level-returns-in_err-p t c = rw (handed_on _ c.from_residual.ensures.1) (ands_stuck _ c.in_err-p.ensures, tt)

pub and_level-factor-requires-in-loop-c : goal.and_level-factor-requires-in-loop-c
and_level-factor-requires-in-loop-c t c = (omega arith, rw c.operand_at-from.ensures (operand_asked (sign_stands _ _ _ (omega arith) (sym c.loop-c-test.ensures)) c.requires (c.loop-c.invariant _ (ands_first c.in_ok-p.ensures))))

pub and_level-returns-in_err-q : goal.and_level-returns-in_err-q
and_level-returns-in_err-q t c =
    let e = eqb-true _ _ (sym c.loop-c-test.ensures) in
    rw (handed_on _ c.from_residual-in_err-q.ensures.1) (ands_halt (c.loop-c.invariant _ (ands_first c.in_ok-p.ensures)) e (rw c.operand_at-from.ensures at c.in_err-q.ensures), tt)

pub and_level-loop-c-smaller : goal.and_level-loop-c-smaller
and_level-loop-c-smaller t c = less_left c.loop-c.p (rw c.operand_at-from.ensures at c.in_ok-q.ensures) c.joined-p.ensures

pub and_level-loop-c-preserved : goal.and_level-loop-c-preserved
and_level-loop-c-preserved t c = λ u h. ands_more (c.loop-c.invariant u h) (eqb-true _ _ (sym c.loop-c-test.ensures)) c.requires (rw c.operand_at-from.ensures at c.in_ok-q.ensures) c.joined-p.ensures

pub and_level-returns : goal.and_level-returns
and_level-returns t c = (c.loop-c.invariant _ (ands_first c.in_ok-p.ensures), eqb-false _ _ (sym c.loop-c-test.ensures))

-- ---- a factor

pub factor-returns-then-not-goes_deeper : goal.factor-returns-then-not-goes_deeper
factor-returns-then-not-goes_deeper t c = c.in_ok-a.ensures _ _

pub factor-returns-then-depth-eq0 : goal.factor-returns-then-depth-eq0
factor-returns-then-depth-eq0 t c = too_deep (deeper_here _ _ c.look-b.result c.look-b.ensures c.goes_deeper.ensures c.if-not-goes_deeper.false) c.requires.within c.if-depth-eq0.true

pub factor-factor-requires : goal.factor-factor-requires
factor-factor-requires t c = (omega arith, rw c.skip-from.ensures (inner_asked (deeper_here _ _ c.look-b.result c.look-b.ensures c.goes_deeper.ensures c.if-not-goes_deeper.false) c.requires))

pub factor-returns-in_err-p : goal.factor-returns-in_err-p
factor-returns-in_err-p t c = rw (handed_on _ c.from_residual-in_err-p.ensures.1) (not_stuck _ c.if-depth-eq0.false (not_here _ _ c.look-b.result c.look-b.ensures c.if-eq.ensures) (rw c.skip-from.ensures at c.in_err-p.ensures))

pub factor-returns-then-eq : goal.factor-returns-then-eq
factor-returns-then-eq t c = not_read _ c.if-depth-eq0.false (not_here _ _ c.look-b.result c.look-b.ensures c.if-eq.ensures) c.requires (rw c.skip-from.ensures at c.in_ok-p.ensures) c.with_gate.ensures

pub factor-or_level-requires : goal.factor-or_level-requires
factor-or_level-requires t c = (omega arith, rw c.skip-from.ensures (inner_asked (deeper_here _ _ c.look-b.result c.look-b.ensures c.goes_deeper.ensures c.if-not-goes_deeper.false) c.requires))

pub factor-returns-in_err-or_level : goal.factor-returns-in_err-or_level
factor-returns-in_err-or_level t c =
    let o = open_here _ _ c.look-b.result c.look-b.ensures c.if-eq.ensures (deeper_here _ _ c.look-b.result c.look-b.ensures c.goes_deeper.ensures c.if-not-goes_deeper.false) in
    rw (handed_on _ c.from_residual-in_err-or_level.ensures.1) (bracket_stuck _ c.if-depth-eq0.false o (rw c.skip-from.ensures at c.in_err-or_level.ensures.0))

pub factor-returns : goal.factor-returns
factor-returns t c =
    let o = open_here _ _ c.look-b.result c.look-b.ensures c.if-eq.ensures (deeper_here _ _ c.look-b.result c.look-b.ensures c.goes_deeper.ensures c.if-not-goes_deeper.false) in
    rw c.closed.ensures (bracket_read _ c.if-depth-eq0.false o (rw c.skip-from.ensures at c.in_ok-or_level.ensures.0) c.in_ok-or_level.ensures.1 c.in_ok-or_level.ensures.2)

-- ---- these joined by `|`

pub or_level-returns-in_err-p : goal.or_level-returns-in_err-p
or_level-returns-in_err-p t c = rw (handed_on _ c.from_residual.ensures.1) (ors_stuck _ c.in_err-p.ensures.0, tt, tt)

pub or_level-and_level-requires-in-loop-c : goal.or_level-and_level-requires-in-loop-c
or_level-and_level-requires-in-loop-c t c = (omega arith, rw c.operand_at-from.ensures (operand_asked (sign_stands _ _ _ (omega arith) (sym c.loop-c-test.ensures)) c.requires (c.loop-c.invariant.1 _ (ors_first c.in_ok-p.ensures.0))))

pub or_level-returns-in_err-q : goal.or_level-returns-in_err-q
or_level-returns-in_err-q t c =
    let e = eqb-true _ _ (sym c.loop-c-test.ensures) in
    rw (handed_on _ c.from_residual-in_err-q.ensures.1) (ors_halt (c.loop-c.invariant.1 _ (ors_first c.in_ok-p.ensures.0)) e (rw c.operand_at-from.ensures at c.in_err-q.ensures.0), tt, tt)

pub or_level-loop-c-smaller : goal.or_level-loop-c-smaller
or_level-loop-c-smaller t c = less_left c.loop-c.p (rw c.operand_at-from.ensures at c.in_ok-q.ensures.0) c.joined-p.ensures

pub or_level-loop-c-preserved : goal.or_level-loop-c-preserved
or_level-loop-c-preserved t c = (
  turn_ends _ c.joined-p.ensures _ c.in_ok-q.ensures.1,
  λ u h. ors_more (c.loop-c.invariant.1 u h) (eqb-true _ _ (sym c.loop-c-test.ensures)) c.requires (rw c.operand_at-from.ensures at c.in_ok-q.ensures.0) c.joined-p.ensures,
)

pub or_level-returns : goal.or_level-returns
or_level-returns t c = (c.loop-c.invariant.1 _ (ors_first c.in_ok-p.ensures.0), c.loop-c.invariant.0, eqb-false _ _ (sym c.loop-c-test.ensures))
