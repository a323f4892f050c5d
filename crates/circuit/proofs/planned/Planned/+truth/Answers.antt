-- A point up to a is a digit of the plan, and one up to a + f a digit of the pattern. A later one is a gate, and names points before
-- its own: so the point's number falls, and the gate is what its kind makes of the truth of one point or of two.
use Rattle.std.proofs.Common.{ℕ, ◌≡◌, ◌≤◌, ◌<◌, ◌-◌, arith, sym, ap, ◌∙◌}
use Rattle.std.proofs.Math.Bool.{not}
use Rattle.scope.specs.Sheet.{Sheet, Among, points}
use Rattle.circuit.specs.Laws.Points.{is_gate, names_before, at_gate}
use Rattle.circuit.proofs.planned.Planned.+truth.Goals as goal

-- a point before p is below the measure, p, and a point of the sheet
before : (t : Sheet) (m p q : ℕ) → p ≡ m → p ≤ points t → Among (p - 1) q → (q < m) × Among (points t) q
before t m p q e l n = (omega arith, (omega arith, omega arith))

pub truth-requires : goal.truth-requires
truth-requires t c =
    let h = is_gate c.counts-counts.ensures.valid c.counts-counts.ensures.counts c.if-point-inputs.false c.requires.1 c.in-Not.ensures in
    before c.args.self.sheet.now t c.args.point c.in-Not.p c.decreases c.requires.1 (names_before h)

pub truth-requires-in-And : goal.truth-requires-in-And
truth-requires-in-And t c =
    let h = is_gate c.counts-counts.ensures.valid c.counts-counts.ensures.counts c.if-point-inputs.false c.requires.1 c.in-And.ensures in
    before c.args.self.sheet.now t c.args.point c.in-And.p c.decreases c.requires.1 (names_before h).0

pub truth-requires-then-truth : goal.truth-requires-then-truth
truth-requires-then-truth t c =
    let h = is_gate c.counts-counts.ensures.valid c.counts-counts.ensures.counts c.if-point-inputs.false c.requires.1 c.in-And.ensures in
    before c.args.self.sheet.now t c.args.point c.in-And.q c.decreases c.requires.1 (names_before h).1

pub truth-requires-in-Or : goal.truth-requires-in-Or
truth-requires-in-Or t c =
    let h = is_gate c.counts-counts.ensures.valid c.counts-counts.ensures.counts c.if-point-inputs.false c.requires.1 c.in-Or.ensures in
    before c.args.self.sheet.now t c.args.point c.in-Or.p c.decreases c.requires.1 (names_before h).0

pub truth-requires-else-truth-2 : goal.truth-requires-else-truth-2
truth-requires-else-truth-2 t c =
    let h = is_gate c.counts-counts.ensures.valid c.counts-counts.ensures.counts c.if-point-inputs.false c.requires.1 c.in-Or.ensures in
    before c.args.self.sheet.now t c.args.point c.in-Or.q c.decreases c.requires.1 (names_before h).1

pub returns-in-Not : goal.returns-in-Not
returns-in-Not t c =
    let h = is_gate c.counts-counts.ensures.valid c.counts-counts.ensures.counts c.if-point-inputs.false c.requires.1 c.in-Not.ensures in
    ap not c.truth.ensures ∙ at_gate h c.args.self.plan.0 c.args.pattern.0

pub returns-then-truth : goal.returns-then-truth
returns-then-truth t c =
    let h = is_gate c.counts-counts.ensures.valid c.counts-counts.ensures.counts c.if-point-inputs.false c.requires.1 c.in-And.ensures in
    c.truth-then-truth.ensures ∙ rw (sym c.truth-in-And.ensures ∙ c.if-truth.true) at (at_gate h c.args.self.plan.0 c.args.pattern.0)

pub returns-else-truth : goal.returns-else-truth
returns-else-truth t c =
    let h = is_gate c.counts-counts.ensures.valid c.counts-counts.ensures.counts c.if-point-inputs.false c.requires.1 c.in-And.ensures in
    c.if-truth.false ∙ rw (sym c.truth-in-And.ensures ∙ c.if-truth.false) at (at_gate h c.args.self.plan.0 c.args.pattern.0)

pub returns-then-truth-2 : goal.returns-then-truth-2
returns-then-truth-2 t c =
    let h = is_gate c.counts-counts.ensures.valid c.counts-counts.ensures.counts c.if-point-inputs.false c.requires.1 c.in-Or.ensures in
    c.if-truth-2.true ∙ rw (sym c.truth-in-Or.ensures ∙ c.if-truth-2.true) at (at_gate h c.args.self.plan.0 c.args.pattern.0)

pub returns-else-truth-2 : goal.returns-else-truth-2
returns-else-truth-2 t c =
    let h = is_gate c.counts-counts.ensures.valid c.counts-counts.ensures.counts c.if-point-inputs.false c.requires.1 c.in-Or.ensures in
    c.truth-else-truth-2.ensures ∙ rw (sym c.truth-in-Or.ensures ∙ c.if-truth-2.false) at (at_gate h c.args.self.plan.0 c.args.pattern.0)
