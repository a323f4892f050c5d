-- A line that is turned down is the first cause, and one that is not is put into the words.
use Rattle.std.proofs.Common.{rules, ap, ◌∙◌, ◌/◌, length}
use Rattle.std.proofs.lemmas.Result.{err_from_is_err_and}
use Rattle.scope.specs.Sheets.{SheetRead}
use Rattle.scope.specs.Words.{held}
use Rattle.line.specs.Lines.{layout_of}
use Rattle.words.specs.Laws.Told.{fills_accepted, fills_refused}
use Rattle.sheet.proofs.Lines.{begun, few, turned_down, suited, reading, held_valid, held_words, taken_in}
use Rattle.sheet.proofs.reader.read_lines.Goals as goal

pub loop-k-init : goal.loop-k-init
loop-k-init g c =
    let e = c.enumerate-k-items.ensures in
    rw (c.into_iter-k-iterator.ensures.into_iter_gives, e.count, e.source, c.chunks_exact.ensures.rest) (begun _ _ _ _ c.requires.fields c.requires.right (c.chunks_exact.ensures.size ∙ c.line_size-size.ensures) c.requires.blank)

pub invariant_of-place : goal.invariant_of-place
invariant_of-place g c = record { few = few _ _ _ _ _ _ c.loop-k.invariant _ c.counts_of.ensures; fields = c.requires.fields.0 }

pub returns-in_err-line : goal.returns-in_err-line
returns-in_err-line g c =
    let p = err_from_is_err_and c.from_residual.result c.from_residual.ensures.1 in
    let a = c.in-Some.ensures.steps in
    let r = rw (← a.1) at c.loop-k.invariant in
    rw (p.1, p.2) (fills_refused (SheetRead (layout_of g.row.N) c.args.s.now) _ _ (turned_down _ _ _ _ _ _ r _ c.counts_of.ensures _ _ a.0.1.0 a.0.1.1 _ (ap (λ z. length c.args.s.now / z) c.line_size-size.ensures) _ c.in_err-line.ensures))

pub take_line-requires : goal.take_line-requires
take_line-requires g c =
    let a = c.in-Some.ensures.steps in
    let r = rw (← a.1) at c.loop-k.invariant in
    (search rules, (c.requires.fields.0, suited _ _ _ _ _ _ r _ c.counts_of.ensures _ _ a.0.1.0 a.0.1.1 _ (ap (λ z. length c.args.s.now / z) c.line_size-size.ensures) _ c.in_ok-line.ensures))

pub loop-k-preserved : goal.loop-k-preserved
loop-k-preserved g c =
    let a = c.in-Some.ensures.steps in
    let r = rw (← a.1) at c.loop-k.invariant in
    rw (a.0.0, a.2, ← a.1) (reading _ _ _ _ _ _ r _ c.counts_of.ensures _ _ a.0.1.0 a.0.1.1 _ (ap (λ z. length c.args.s.now / z) c.line_size-size.ensures) _ c.in_ok-line.ensures _ c.take_line.ensures)

pub returns : goal.returns
returns g c =
    let short = c.in-None.ensures.steps.0.1.0 in
    let r = c.loop-k.invariant in
    fills_accepted (SheetRead (layout_of g.row.N) c.args.s.now) (held c.loop-k.words) c.loop-k.words (taken_in _ _ _ _ _ _ r short) (held_valid _ _ _ _ _ _ r short) (held_words _ _ _ _ _ _ r short)
