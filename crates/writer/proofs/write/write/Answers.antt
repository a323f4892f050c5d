-- A cause is told; with none the sheet is valid, as long as its lines, and 13 is told by that length, or its lines are put.
use Rattle.std.proofs.Common.{arith, sym, ◌∙◌, length-take-le}
use Rattle.std.proofs.lemmas.Result.{err_from_is_err_and}
use Rattle.writer.specs.Laws.Printed.{all_needed, whole, too_short, fault_told}
use Rattle.writer.proofs.write.write.Goals as goal

pub returns-in_err-first_cause : goal.returns-in_err-first_cause
returns-in_err-first_cause c =
    let p = err_from_is_err_and c.from_residual.result c.from_residual.ensures.1 in
    rw (p.1, p.2) (fault_told c.args.words.now c.in_err-first_cause.field-0.0 c.in_err-first_cause.ensures c.args.out.now)

pub returns-then-out-need : goal.returns-then-out-need
returns-then-out-need c = rw c.at.ensures (too_short c.args.words.now c.in_ok-first_cause.ensures c.args.out.now (rw (← c.line_count.ensures) (omega arith)))

pub put_lines-requires : goal.put_lines-requires
put_lines-requires c =
    let v = c.in_ok-first_cause.ensures in
    (omega arith, (v, length-take-le _ c.args.out.now (omega arith) ∙ rw c.line_count.ensures (sym (all_needed c.args.words.now v))))

pub returns : goal.returns
returns c = rw c.line_count.ensures (whole c.args.words.now c.in_ok-first_cause.ensures c.put_lines.new.out c.args.out.now (rw (← c.line_count.ensures) (omega arith)) c.put_lines.ensures)
