-- The bytes of a line are its letter and those of its fields, and each of the two parts is read: the line stops where the first part
-- that is not formed does.
use Rattle.std.proofs.Common.{arith}
use Rattle.std.proofs.lemmas.Result.{err_from_is_err_and}
use Rattle.line.proofs.Lines.{formed-line, no_letter, no_fields}
use Rattle.line.proofs.read.line_at.Goals as goal

pub returns-in_err-letter : goal.returns-in_err-letter
returns-in_err-letter g c =
    let p = err_from_is_err_and c.from_residual.result c.from_residual.ensures.1 in
    rw (p.1, p.2) (no_letter _ _ (omega arith) _ c.in_err-letter.ensures)

pub returns-in-Ok : goal.returns-in-Ok
returns-in-Ok g c = formed-line _ _ (omega arith) _ _ c.in_ok-letter.ensures c.in-Ok.ensures

pub returns-in-Err : goal.returns-in-Err
returns-in-Err g c = no_fields _ _ (omega arith) _ _ c.in_ok-letter.ensures c.in-Err.ensures
