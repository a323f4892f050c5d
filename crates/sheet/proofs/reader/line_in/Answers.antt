-- A line that is malformed does not meet the first test, at its column; one that is formed is turned down by the first that it does not
-- meet, and has no column.
use Rattle.std.proofs.Common.{rules}
use Rattle.std.proofs.lemmas.Result.{err_from_is_err_and}
use Rattle.sheet.proofs.Tested.{formed, malformed, at_fault}
use Rattle.sheet.proofs.reader.line_in.Goals as goal

pub returns-in_err-line : goal.returns-in_err-line
returns-in_err-line g c =
    let p = err_from_is_err_and c.from_residual.result c.from_residual.ensures.1 in
    λ t h. rw (p.1, p.2) (malformed _ _ t _ _ _ _ c.line_at.result c.map_err.result c.line_at.ensures c.map_err.ensures.cases c.in_err-line.was (λ m q. search rules))

pub returns-in_err-map_err : goal.returns-in_err-map_err
returns-in_err-map_err g c =
    let p = err_from_is_err_and c.from_residual-in_err-map_err.result c.from_residual-in_err-map_err.ensures.1 in
    λ t h. rw (p.1, p.2) (at_fault _ _ t _ _ _ _ c.in_ok-line.line c.fault.result c.map_err-2.result (formed _ _ _ c.line_at.result c.map_err.result _ c.line_at.ensures c.map_err.ensures.cases c.in_ok-line.was) (c.fault.ensures t h) c.map_err-2.ensures.cases c.in_err-map_err.was (λ m q. search rules))
