-- The lines passed meet their tests, and the first that does not is told.
use Rattle.std.proofs.Common.{◌≡◌, ◌+◌, arith, rules}
use Rattle.std.specs.Prelude.{Ok}
use Rattle.std.proofs.lemmas.Result.{err_from_is_err_and}
use Rattle.words.specs.Laws.Results.{mapped_err}
use Rattle.writer.specs.Laws.Passed.{all_passed, fault_found, next_passed}
use Rattle.writer.proofs.write.first_cause.Goals as goal

pub returns-in_err-map_err : goal.returns-in_err-map_err
returns-in_err-map_err c =
    let p = err_from_is_err_and c.from_residual.result c.from_residual.ensures.1 in
    let (e, h, q) = mapped_err _ c.fault_at.result c.map_err.result c.map_err.ensures.cases c.in_err-map_err.was in
    let s : c.in_err-map_err.field-0.0 ≡ record { refusal = e; place = c.loop-k.k-counter + 1; column = 0 } = search rules in
    rw (p.1, p.2, s) (fault_found c.args.words.now _ c.loop-k.invariant.1 (omega arith) c.fault_at.result c.fault_at.ensures h)

pub loop-k-preserved : goal.loop-k-preserved
loop-k-preserved c =
    let e : c.fault_at.result ≡ Ok tt = search rules in
    (c.loop-k.invariant.0, next_passed c.args.words.now _ c.loop-k.invariant.1 (omega arith) c.fault_at.result c.fault_at.ensures e)

pub returns : goal.returns
returns c = all_passed c.args.words.now _ c.loop-k.invariant.1 (omega arith)
