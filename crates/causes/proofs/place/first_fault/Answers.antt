-- The tests before are met: the first that is not tells the refusal, and one that is met leaves it to those after it.
use Rattle.std.specs.Prelude.{Err}
use Rattle.std.proofs.lemmas.Result.{err_from_is_err_and}
use Rattle.causes.proofs.Tests.{not_met, is_met}
use Rattle.causes.proofs.place.first_fault.Goals as goal

pub returns-in_err-require : goal.returns-in_err-require
returns-in_err-require c =
    let p = err_from_is_err_and c.from_residual.result c.from_residual.ensures.1 in
    rw (p.1, p.2) (c.loop-met.invariant (Err _) (not_met _ _ _ c.loop-met-test.true _ c.require.ensures _ c.in_err-require.was))

pub loop-met-preserved : goal.loop-met-preserved
loop-met-preserved c = λ r m. c.loop-met.invariant r (is_met _ _ _ c.loop-met-test.true _ c.require.ensures _ c.in_ok-require.was r m)
