-- The rule goes on from the patterns listed with the room that is left, the words after them are as they were lent, and the last
-- candidate and every better plan fail the list. A round that lists nothing ends the rule; one that lists a pattern is one step of it
-- where there is room, and where there is none the rule ends too.
use Rattle.std.proofs.Common.{◌<◌, length, take, arith}
use Rattle.scope.specs.Jobs.{task}
use Rattle.search.specs.Laws.Runs.{kept_more, listed_more, on_more, on_done, on_full}
use Rattle.search.proofs.run.run_rounds.Goals as goal

pub returns-in_default : goal.returns-in_default
returns-in_default c =
    let l = c.loop-pattern.list in
    let n = c.loop-pattern.length in
    let b = c.best_plan-candidate in
    let (s, p, q) = c.in_default.ensures.stepped (take n l) b.ensures.0 b.ensures.1 in
    on_done (task c.args.sheet.now) c.args.list.now l n c.loop-pattern.invariant.0 c.loop-pattern.invariant.1 b.result s p q

pub returns-then-length-list : goal.returns-then-length-list
returns-then-length-list c =
    let l = c.loop-pattern.list in
    let n = c.loop-pattern.length in
    let b = c.best_plan-candidate in
    let (s, f) = c.in-Some.ensures.stepped (take n l) b.ensures.0 b.ensures.1 in
    on_full (task c.args.sheet.now) c.args.list.now l n c.loop-pattern.invariant.0 c.loop-pattern.invariant.1 _ c.in-Some.pattern.0 s (omega arith)

pub loop-pattern-preserved : goal.loop-pattern-preserved
loop-pattern-preserved c =
    let t = task c.args.sheet.now in
    let l = c.loop-pattern.list in
    let n = c.loop-pattern.length in
    let q = c.in-Some.pattern.0 in
    let b = c.best_plan-candidate in
    let (s, f) = c.in-Some.ensures.stepped (take n l) b.ensures.0 b.ensures.1 in
    let h : n < length l = omega (arith, c.loop-pattern.invariant.0.fits) in (
      kept_more c.args.list.now l n q h c.loop-pattern.invariant.0,
      on_more t c.args.list.now l n c.loop-pattern.invariant.0 c.loop-pattern.invariant.1 q s h,
      rw (listed_more l n q h) f,
    )
