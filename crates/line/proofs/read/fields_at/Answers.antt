-- A field that is formed goes to those held, and one that is not stops the whole; at the end only the line feed is left.
use Rattle.std.proofs.Common.{arith, refl}
use Rattle.line.proofs.Fields.{field-taken, field-lost, line-fed, not-fed}
use Rattle.line.proofs.read.fields_at.Goals as goal

pub loop-i-preserved : goal.loop-i-preserved
loop-i-preserved g c = field-taken _ _ c.requires _ _ c.loop-i.invariant c.loop-i-test.true _ refl _ c.in-Ok.ensures

pub returns-in-Err : goal.returns-in-Err
returns-in-Err g c = field-lost _ _ c.requires _ _ c.loop-i.invariant c.loop-i-test.true _ refl _ c.in-Err.ensures

pub returns-then-bytes-end-ne-FEED : goal.returns-then-bytes-end-ne-FEED
returns-then-bytes-end-ne-FEED g c = not-fed _ _ c.requires _ _ c.loop-i.invariant (omega arith) c.if-bytes-end-ne-FEED.true

pub returns : goal.returns
returns g c = line-fed _ _ c.requires _ _ c.loop-i.invariant (omega arith) c.if-bytes-end-ne-FEED.false
