-- The rows of the wishes are put behind those of the switches.
use Rattle.std.proofs.Common.{arith}
use Rattle.listing.specs.Laws.Rows.{part_left, wrote_none, wrote_more}
use Rattle.listing.specs.Laws.Listing.{switch_count, plan_few}
use Rattle.listing.proofs.whole.put_plan.Goals as goal

pub returns-in_default-clause-rows : goal.returns-in_default-clause-rows
returns-in_default-clause-rows c = rw c.in_default.is (wrote_none c.args.out.now)

pub put_wishes-requires : goal.put_wishes-requires
put_wishes-requires c =
    let f = c.in-Some.found in
    let o = c.put_switches-middle in
    let room = rw c.in-Some.is at c.requires in
    let n = switch_count f.sheet.now f.plan.0 in
    omega (arith, room, part_left o.ensures.rows (omega (arith, room, o.ensures.rows.end_is, n)), o.ensures.rows.end_is, n)

pub returns-clause-rows : goal.returns-clause-rows
returns-clause-rows c =
    let f = c.in-Some.found in
    let o = c.put_switches-middle in
    let room = rw c.in-Some.is at c.requires in
    rw c.in-Some.is (wrote_more o.ensures.rows (omega (arith, room, o.ensures.rows.end_is, switch_count f.sheet.now f.plan.0)) c.put_wishes.ensures)

pub returns-clause-few : goal.returns-clause-few
returns-clause-few c = plan_few c.args.found (rw c.in-Some.is c.put_switches-middle.ensures.valid)
