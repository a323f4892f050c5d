-- Each part is put where the one before it ended, and each row has the same size, so that Z stands after end / row_size rows.
use Rattle.std.proofs.Common.{arith}
use Rattle.listing.specs.Laws.Rows.{number_small}
use Rattle.listing.specs.Laws.Listing.{patterns_room, end_room, lines_before, listing_wrote}
use Rattle.listing.proofs.whole.put_listing.Goals as goal

pub put_patterns-requires-clause-room : goal.put_patterns-requires-clause-room
put_patterns-requires-clause-room c = let a = c.args in patterns_room a.out.now a.head a.found a.list.now c.requires.room c.put_row-first.ensures c.put_plan.ensures.rows

pub overflow_cast-lines : goal.overflow_cast-lines
overflow_cast-lines c =
    let a = c.args in
    omega (arith, lines_before a.out.now a.head a.found a.list.now c.requires.room c.put_row-first.ensures c.put_plan.ensures.rows c.put_patterns.ensures, c.put_plan.ensures.few, c.requires.few)

pub put_row-requires-clause-room : goal.put_row-requires-clause-room
put_row-requires-clause-room c = let a = c.args in end_room a.out.now a.head a.found a.list.now c.requires.room c.put_row-first.ensures c.put_plan.ensures.rows c.put_patterns.ensures

pub put_row-requires-clause-small : goal.put_row-requires-clause-small
put_row-requires-clause-small c =
    let a = c.args in
    number_small _
    (omega (arith, lines_before a.out.now a.head a.found a.list.now c.requires.room c.put_row-first.ensures c.put_plan.ensures.rows c.put_patterns.ensures, c.put_plan.ensures.few, c.requires.few))

pub returns : goal.returns
returns c = let a = c.args in listing_wrote a.out.now a.head a.found a.list.now c.requires.room c.put_row-first.ensures c.put_plan.ensures.rows c.put_patterns.ensures c.put_row.ensures
