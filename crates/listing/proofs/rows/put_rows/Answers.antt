-- Each turn puts the next row behind those that are there, with the figure that is given for it.
use Rattle.std.proofs.Common.{◌++◌, ◌+◌, [], ◌∷◌, arith}
use Rattle.listing.specs.Rows.{byte_of, figure_row}
use Rattle.listing.specs.Laws.Rows.{part_left, wrote_none, wrote_more, figures_snoc, given_none, given_more, length_each}
use Rattle.scope.specs.Program.{each}
use Rattle.listing.proofs.rows.put_rows.Goals as goal

pub loop-i-init : goal.loop-i-init
unfolding each
loop-i-init g c = ([], given_none _, wrote_none c.args.out.now)

pub put_row-end-requires-clause-room : goal.put_row-end-requires-clause-room
put_row-end-requires-clause-room g c =
    let (xs, given, wrote) = c.loop-i.invariant in
    let n = length_each (figure_row (byte_of c.args.letter)) 1 xs in
    omega (arith, part_left wrote (omega (arith, n, given.count, wrote.end_is)), n, given.count, wrote.end_is)

pub loop-i-preserved : goal.loop-i-preserved
loop-i-preserved g c =
    let (xs, given, wrote) = c.loop-i.invariant in
    let n = length_each (figure_row (byte_of c.args.letter)) 1 xs in
    let x = c.figure.result in
    let rows = figures_snoc (byte_of c.args.letter) xs x c.loop-i.i given.count in
    let put = wrote_more {qs = figure_row (byte_of c.args.letter) (c.loop-i.i + 1) x ∷ []} wrote (omega (arith, n, given.count, wrote.end_is)) c.put_row-end.ensures in
    (xs ++ x ∷ [], given_more _ c.loop-i.i xs x given c.figure.ensures, rw rows put)
