-- The invariant: the i numbers held and the fields left, read from their bytes, are together the fields of the whole. A field that
-- stops makes the whole stop, i fields further on; at the end only the line feed is left.
use Rattle.line.proofs.Fields.{Reached}
use Rattle.line.proofs.read.fields_at.Given as goal

abbrev pub invariant-loop-i : goal.invariant-loop-i
invariant-loop-i g l = Reached g.row.N l.bytes l.i l.number-items
