-- The rows of the first i figures are put, and each figure is one that was given.
use Rattle.std.proofs.Common.{List, ℕ}
use Rattle.listing.specs.Rows.{byte_of, figure_rows, Given, Wrote}
use Rattle.listing.proofs.rows.put_rows.Given as goal

abbrev pub invariant-loop-i : goal.invariant-loop-i
invariant-loop-i g l = (xs : List ℕ) × Given (goal.F-post g l.figure) l.i xs × Wrote l.fn.out (figure_rows (byte_of l.letter) xs) l.out l.end
