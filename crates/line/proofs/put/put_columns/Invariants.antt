-- The first i columns stand in a place of the same length.
use Rattle.std.proofs.Common.{ℕ, ◌<◌, ◌≡◌, length, get_or}
use Rattle.line.proofs.put.put_columns.Given as goal

abbrev pub invariant-loop-i : goal.invariant-loop-i
invariant-loop-i l = (length l.out ≡ length l.fn.out) × ((j : ℕ) → j < l.i → get_or l.out j 0 ≡ get_or l.fn.columns j 0)
