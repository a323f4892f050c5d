-- The invariant: the first i numbers stand in their columns, and each turn puts the next one behind them.
use Rattle.std.proofs.Common.{◌≡◌, take}
use Rattle.line.specs.Lines.{numbers_from, fields_front}
use Rattle.line.proofs.Buffers.{put}
use Rattle.line.proofs.put.put_fields.Given as goal

abbrev pub invariant-loop-i : goal.invariant-loop-i
invariant-loop-i l = l.out ≡ put l.fn.out 0 (fields_front (take l.i (numbers_from l.numbers)))
