-- The first k lines stand at the beginning of the buffer.
use Rattle.std.proofs.Common.{◌≡◌, ◌+◌, ◌*◌, take}
use Rattle.scope.specs.Sheet.{text, sheet_lines}
use Rattle.scope.specs.Words.{held}
use Rattle.line.specs.Lines.{layout_of}
use Rattle.writer.specs.Entries.{before_end}
use Rattle.writer.proofs.write.put_lines.Given as goal

abbrev pub invariant-loop-k : goal.invariant-loop-k
invariant-loop-k g l = (l.k-end ≡ before_end l.lines.words.now + 1) × (take (l.k * l.size) l.out ≡ text (take l.k (sheet_lines (layout_of g.row.N) (held l.lines.words.now))))
