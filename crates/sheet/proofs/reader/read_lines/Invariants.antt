-- The invariant: the first k lines pass, the words are those of what they say, and the lines from line k on are left. A line that is
-- turned down is the first cause, and the sheet is refused for it; one that is not is put into the words. At the end all lines pass, so
-- the sheet is accepted as what they say, which the words hold.
use Rattle.std.specs.Iterator.Adapters.{enumerate_source, enumerate_count}
use Rattle.std.specs.Slice.Iter.{chunks_exact_rest, chunks_exact_size}
use Rattle.sheet.proofs.Lines.{Reading}
use Rattle.sheet.proofs.reader.read_lines.Given as goal

abbrev pub invariant-loop-k : goal.invariant-loop-k
invariant-loop-k g l = Reading g.row.N l.s (chunks_exact_size (enumerate_source l.k-iterator)) (chunks_exact_rest (enumerate_source l.k-iterator)) (enumerate_count l.k-iterator) l.words
