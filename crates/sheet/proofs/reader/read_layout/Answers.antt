-- The test of the code is that of the length.
use Rattle.std.proofs.Common.{sym, ◌∙◌}
use Rattle.scope.specs.Sheets.{SheetRead}
use Rattle.line.specs.Lines.{layout_of}
use Rattle.words.specs.Laws.Sheets.{zero_words}
use Rattle.words.specs.Laws.Told.{fills_refused}
use Rattle.sheet.proofs.Lines.{wrong-length}
use Rattle.sheet.proofs.reader.read_layout.Goals as goal

pub returns-then-not-is_length : goal.returns-then-not-is_length
returns-then-not-is_length g c = rw c.at.ensures (fills_refused (SheetRead (layout_of g.row.N) c.args.s.now) _ _ (wrong-length _ _ c.requires (sym c.is_length.ensures ∙ c.if-not-is_length.true)))

pub read_lines-requires-clause-blank : goal.read_lines-requires-clause-blank
read_lines-requires-clause-blank g c = zero_words
