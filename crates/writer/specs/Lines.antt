-- The lines of a held sheet, one by one: in no promise of an exported call. Assumes nothing.
use Rattle.std.specs.Prelude.{ℕ, List, [], get_or}
use Rattle.scope.specs.Sheet.{Line, H, line, Layout, head_line, gate_line, rule_line, wish_line, end_line, sheet_lines}
use Rattle.scope.specs.Words.{word, rule_at, held}
use Rattle.words.specs.Entries.{gate_of_words, wish_of_words, gate_words_at, wish_words_at}
use Rattle.writer.specs.Entries.{before_end}
use Rattle.writer.specs.declared.entries.Entry.{Entry}
use Rattle.writer.specs.declared.entries.Entry.TheVariants.{Head, Rule, Wish, End}

-- the line of an entry
abbrev pub line_of : Layout → (u : List ℕ) → Entry → Line
line_of y u Head = head_line y (word u 0) (word u 1)
line_of y u (Entry.Gate i) = gate_line y (gate_of_words (gate_words_at u i))
line_of y u (Rule i) = rule_line y (rule_at u i)
line_of y u (Wish i) = wish_line y (wish_of_words (wish_words_at u i))
line_of y u End = end_line y (before_end u)

-- line k of the sheet that the words u hold, counted from 0
abbrev pub line_at : Layout → (u : List ℕ) → ℕ → Line
line_at y u k = get_or (sheet_lines y (held u)) k (line H [])
