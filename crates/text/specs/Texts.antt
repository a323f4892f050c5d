-- What a whole text says: in no promise of an exported call. Assumes nothing.
use Rattle.std.specs.Prelude.{ℕ, Result, List}
use Rattle.scope.specs.Typed.{Typed, Legal, line_tests, sheet_of}
use Rattle.words.specs.Entries.{Kept}
use Rattle.scanner.specs.declared.token.Stuck.{Stuck}
use Rattle.text.specs.Lines.{Faulted, LinesRead}
use Rattle.text.specs.declared.lines.Lines.{Lines}

-- all lines are read
pub record TextTold (s : List ℕ) (l : Lines) (u : List ℕ) : Type 0 where
  pub value : Typed
  pub legal : Legal value s
  pub kept : Kept (sheet_of value) u
  pub fault : Faulted (line_tests value) l.fault

abbrev pub LinesTold : List ℕ → Result Lines Stuck → (u : List ℕ) → Type 0
LinesTold s r u = LinesRead (λ l. TextTold s l u) s r
