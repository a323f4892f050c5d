-- What the steps over the lines need: in no promise of an exported call. Assumes nothing.
use Rattle.std.specs.Prelude.{ℕ, suc, ◌≤◌, Bool, true, List, [], ◌≡◌, take, Result, Ok, Err}
use Rattle.std.proofs.Math.Option.{some, get_or}
use Rattle.scope.specs.Sheet.{Number, Sheet, Layout, Letter, H, N, A, O, R, W, Z, Line, most_switches, most_literals}
use Rattle.scope.specs.Causes.{literals, tests, make, Met, First}
use Rattle.scope.specs.Reading.{line_of, column_of, tests_of}
use Rattle.words.specs.Entries.{Kept}
use Rattle.words.specs.Refusals.{number_of}
use Rattle.words.specs.declared.refusal.Cause.{Cause}
use Rattle.line.specs.Lines.{layout_of, line_from}
use Rattle.line.specs.declared.line.Line as made

-- literals of so many switches, few enough that a code fits a word, and then zeros
pub record AreLiterals (xs : List Number) : Type 0 where
  pub switches : ℕ
  pub few : switches ≤ most_switches
  pub right : literals switches xs ≡ true

-- what a line that met its tests finds: no entries before a head, and literals in a wish
abbrev pub SuitsAs : Sheet → Letter → List Number → Type 0
SuitsAs t H xs = (t.gates ≡ []) × (t.rules ≡ []) × (t.wishes ≡ [])
SuitsAs t N xs = Unit {0}
SuitsAs t A xs = Unit {0}
SuitsAs t O xs = Unit {0}
SuitsAs t R xs = Unit {0}
SuitsAs t W xs = AreLiterals (take most_literals xs)
SuitsAs t Z xs = Unit {0}

abbrev pub Suits : Sheet → Line → Type 0
Suits t l = SuitsAs t l.letter l.fields

abbrev pub Suited : Line → Type 0
Suited l = (t : Sheet) × Suits t l

-- the words of a sheet become those of the sheet with one more line
abbrev pub Takes : Layout → Line → (before after : List ℕ) → Type 0
Takes y l s u = (t : Sheet) → Suits t l → Kept t s → Kept (make y t l.letter l.fields) u

-- r is what the line s of n fields tells at a place after k lines that say t: the line, which meets its tests, or the first that it does not
abbrev pub LineTold : (n : ℕ) (s : List ℕ) (t : Sheet) (k : ℕ) (last : Bool) → Result (made.Line n) Cause → Type 0
LineTold n s t k last (Ok l) = (line_of n s ≡ some (line_from l)) × Met (tests (layout_of n) t k last (line_from l).letter (line_from l).fields)
LineTold n s t k last (Err c) = First (number_of c.refusal) (tests_of (layout_of n) t k last (line_of n s)) × (c.place ≡ suc k) × (c.column ≡ get_or (column_of n s) 0)
