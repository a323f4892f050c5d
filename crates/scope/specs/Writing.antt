-- Writing tables as a sheet: the lines that the sheet held in words would stand on are tested as the reader tests lines, then printed. Assumes nothing.
use Rattle.std.specs.Prelude.{ℕ, suc, false, cond, List, [], ◌∷◌, leb, length}
use Rattle.scope.specs.Sheet.{Sheet, Line, weighted, body, sheet_bytes, Valid}
use Rattle.scope.specs.Causes.{Test, tests, started, make, Read}
use Rattle.scope.specs.Causes as reading
use Rattle.scope.specs.Texts.{FirstLine}
use Rattle.scope.specs.Source.{Gives}
use Rattle.scope.specs.Jobs.{over}
use Rattle.scope.specs.Words.{held}

-- ---- what tables say: t is the sheet that they hold

-- the reader's tests of lines after k others that say t, none of them the last: Z would come after them
unfoldable pub tests_from : Sheet → ℕ → List Line → List (List Test)
tests_from t k [] = []
tests_from t k (l ∷ ls) = tests weighted t k false l.letter l.fields ∷ tests_from (make weighted t l.letter l.fields) (suc k) ls

module _ (t : Sheet) where
  -- 4: a or f outside its range; 5: gate 401, rule 65 or wish 65; 6: point or literal not allowed, or words that stand for no gate or clause;
  -- 14: weight of a wish outside 1 to 999
  abbrev pub table_tests : List (List Test)
  table_tests = tests_from (started 0 0) 0 (body weighted t)

  -- a valid sheet, or the first line at fault
  pub data TablesRead : Read → Type 0 where
    at_fault : {c k : ℕ} → FirstLine c k table_tests → TablesRead (reading.refused c k 0)
    accepted : Valid t → TablesRead (reading.accepted t)

-- the numbers by which tables are turned down; 4 is of line 1
pub data TablesRefusal : (number place column : ℕ) → Type 0 where
  out_of_range : TablesRefusal 4 1 0
  too_many : {k : ℕ} → TablesRefusal 5 (suc k) 0
  wrong_field : {k : ℕ} → TablesRefusal 6 (suc k) 0
  wrong_weight : {k : ℕ} → TablesRefusal 14 (suc k) 0

-- ---- what writing returns, and the lent buffer afterwards

pub record WriteResult : Type 0 where
  pub number : ℕ
  pub place : ℕ
  pub column : ℕ
  pub length : ℕ
  pub buffer : List ℕ

abbrev pub written : (number place column length : ℕ) → List ℕ → WriteResult
written c place column l out = record { number = c; place = place; column = column; length = l; buffer = out }

-- 13: the buffer is too short; a refusal changes no byte, and bytes after the sheet keep their content
abbrev pub written_of : Read → List ℕ → WriteResult
written_of (reading.accepted t) out = cond (leb (length (sheet_bytes weighted t)) (length out)) (written 0 0 0 (length (sheet_bytes weighted t)) (over (sheet_bytes weighted t) out)) (written 13 0 0 0 out)
written_of (reading.refused c place column) out = written c place column 0 out

-- w is what writing the sheet held in the words u into the buffer gives
abbrev pub IsWritten : (u : List ℕ) → (out : List ℕ) → WriteResult → Type 0
IsWritten u out w = Gives (TablesRead (held u)) (λ r. written_of r out) w
