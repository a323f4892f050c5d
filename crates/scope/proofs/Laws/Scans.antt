-- The causes by what is computed of a sheet, line after line; SheetRead (Sheets) says the same in plain quantifiers. Assumes nothing.
use Rattle.std.specs.Prelude.{ℕ, zero, suc, ◌<◌, true, false, List, ◌≡◌, length}
use Rattle.scope.specs.Sheet.{Line, Sheet, Layout, field_count}
use Rattle.scope.specs.Causes.{Met, First, started, length_ok, line_count, bytes_at}
use Rattle.scope.specs.Sheets.{Printed, Stops}
use Rattle.scope.specs.Reading.{add, line_at, tests_at}

-- the column that is told with a line
pub data Column (n : ℕ) (s : List ℕ) : ℕ → Type 0 where
  stopped : {c : ℕ} → Stops n s c → Column n s c
  well_formed : (l : Line) → Printed n s l → Column n s 0

module _ (y : Layout) (s : List ℕ) where
  abbrev n : ℕ
  n = field_count y

  -- what the first k lines say
  unfoldable pub before : ℕ → Sheet
  before zero = started 0 0
  before (suc k) = add y (before k) (line_at y s k)

  abbrev pub Passed : ℕ → Type 0
  Passed k = Met (tests_at y s (before k) k)

  -- number, place and column of a refusal; lines are numbered from 1
  pub data Cause : ℕ → ℕ → ℕ → Type 0 where
    size : length_ok n (length s) ≡ false → Cause 1 0 0
    line : {c column : ℕ} (k : ℕ) → length_ok n (length s) ≡ true → k < line_count n s → ((j : ℕ) → j < k → Passed j) → First c (tests_at y s (before k) k) → Column n (bytes_at n s k) column → Cause c (suc k) column

  pub record NoCause : Type 0 where
    pub size : length_ok n (length s) ≡ true
    pub lines : (k : ℕ) → k < line_count n s → Passed k
