-- What reading a sheet gives, in plain quantifiers: the sheet that was printed, or the first cause to turn it down. Assumes nothing.
use Rattle.std.specs.Prelude.{ℕ, suc, ◌-◌, ◌<◌, true, false, ◌≡◌, length, take}
use mathlib.Core.List.{List, IsPrefix}
use Rattle.scope.specs.Sheet.{fits, Line, line_bytes, Sheet, Layout, weighted, field_count, sheet_bytes, All, Valid, Sayable}
use Rattle.scope.specs.Causes.{Met, First, tests, started, make, Read, line_size, length_ok, line_count, bytes_at, is_last}
use Rattle.scope.specs.Causes as causes

-- ---- a line of n numbers

-- s is well-formed: the line l printed, with n numbers that are within their range
pub record Printed (n : ℕ) (s : List ℕ) (l : Line) : Type 0 where
  pub bytes : s ≡ line_bytes l
  pub count : length l.fields ≡ n
  pub fit : All (λ x. fits x ≡ true) l.fields

-- p is the beginning of a well-formed line
abbrev pub Begins : ℕ → List ℕ → Type 0
Begins n p = (s : List ℕ) × (l : Line) × IsPrefix p s × Printed n s l

-- s stops in column c: its first c bytes are no such beginning, and one byte less is
abbrev pub Stops : ℕ → List ℕ → ℕ → Type 0
Stops n s c = Begins n (take (c - 1) s) × ¬ Begins n (take c s)

-- ---- the sheet s, in the layout y

module _ (y : Layout) (s : List ℕ) where
  abbrev n : ℕ
  n = field_count y

  -- the first k lines are well-formed, meet their tests, and say t
  pub data Said : (k : ℕ) → (t : Sheet) → Type 0 where
    nothing : Said 0 (started 0 0)
    more : {k : ℕ} {t : Sheet} (l : Line) → Said k t → Printed n (bytes_at n s k) l → Met (tests y t k (is_last n s k) l.letter l.fields) → Said (suc k) (make y t l.letter l.fields)

  -- 1; then the lines from the first, each tested for 2, 3, 4, 5, 6, 14, 7; lines are numbered from 1, and 2 alone has a column
  pub data SheetRead : Read → Type 0 where
    wrong_length : length_ok n (length s) ≡ false → SheetRead (causes.refused 1 0 0)
    malformed : {k column : ℕ} {t : Sheet} → length_ok n (length s) ≡ true → k < line_count n s → Said k t → Stops n (bytes_at n s k) column → SheetRead (causes.refused 2 (suc k) column)
    at_fault : {k c : ℕ} {t : Sheet} (l : Line) → length_ok n (length s) ≡ true → k < line_count n s → Said k t → Printed n (bytes_at n s k) l → First c (tests y t k (is_last n s k) l.letter l.fields) → SheetRead (causes.refused c (suc k) 0)
    accepted : {t : Sheet} → s ≡ sheet_bytes y t → Valid t → Sayable y t.wishes → SheetRead (causes.accepted t)

-- the numbers by which a sheet is turned down; 1 has no line, 4 is of line 1, 2 alone has a column, and 14 is for weights that are written
pub data SheetRefusal : Layout → (number place column : ℕ) → Type 0 where
  wrong_length : {y : Layout} → SheetRefusal y 1 0 0
  malformed : {y : Layout} {k c : ℕ} → c < line_size (field_count y) → SheetRefusal y 2 (suc k) (suc c)
  wrong_letter : {y : Layout} {k : ℕ} → SheetRefusal y 3 (suc k) 0
  out_of_range : {y : Layout} → SheetRefusal y 4 1 0
  too_many : {y : Layout} {k : ℕ} → SheetRefusal y 5 (suc k) 0
  wrong_field : {y : Layout} {k : ℕ} → SheetRefusal y 6 (suc k) 0
  wrong_count : {y : Layout} {k : ℕ} → SheetRefusal y 7 (suc k) 0
  wrong_weight : {k : ℕ} → SheetRefusal weighted 14 (suc k) 0
