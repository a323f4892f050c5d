-- What reading a typed text gives, in plain quantifiers: the sheet that it stands for, or the first cause to turn it down. Assumes nothing.
use Rattle.std.specs.Prelude.{ℕ, suc, ◌≤◌, ◌<◌, length, take}
use mathlib.Core.List.{List, ◌∷◌, IsPrefix}
use Rattle.scope.specs.Sheet.{All}
use Rattle.scope.specs.Causes.{Test, Read, Met, First}
use Rattle.scope.specs.Causes as reading
use Rattle.scope.specs.Typed.{Typed, Legal, most_text, line_tests, sheet_of}

-- p is the beginning of a legal text, whatever that one's length
abbrev pub Starts : List ℕ → Type 0
Starts p = (s : List ℕ) × (v : Typed) × IsPrefix p s × Legal v s

-- the longest beginning of s that a legal text shares has n bytes
pub record Shared (s : List ℕ) (n : ℕ) : Type 0 where
  pub within : n ≤ length s
  pub starts : Starts (take n s)
  pub longest : (m : ℕ) → m ≤ length s → Starts (take m s) → m ≤ n

-- the first line at fault is line k, counted from 1, and c is the number of its first cause
pub data FirstLine (c : ℕ) : (k : ℕ) → List (List Test) → Type 0 where
  here : {rs : List Test} {rss : List (List Test)} → First c rs → FirstLine c 1 (rs ∷ rss)
  later : {k : ℕ} {rs : List Test} {rss : List (List Test)} → Met rs → FirstLine c k rss → FirstLine c (suc k) (rs ∷ rss)

-- 12: the text is too long or not legal; then 4, 5, 6 and 14
pub data TextRead (s : List ℕ) : Read → Type 0 where
  too_long : most_text < length s → TextRead s (reading.refused 12 0 0)
  not_legal : {n : ℕ} → length s ≤ most_text → ((v : Typed) → ¬ Legal v s) → Shared s n → TextRead s (reading.refused 12 (suc n) 0)
  at_fault : {v : Typed} {c k : ℕ} → length s ≤ most_text → Legal v s → FirstLine c k (line_tests v) → TextRead s (reading.refused c k 0)
  accepted : {v : Typed} → length s ≤ most_text → Legal v s → All Met (line_tests v) → TextRead s (reading.accepted (sheet_of v))

-- the numbers by which a text is turned down: 12; 4 on line 1 for switches and on line 2 for faults; 5, 6 and 14 on the lines after them
pub data TextRefusal : (number place column : ℕ) → Type 0 where
  overlong : TextRefusal 12 0 0
  illegal : {n : ℕ} → TextRefusal 12 (suc n) 0
  switches_out_of_range : TextRefusal 4 1 0
  faults_out_of_range : TextRefusal 4 2 0
  too_many : {k : ℕ} → TextRefusal 5 (suc (suc (suc k))) 0
  not_on_sheet : {k : ℕ} → TextRefusal 6 (suc (suc (suc k))) 0
  wrong_weight : {k : ℕ} → TextRefusal 14 (suc (suc (suc k))) 0
