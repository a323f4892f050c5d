-- What is read, whatever form it is read from: what a promise says of it, and what the jobs need of it. Assumes nothing.
use Rattle.std.specs.Prelude.{ℕ, ◌≤◌, List, ◌≡◌}
use Rattle.scope.specs.Sheet.{Sheet, weighted, Valid}
use Rattle.scope.specs.Causes.{Read, accepted, refused}
use Rattle.scope.specs.Sheets.{SheetRead}
use Rattle.scope.specs.Texts.{TextRead}

-- the number, place and column of a refusal: not 0, which tells a plan, nor 8 to 11, which are the jobs' own; each fits a field
pub record Refusal (c k i : ℕ) : Type 0 where
  pub some : 1 ≤ c
  pub own : 8 ≤ c → 12 ≤ c
  pub number : c ≤ 99999
  pub place : k ≤ 99999
  pub column : i ≤ 99999

pub record Source (r : Read) : Type 0 where
  pub valid : (t : Sheet) → r ≡ accepted t → Valid t
  pub refusal : (c place column : ℕ) → r ≡ refused c place column → Refusal c place column

-- b is what f gives for what is read: R says what is read, and nothing else is (`sheet_read`, `text_read` and `tables_read` in Claims)
pub record Gives {B : Type 0} (R : Read → Type 0) (f : Read → B) (b : B) : Type 0 where
  pub read : Read
  pub is_read : R read
  pub given : b ≡ f read

-- ---- the two forms that all jobs take

pub data Form : Type 0 where
  sheet text : List ℕ → Form

abbrev pub ReadFrom : Form → Read → Type 0
ReadFrom (sheet s) = SheetRead weighted s
ReadFrom (text s) = TextRead s
