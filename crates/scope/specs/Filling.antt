-- Reading into words that a caller lends: they are filled, or left as they were. Assumes nothing.
use Rattle.std.specs.Prelude.{ℕ, List}
use Rattle.scope.specs.Causes.{Read, accepted, refused}
use Rattle.scope.specs.Source.{Gives}
use Rattle.scope.specs.Words.{words_of}

-- what is returned, and the lent words afterwards
pub record ReadResult : Type 0 where
  pub number : ℕ
  pub place : ℕ
  pub column : ℕ
  pub tables : List ℕ

abbrev pub read_result : (number place column : ℕ) → List ℕ → ReadResult
read_result c place column u = record { number = c; place = place; column = column; tables = u }

-- a refusal changes no word
abbrev pub read_into : Read → (lent : List ℕ) → ReadResult
read_into (accepted t) lent = read_result 0 0 0 (words_of t)
read_into (refused c place column) lent = read_result c place column lent

-- b is what is returned and left in the words; R says what is read
abbrev pub IsRead : (R : Read → Type 0) → (lent : List ℕ) → ReadResult → Type 0
IsRead R lent b = Gives R (λ r. read_into r lent) b
