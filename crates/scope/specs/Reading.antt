-- Reads a sheet by computing: `sheet_read` (Claims) says that it gives what SheetRead says. Assumes nothing.
use Rattle.std.specs.Prelude.{ℕ, zero, suc, ◌+◌, ◌-◌, ◌*◌, Bool, true, false, cond, not, ◌&&◌, ◌||◌, List, [], ◌∷◌, ◌++◌, eqb, length, take, drop, replicate, ◌≡◌}
use Prim.Native.Char.{code}
use Rattle.std.proofs.Math.Option.{Option, none, some, get_or}
use Rattle.scope.specs.Sheet.{Number, number, plus, Sheet, field_size, field, fits, Letter, H, N, A, O, R, W, Z, letter_byte, Line, line, fields_bytes, line_bytes, Layout, field_count, All}
use Rattle.scope.specs.Causes.{Test, tests, started, make, Read, accepted, refused, length_ok, line_count, bytes_at, is_last}
use Rattle.scope.specs.Pick.{smallest}

-- ---- a line read: guess a number from the bytes, and compare what it prints; `line_read` (Claims) says all of it

abbrev pub same : List ℕ → List ℕ → Bool
same [] [] = true
same [] (b ∷ s) = false
same (a ∷ r) [] = false
same (a ∷ r) (b ∷ s) = eqb a b && same r s

-- a space and a minus lie below the digits, so `-` makes 0 of them
abbrev pub size_from : ℕ → List ℕ → ℕ
size_from n [] = n
size_from n (b ∷ s) = size_from (n * 10 + (b - code "0")) s

abbrev pub has_minus : List ℕ → Bool
has_minus [] = false
has_minus (b ∷ s) = eqb b (code "-") || has_minus s

abbrev pub guess : List ℕ → Number
guess s = number (has_minus s) (size_from 0 s)

abbrev pub when : {A : Type 0} → Bool → A → Option A
when ok a = cond ok (some a) none

abbrev pub compared : List ℕ → Number → Option Number
compared s x = when (same s (field x) && fits x) x

unfoldable pub field_of : List ℕ → Option Number
field_of s = compared s (guess s)

abbrev pub also : Option Number → Option (List Number) → Option (List Number)
also none o = none
also (some x) none = none
also (some x) (some xs) = some (x ∷ xs)

-- n fields and a line feed
unfoldable pub fields_of : ℕ → List ℕ → Option (List Number)
fields_of zero s = when (same s (code "\n" ∷ [])) []
fields_of (suc n) s = also (field_of (take field_size s)) (fields_of n (drop field_size s))

abbrev pub letter_from : List Letter → ℕ → Option Letter
letter_from [] b = none
letter_from (c ∷ cs) b = cond (eqb b (letter_byte c)) (some c) (letter_from cs b)

unfoldable pub letter_of : ℕ → Option Letter
letter_of = letter_from (H ∷ N ∷ A ∷ O ∷ R ∷ W ∷ Z ∷ [])

abbrev pub joined : Option Letter → Option (List Number) → Option Line
joined none o = none
joined (some c) none = none
joined (some c) (some xs) = some (line c xs)

unfoldable pub line_of : ℕ → List ℕ → Option Line
line_of n [] = none
line_of n (b ∷ s) = joined (letter_of b) (fields_of n s)

-- numbers that can be printed
abbrev pub Fit : List Number → Type 0
Fit xs = All (λ x. fits x ≡ true) xs

-- ---- the column of a malformed line; `column_told` (Claims) says all of it

-- five digits: what begins a number goes on to one with as many of them as it wants
abbrev pub full : Number
full = plus 11111

-- so a beginning of a well-formed line, put over the beginning of this one, leaves a well-formed line
abbrev pub model : ℕ → List ℕ
model n = line_bytes (line H (replicate n full))

abbrev pub formed : {A : Type 0} → Option A → Bool
formed none = false
formed (some a) = true

abbrev pub begins : ℕ → List ℕ → Bool
begins n p = formed (line_of n (p ++ drop (length p) (model n)))

-- the same of a field, and of n fields with their line feed
abbrev pub field_begins : List ℕ → Bool
field_begins p = formed (field_of (p ++ drop (length p) (field full)))

abbrev pub fields_begin : ℕ → List ℕ → Bool
fields_begin n p = formed (fields_of n (p ++ drop (length p) (fields_bytes (replicate n full))))

-- a test of beginnings that s passes up to column c
abbrev pub Stop : (List ℕ → Bool) → List ℕ → ℕ → Type 0
Stop begun s c = (begun (take (c - 1) s) ≡ true) × (begun (take c s) ≡ false)

-- the smallest c such that the first c bytes begin no well-formed line
unfoldable pub column_of : ℕ → List ℕ → Option ℕ
column_of n s = smallest (λ c. not (begins n (take c s))) (suc (length s))

-- ---- the tests of a line, and what it adds

-- 2: line malformed or letter unknown
abbrev pub tests_of : Layout → Sheet → ℕ → Bool → Option Line → List Test
tests_of y t k last none = (2, false) ∷ []
tests_of y t k last (some l) = tests y t k last l.letter l.fields

abbrev pub first_fault : List Test → Option ℕ
first_fault [] = none
first_fault (x ∷ xs) = cond x.1 (first_fault xs) (some x.0)

abbrev pub add : Layout → Sheet → Option Line → Sheet
add y t none = t
add y t (some l) = make y t l.letter l.fields

-- ---- the whole: 1, then the lines from the first

abbrev pub unless_fault : Option ℕ → (place column : ℕ) → Read → Read
unless_fault none place column more = more
unless_fault (some c) place column more = refused c place column

module _ (y : Layout) where
  abbrev n : ℕ
  n = field_count y

  unfoldable pub line_at : List ℕ → ℕ → Option Line
  line_at s k = line_of n (bytes_at n s k)

  -- 0 if it is well-formed
  unfoldable pub column_at : List ℕ → ℕ → ℕ
  column_at s k = get_or (column_of n (bytes_at n s k)) 0

  unfoldable pub tests_at : List ℕ → Sheet → ℕ → List Test
  tests_at s t k = tests_of y t k (is_last n s k) (line_at s k)

  -- m lines from line k on, after lines that say t
  unfoldable pub read_from : List ℕ → ℕ → ℕ → Sheet → Read
  read_from s zero k t = accepted t
  read_from s (suc m) k t = unless_fault (first_fault (tests_at s t k)) (suc k) (column_at s k) (read_from s m (suc k) (add y t (line_at s k)))

  unfoldable pub read : List ℕ → Read
  read s = cond (length_ok n (length s)) (read_from s (line_count n s) 0 (started 0 0)) (refused 1 0 0)
