-- Rows put into a buffer, one after another. Assumes nothing.
use Prim.Native.Char.{code}
use Rattle.std.specs.Prelude.{ℕ, ◌*◌, ◌<◌, List, [], ◌∷◌, ◌≡◌, length, get_or, take, map}
use Rattle.scope.specs.Sheet.{plus, fields_bytes}
use Rattle.scope.specs.Causes.{line_size}
use Rattle.scope.specs.Jobs.{over}
use Rattle.scope.specs.Program.{output_fields, Row, rows_bytes, each}
use Rattle.listing.specs.declared.row.Letter.{Letter}
use Rattle.listing.specs.declared.row.Letter.TheVariants.{Answer, Switch, Wish, Pattern, End}

abbrev pub row_size : ℕ
row_size = line_size output_fields

abbrev pub row_bytes : Row → List ℕ
row_bytes r = r.letter ∷ fields_bytes r.fields

-- the numbers that fit a field are below this
abbrev pub field_end : ℕ
field_end = 100000

abbrev pub Small : List ℕ → Type 0
Small l = (i : ℕ) → i < length l → get_or l i 0 < field_end

-- the rows rs put at the beginning, and where they end
pub record Wrote (out : List ℕ) (rs : List Row) (now : List ℕ) (end : ℕ) : Type 0 where
  pub bytes : now ≡ over (rows_bytes rs) out
  pub size : length (rows_bytes rs) ≡ row_size * length rs
  pub end_is : end ≡ row_size * length rs

-- a row for each of the first k elements of a list, numbered from 1
abbrev pub Put : {A : Type 0} → (ℕ → A → Row) → (out : List ℕ) (l : List A) (k : ℕ) (now : List ℕ) → Type 0
Put f out l k now = Wrote out (each f 1 (take k l)) now (row_size * k)

-- ---- rows of a kind

abbrev pub byte_of : Letter → ℕ
byte_of Answer = code "A"
byte_of Switch = code "S"
byte_of Wish = code "W"
byte_of Pattern = code "F"
byte_of End = code "Z"

-- a row of numbers that are not below 0
abbrev pub row_of : (letter : ℕ) → List ℕ → Row
row_of letter xs = record { letter = letter; fields = map plus xs }

-- figure x in place i
abbrev pub figure_row : (letter i x : ℕ) → Row
figure_row letter i x = row_of letter (i ∷ x ∷ 0 ∷ [])

-- a row for each, numbered from 1
abbrev pub figure_rows : (letter : ℕ) → List ℕ → List Row
figure_rows letter = each (figure_row letter) 1

-- n figures, each of which R may give for its place
pub record Given (R : ℕ → ℕ → Type 0) (n : ℕ) (xs : List ℕ) : Type 0 where
  pub count : length xs ≡ n
  pub each_one : (i : ℕ) → i < n → R i (get_or xs i 0)
