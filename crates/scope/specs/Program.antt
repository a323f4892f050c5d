-- What the programs write, as a function of what is read. Assumes nothing.
use Rattle.std.specs.Prelude.{ℕ, suc, ◌+◌, ◌*◌, Bool, cond, List, [], ◌∷◌, ◌++◌, eqb, ltb, length, take, replicate}
use Prim.Native.Char.{Char, code}
use Rattle.scope.specs.Sheet.{Wish, Sheet, Number, plus, fields_bytes, weighted, field_count, sheet_bytes, most_switches, most_wishes}
use Rattle.scope.specs.Causes.{Read, accepted, refused, line_size, most_bytes}
use Rattle.scope.specs.Source.{Gives}
use Rattle.scope.specs.Meaning.{bits, kept}
use Rattle.scope.specs.Typed.{most_text}
use Rattle.scope.specs.Jobs.{Result, Answer, over, answer_of}
use Rattle.scope.specs.Demands.{listed}

-- a line of the plain layout's shape: a letter and three numbers
abbrev pub output_fields : ℕ
output_fields = 3

pub record Row : Type 0 where
  pub letter : ℕ
  pub fields : List Number

abbrev pub row : Char → ℕ → ℕ → ℕ → Row
row c x y z = record { letter = code c; fields = plus x ∷ plus y ∷ plus z ∷ [] }

unfoldable pub rows_bytes : List Row → List ℕ
rows_bytes [] = []
rows_bytes (r ∷ rs) = r.letter ∷ fields_bytes r.fields ++ rows_bytes rs

abbrev pub one : Bool → ℕ
one b = cond b 1 0

-- a row for each, numbered from i
unfoldable pub each : {A : Type 0} → (ℕ → A → Row) → ℕ → List A → List Row
each f i [] = []
each f i (a ∷ s) = f i a ∷ each f (suc i) s

-- switch i, on or off; wish i, kept or broken; the pattern at position i of the list
abbrev pub switch_row : ℕ → Bool → Row
switch_row i on = row "S" i (one on) 0

abbrev pub wish_row : Sheet → (plan : ℕ) → ℕ → Wish → Row
wish_row t plan i w = row "W" i (one (kept t plan w.clause)) 0

abbrev pub pattern_row : ℕ → ℕ → Row
pattern_row i q = row "F" i q 0

abbrev pub plan_rows : Sheet → (plan : ℕ) → List Row
plan_rows t plan = each switch_row 1 (bits t.switches plan) ++ each (wish_row t plan) 1 t.wishes

-- only when the number is 0
abbrev pub found_rows : Read → Result → List Row
found_rows (accepted t) r = cond (eqb r.number 0) (plan_rows t r.plan) []
found_rows (refused n place column) r = []

-- after 2 the column, and otherwise the cost
abbrev pub third : Result → ℕ
third r = cond (eqb r.number 2) r.column r.cost

abbrev pub answer_rows : Read → Answer → List Row
answer_rows o a = row "A" a.result.number a.result.place (third a.result) ∷ found_rows o a.result ++ each pattern_row 1 (listed a)

-- Z counts the lines before it
abbrev pub ended : List Row → List Row
ended rs = rs ++ row "Z" (length rs) 0 0 ∷ []

-- the length of the list that the program lends
abbrev pub room : ℕ
room = 4096

-- for what was read, from whatever form
unfoldable pub output_rows : Read → List Row
output_rows r = ended (answer_rows r (answer_of r (replicate room 0)))

unfoldable pub output : Read → List ℕ
output r = rows_bytes (output_rows r)

-- ---- what a program reads of its input: up to one byte more than a sheet, or a typed text, may have

-- the bytes of the longest sheet
abbrev pub most_sheet : ℕ
most_sheet = most_bytes (field_count weighted)

abbrev pub sheet_input : List ℕ → List ℕ
sheet_input input = take (suc most_sheet) input

abbrev pub text_input : List ℕ → List ℕ
text_input input = take (suc most_text) input

-- ---- bytes put into a lent buffer: what comes after them keeps its content, and a buffer that may be too short is left as it was

pub record ListingResult : Type 0 where
  pub length : ℕ
  pub buffer : List ℕ

abbrev pub listing_result : ℕ → List ℕ → ListingResult
listing_result n out = record { length = n; buffer = out }

-- the bytes s, which are never more than `most`
abbrev pub placed : (most : ℕ) → (s out : List ℕ) → ListingResult
placed most s out = cond (ltb (length out) most) (listing_result 0 out) (listing_result (length s) (over s out))

-- ---- the listing

-- the bytes of the longest: A, a line for each switch, wish and pattern that there may be, and Z
abbrev pub most_output : ℕ
most_output = (most_switches + most_wishes + room + 2) * line_size output_fields

unfoldable pub listing_of : Read → List ℕ → ListingResult
listing_of r out = placed most_output (output r) out

-- b is what is returned and left in the buffer; R says what is read
abbrev pub IsListing : (R : Read → Type 0) → (out : List ℕ) → ListingResult → Type 0
IsListing R out b = Gives R (λ r. listing_of r out) b

-- ---- a typed text as a sheet: the sheet that it stands for, or the listing of its refusal

unfoldable pub converted : Read → List ℕ
converted (accepted t) = sheet_bytes weighted t
converted (refused c place column) = output (refused c place column)

unfoldable pub converted_of : Read → List ℕ → ListingResult
converted_of r out = placed most_sheet (converted r) out

-- b is what is returned and left in the buffer; R says what is read
abbrev pub IsConverted : (R : Read → Type 0) → (out : List ℕ) → ListingResult → Type 0
IsConverted R out b = Gives R (λ r. converted_of r out) b
