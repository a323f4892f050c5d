-- How the code reads a field, column by column: in no promise of an exported call. Assumes nothing.
use Rattle.std.specs.Prelude.{ℕ, ◌+◌, ◌-◌, ◌*◌, ◌≤◌, Bool, true, false, cond, ◌&&◌, List, [], ◌∷◌, ◌≡◌, eqb, leb, ltb, length, Option, Some, None, Result, Ok, Err}
use Prim.Native.Char.{code}
use Rattle.std.proofs.Math.Option as math
use Rattle.scope.specs.Sheet as scope
use Rattle.scope.specs.Sheet.{number, field_size}
use Rattle.scope.specs.Reading.{field_of, Stop, field_begins}
use Rattle.field.specs.declared.Scan.{Scan}
use Rattle.field.specs.declared.Scan.TheVariants.{Blank, Minus, Digits}
use Rattle.field.specs.declared.Number as made
use Rattle.field.specs.declared.Malformed.{Malformed}

-- the digits of this number so far
abbrev pub digits : Bool → ℕ → Scan
digits m n = Digits (record { minus = m; size = n })

-- one more digit, if there is room for it
abbrev pub with_digit : made.Number → ℕ → Option Scan
with_digit x b = cond (ltb x.size 10000 && (leb (code "0") b && leb b (code "9"))) (Some (digits x.minus (x.size * 10 + (b - code "0")))) None

-- one more byte, with `left` columns after it: a zero stands alone
abbrev pub next : Scan → ℕ → ℕ → Option Scan
next Blank b left =
    cond (eqb b (code " ")) (Some Blank)
    (cond (eqb b (code "-")) (Some Minus)
    (cond (eqb b (code "0")) (cond (eqb left 0) (Some (digits false 0)) None)
    (with_digit (record { minus = false; size = 0 }) b)))
next Minus b left = cond (eqb b (code "0")) None (with_digit (record { minus = true; size = 0 }) b)
next (Digits x) b left = with_digit x b

-- the bytes s, with `left` columns after them
abbrev pub step : Option Scan → ℕ → ℕ → Option Scan
step None b left = None
step (Some st) b left = next st b left

unfoldable pub walk : Option Scan → List ℕ → ℕ → Option Scan
walk o [] left = o
walk o (b ∷ s) left = walk (step o b (length s + left)) s left

-- ---- what the code's values stand for

abbrev pub number_from : made.Number → scope.Number
number_from x = number x.minus x.size

-- r is what the five columns t hold
abbrev pub FieldRead : (t : List ℕ) → Result made.Number Malformed → Type 0
FieldRead t (Ok x) = field_of t ≡ math.some (number_from x)
FieldRead t (Err m) = (field_of t ≡ math.none) × (m.column ≤ field_size) × Stop field_begins t m.column
