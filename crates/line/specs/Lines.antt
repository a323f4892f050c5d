-- What the code's lines stand for: in no promise of an exported call. Assumes nothing.
use Rattle.std.specs.Prelude.{ℕ, ◌+◌, ◌*◌, ◌≤◌, cond, leb, List, [], ◌∷◌, ◌++◌, map, ◌≡◌, Result, Ok, Err}
use Rattle.std.proofs.Math.Option.{Option, none, some}
use Rattle.scope.specs.Sheet as scope
use Rattle.scope.specs.Sheet.{field_size, field, line}
use Rattle.scope.specs.Reading.{letter_of, fields_of, line_of, column_of, Stop, fields_begin}
use Rattle.field.specs.Columns.{number_from}
use Rattle.field.specs.declared.Number.{Number}
use Rattle.field.specs.declared.Malformed.{Malformed}
use Rattle.line.specs.declared.letter.Letter.{Letter}
use Rattle.line.specs.declared.letter.Letter.TheVariants.{Head, Not, And, Or, Rule, Wish, End}
use Rattle.line.specs.declared.line.Line.{Line}

abbrev pub letter_from : Letter → scope.Letter
letter_from Head = scope.H
letter_from Not = scope.N
letter_from And = scope.A
letter_from Or = scope.O
letter_from Rule = scope.R
letter_from Wish = scope.W
letter_from End = scope.Z

-- the layout whose lines have n fields
abbrev pub layout_of : ℕ → scope.Layout
layout_of n = cond (leb n 3) scope.plain scope.weighted

-- r is what the byte b of a line's first column holds
abbrev pub LetterRead : (b : ℕ) → Result Letter Malformed → Type 0
LetterRead b (Ok c) = letter_of b ≡ some (letter_from c)
LetterRead b (Err m) = (letter_of b ≡ none) × (m.column ≡ 1)

abbrev pub numbers_from : List Number → List scope.Number
numbers_from xs = map number_from xs

-- r is what t holds: n fields and a line feed
abbrev pub FieldsRead : (n : ℕ) (t : List ℕ) → Result (List Number) Malformed → Type 0
FieldsRead n t (Ok xs) = fields_of n t ≡ some (numbers_from xs)
FieldsRead n t (Err m) = (fields_of n t ≡ none) × (m.column ≤ n * field_size + 1) × Stop (fields_begin n) t m.column

abbrev pub line_from : {n : ℕ} → Line n → scope.Line
line_from l = line (letter_from l.letter) (numbers_from l.numbers)

-- the line that was read, if it is formed
abbrev pub line_if_formed : {n : ℕ} → Result (Line n) Malformed → Option scope.Line
line_if_formed (Ok l) = some (line_from l)
line_if_formed (Err m) = none

-- r is what the line t of n fields holds
abbrev pub LineRead : (n : ℕ) (t : List ℕ) → Result (Line n) Malformed → Type 0
LineRead n t (Ok l) = line_of n t ≡ some (line_from l)
LineRead n t (Err m) = (line_of n t ≡ none) × (column_of n t ≡ some m.column)

-- numbers in their columns, without the line feed
unfoldable pub fields_front : List scope.Number → List ℕ
fields_front [] = []
fields_front (x ∷ xs) = field x ++ fields_front xs
