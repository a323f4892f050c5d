-- A letter and the fields after it. Assumes nothing.
use Rattle.std.specs.Prelude.{ℕ, suc, ◌+◌, ◌<◌, List, ◌∷◌, ◌≡◌, length, get_or, slice_range, Ok, Err}
use Rattle.std.proofs.Common.{add-one, sym, ap, ap₂, ◌∙◌}
use Rattle.std.proofs.lemmas.Slice.{first_rest}
use Rattle.std.proofs.Math.Option.{none, some}
use Rattle.scope.specs.Sheet.{line}
use Rattle.scope.specs.Reading.{letter_of, fields_of, joined, line_of, formed, column_of}
use Rattle.scope.proofs.Laws.Beginnings.{some_formed, letter_stop, after_letter, stop_column}
use Rattle.field.specs.declared.Number.{Number}
use Rattle.field.specs.declared.Malformed.{Malformed}
use Rattle.line.specs.declared.letter.Letter.{Letter}
use Rattle.line.specs.Laws.Lines.{joined_none}
use Rattle.line.specs.Lines.{letter_from, numbers_from, LetterRead, FieldsRead}

module _ (n : ℕ) (s : List ℕ) (some_byte : 0 < length s) where
  abbrev b : ℕ
  b = get_or s 0 0

  abbrev rest : List ℕ
  rest = slice_range s 1 (length s)

  parts : b ∷ rest ≡ s
  parts = sym (first_rest s 0 some_byte)

  pub formed-line : (c : Letter) (xs : List Number) → LetterRead b (Ok c) → FieldsRead n rest (Ok xs) → line_of n s ≡ some (line (letter_from c) (numbers_from xs))
  unfolding line_of
  formed-line c xs e f = ap (line_of n) (sym parts) ∙ ap₂ joined e f

  pub no_letter : (m : Malformed) → LetterRead b (Err m) → (line_of n s ≡ none) × (column_of n s ≡ some m.column)
  unfolding line_of
  no_letter m (e, c) = (
    ap (line_of n) (sym parts) ∙ ap (λ o. joined o (fields_of n rest)) e,
    ap (column_of n) (sym parts) ∙ stop_column n (b ∷ rest) 1 (letter_stop n b rest (ap formed e)) ∙ ap some (sym c),
  )

  pub no_fields : (c : Letter) (m : Malformed) → LetterRead b (Ok c) → FieldsRead n rest (Err m) → (line_of n s ≡ none) × (column_of n s ≡ some (m.column + 1))
  unfolding line_of
  no_fields c m e (f, l, h) = (
    ap (line_of n) (sym parts) ∙ ap (joined (letter_of b)) f ∙ joined_none (letter_of b),
    ap (column_of n) (sym parts) ∙ rw add-one (stop_column n (b ∷ rest) (suc m.column) (after_letter n b rest m.column (some_formed e) h)),
  )
