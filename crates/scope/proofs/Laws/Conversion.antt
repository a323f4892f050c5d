-- A typed text converted into its sheet: how long it is, and that it is left in the buffer. Assumes nothing.
use Rattle.std.specs.Prelude.{ℕ, ◌*◌, ◌≤◌, List, [], ◌∷◌, ◌≡◌, refl, length, take, drop}
use Rattle.std.proofs.Common.{arith, length-append, le-ltb}
use Rattle.std.proofs.Math.Seq.{take-append_seam}
use Rattle.scope.specs.Sheet.{Sheet, fields_bytes, weighted, sheet_bytes, All}
use Rattle.scope.specs.Causes.{Read, accepted, refused, line_size}
use Rattle.scope.specs.Source.{Source}
use Rattle.scope.specs.Program.{Row, rows_bytes, each, output_fields, output_rows, output, most_sheet, converted, converted_of}
use Rattle.scope.proofs.Laws.Lines.{length_fields}
use Rattle.scope.proofs.Laws.Steps.{three_fields}
use Rattle.scope.proofs.Laws.Inverse.{few_body}
use Rattle.scope.proofs.Laws.Writing.{sheet_size}
use Rattle.scope.proofs.Laws.Outputs.{Fits, output_fits}

-- rows of figures that fit have a line's length each
length_rows : (rs : List Row) → All Fits rs → All (λ r. length r.fields ≡ output_fields) rs → length (rows_bytes rs) ≡ length rs * line_size output_fields
unfolding rows_bytes
length_rows [] f c = refl
length_rows (r ∷ rs) (f, fs) (c, cs) = omega (arith, length-append (fields_bytes r.fields) (rows_bytes rs), length_fields r.fields f, length_rows rs fs cs)

pub converted_most : (r : Read) → Source r → length (converted r) ≤ most_sheet
unfolding converted output output_rows each
converted_most (accepted t) h = omega (arith, sheet_size weighted t (h.valid t refl), few_body weighted (three_fields weighted) t (h.valid t refl))
converted_most (refused c place column) h = omega (arith, length_rows (output_rows (refused c place column)) (output_fits (refused c place column) h) (refl, (refl, tt)))

pub converted_sheet : (t : Sheet) (out : List ℕ) → most_sheet ≤ length out → take (converted_of (accepted t) out).length (converted_of (accepted t) out).buffer ≡ sheet_bytes weighted t
unfolding converted converted_of
converted_sheet t out h = rw (le-ltb (length out) most_sheet h) (take-append_seam (sheet_bytes weighted t) (drop (length (sheet_bytes weighted t)) out))
