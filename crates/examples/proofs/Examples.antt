-- The examples hold, from the bytes as they are typed, by computation. Assumes nothing.
use Rattle.std.specs.Prelude.{true, ◌≡◌, refl}
use Rattle.scope.specs.Text.{bytes, lines}
use Rattle.scope.specs.Sheet.{number, plus, plain, weighted, decimal, field, fields_bytes, All}
use Rattle.scope.specs.Causes.{zeros, literals, clause, tests, make}
use Rattle.scope.specs.Reading.{field_of, fields_of, letter_of, line_of, line_at, column_at, column_of, tests_at, read_from, read}
use Rattle.scope.specs.Meaning.{bits, truths, truth, passes, keeps, broken, switch_on, kept, cost}
use Rattle.scope.specs.Pick.{pick}
use Rattle.scope.specs.Rule.{best, missed, short, next, rule}
use Rattle.scope.specs.Jobs.{answer_of, short_of, rating_of}
use Rattle.scope.specs.Program.{each, rows_bytes, output_rows, output, sheet_input}
use Rattle.scope.specs.Sheets.{SheetRead}
use Rattle.scope.proofs.Claims.{sheet_read, sheet_gives}
use Rattle.scope.proofs.Laws.Alls.{all_imply}
use Rattle.examples.specs.Examples.{examples, plain_examples, Job, answers, runs, rates, Correct, table, listings, Prints}

-- ---- reading

computed : All (λ e. read weighted (lines e.0) ≡ e.1) examples
unfolding read read_from tests_at line_at column_at column_of pick fields_bytes line_of letter_of fields_of field_of field decimal tests zeros make literals clause
computed = (refl, (refl, (refl, (refl, (refl, (refl, (refl, (refl, (refl, (refl, (refl, (refl, (refl, (refl, (refl, (refl, (refl, (refl, (refl, (refl, (refl, (refl, (refl, (refl, (refl, (refl, (refl, (refl, (refl, (refl, tt))))))))))))))))))))))))))))))

pub reading : All (λ e. SheetRead weighted (lines e.0) e.1) examples
reading = all_imply (λ e. read weighted (lines e.0) ≡ e.1) (λ e. SheetRead weighted (lines e.0) e.1) (λ e. (sheet_read weighted (lines e.0) e.1).0) examples computed

plain_computed : All (λ e. read plain (lines e.0) ≡ e.1) plain_examples
unfolding read read_from tests_at line_at column_at column_of pick fields_bytes line_of letter_of fields_of field_of field decimal tests zeros make literals clause
plain_computed = (refl, (refl, (refl, (refl, tt))))

pub plain_reading : All (λ e. SheetRead plain (lines e.0) e.1) plain_examples
plain_reading = all_imply (λ e. read plain (lines e.0) ≡ e.1) (λ e. SheetRead plain (lines e.0) e.1) (λ e. (sheet_read plain (lines e.0) e.1).0) plain_examples plain_computed

pub printing : (field (plus 0) ≡ bytes "    0") × (field (plus 99999) ≡ bytes "99999") × (field (number true 12) ≡ bytes "  -12") × (field (number true 9999) ≡ bytes "-9999")
unfolding field decimal
printing = (refl, refl, refl, refl)

-- ---- the jobs

-- by computation
abbrev Computed : Job → Type 0
Computed (answers s lent a) = a ≡ answer_of (read weighted (lines s)) lent
Computed (runs s l r) = r ≡ short_of (read weighted (lines s)) l
Computed (rates s p r) = r ≡ rating_of (read weighted (lines s)) p

correct : (j : Job) → Computed j → Correct j
correct (answers s lent a) e = (sheet_gives weighted (lines s) (λ r. answer_of r lent) a).0 e
correct (runs s l b) e = (sheet_gives weighted (lines s) (λ r. short_of r l) b).0 e
correct (rates s p b) e = (sheet_gives weighted (lines s) (λ r. rating_of r p) b).0 e

table_computed : All Computed table
unfolding read read_from tests_at line_at column_at column_of fields_bytes line_of letter_of fields_of field_of field decimal tests zeros make literals clause rule next best missed short pick passes truth truths bits cost broken keeps switch_on
table_computed = (refl, (refl, (refl, (refl, (refl, (refl, (refl, (refl, (refl, (refl, (refl, (refl, (refl, (refl, (refl, (refl, (refl, (refl, (refl, (refl, (refl, (refl, (refl, (refl, (refl, (refl, (refl, tt)))))))))))))))))))))))))))

pub table_holds : All Correct table
table_holds = all_imply Computed Correct correct table table_computed

-- ---- the program

listings_computed : All (λ e. lines e.1 ≡ output (read weighted (sheet_input (lines e.0)))) listings
unfolding output output_rows rows_bytes fields_bytes each read read_from tests_at line_at column_at column_of line_of letter_of fields_of field_of field decimal tests zeros make literals clause rule next best missed short pick passes truth truths bits cost kept broken keeps switch_on
listings_computed = (refl, (refl, (refl, (refl, tt))))

pub printed : All Prints listings
printed = all_imply (λ e. lines e.1 ≡ output (read weighted (sheet_input (lines e.0)))) Prints (λ e. (sheet_gives weighted (sheet_input (lines e.0)) output (lines e.1)).0) listings listings_computed
