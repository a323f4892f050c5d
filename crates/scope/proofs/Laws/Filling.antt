-- What is read into lent words: the words of the sheet, or nothing; written out again they give the sheet back. Assumes nothing.
use Rattle.std.specs.Prelude.{ℕ, ◌≤◌, List, ◌≢◌, ◌≡◌, refl, length}
use Rattle.std.proofs.Common.{arith, sym}
use Rattle.scope.specs.Sheet.{Sheet, weighted}
use Rattle.scope.specs.Causes.{Read, accepted, refused}
use Rattle.scope.specs.Sheets.{SheetRead}
use Rattle.scope.specs.Sheets as sheets
use Rattle.scope.specs.Source.{Form, ReadFrom}
use Rattle.scope.specs.Jobs.{over}
use Rattle.scope.specs.Words.{held, words_of}
use Rattle.scope.specs.Filling.{read_into}
use Rattle.scope.specs.Writing.{written, IsWritten}
use Rattle.scope.specs.Writing as writing
use Rattle.scope.proofs.Laws.TableReads.{written_in}
use Rattle.scope.proofs.Laws.Forms.{form_source}

pub refused_kept : (r : Read) (lent : List ℕ) → (read_into r lent).number ≢ 0 → (read_into r lent).tables ≡ lent
refused_kept (accepted t) lent h = absurd (h refl)
refused_kept (refused c place column) lent h = refl

-- no refusal has the number 0
pub accepted_words : (x : Form) (r : Read) (lent : List ℕ) → ReadFrom x r → (read_into r lent).number ≡ 0 → (t : Sheet) × ReadFrom x (accepted t) × ((read_into r lent).tables ≡ words_of t)
accepted_words x (accepted t) lent h e = (t, h, refl)
accepted_words x (refused c place column) lent h e = absurd (omega (arith, ((form_source x (refused c place column) h).refusal c place column refl).some))

-- the tables of an accepted sheet, where there is room, give that sheet
pub sheet_written : (s : List ℕ) (t : Sheet) → SheetRead weighted s (accepted t) → (u : List ℕ) → held u ≡ t → (out : List ℕ) → length s ≤ length out → IsWritten u out (written 0 0 0 (length s) (over s out))
sheet_written s t (sheets.accepted b v w) u h out room = record { read = accepted t; is_read = rw h (writing.accepted v); given = sym (rw b (written_in t out (rw b at room))) }
