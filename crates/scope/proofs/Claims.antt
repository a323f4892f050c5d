-- What is claimed of the definitions, each claim with its proof. Assumes nothing.
use Rattle.std.specs.Prelude.{ℕ, ◌+◌, ◌-◌, ◌*◌, ◌≤◌, ◌<◌, true, false, cond, ◌↔◌, ◌≢◌, ◌≡◌, refl, length, get_or, take}
use Rattle.std.proofs.Common.{ap, ◌∙◌}
use mathlib.Core.List.{List, [], ◌∷◌, ◌++◌, map, Memᴰ, Perm}
use Rattle.std.proofs.Math.Option.{none, some}
use Rattle.scope.specs.Sheet.{Number, number, field, fits, Line, Clause, Gate, Wish, Sheet, sheet, Layout, weighted, sheet_bytes, most_wishes, most_weight, All, Valid, Sayable}
use Rattle.scope.specs.Causes.{Read, accepted, refused, line_size, Met}
use Rattle.scope.specs.Sheets.{Printed, Begins, SheetRead, SheetRefusal}
use Rattle.scope.specs.Sheets as sheets
use Rattle.scope.specs.Reading.{field_of, line_of, column_of, read}
use Rattle.scope.specs.Source.{Source, Gives, Form, ReadFrom}
use Rattle.scope.specs.Meaning.{all, any, plans, patterns, literal_true, switch_on, fault_on, truth, passes, kept, cost, costs}
use Rattle.scope.specs.Typed.{Typed, Legal, formula_true, sheet_of, line_tests}
use Rattle.scope.specs.Texts.{TextRead, TextRefusal}
use Rattle.scope.specs.Parsing.{read_text}
use Rattle.scope.specs.Words.{word_count, word, held, words_of, Used}
use Rattle.scope.specs.Filling.{ReadResult, read_result, IsRead}
use Rattle.scope.specs.Writing.{TablesRefusal, TablesRead, WriteResult, written, IsWritten}
use Rattle.scope.specs.Checking.{read_tables}
use Rattle.scope.specs.Pick.{Better}
use Rattle.scope.specs.Rule.{Verdict, best, whole}
use Rattle.scope.specs.Jobs.{over, task, Result, Answer, answer_of, IsAnswer, short_of, IsShortRun, Rating, rating_of, IsRating}
use Rattle.scope.specs.Demands.{list, listed, Ending, Demand1, Demand2, Demand3, ShortRun, Rates}
use Rattle.scope.specs.Program.{output_rows, ListingResult, most_sheet, converted, IsConverted}
use Rattle.scope.proofs.Laws.Given as given
use Rattle.scope.proofs.Laws.Fields as fields
use Rattle.scope.proofs.Laws.Lines as lines
use Rattle.scope.proofs.Laws.Beginnings as beginnings
use Rattle.scope.proofs.Laws.Inverse as inverse
use Rattle.scope.proofs.Laws.SheetReads as sheetReads
use Rattle.scope.proofs.Laws.Wishes as wishes
use Rattle.scope.proofs.Laws.Rules as rules
use Rattle.scope.proofs.Laws.Demands as demands
use Rattle.scope.proofs.Laws.Outputs as outputs
use Rattle.scope.proofs.Laws.TextReads as textReads
use Rattle.scope.proofs.Laws.Walked as walked
use Rattle.scope.proofs.Laws.TypedSheets as typedSheets
use Rattle.scope.proofs.Laws.TypedTruths as typedTruths
use Rattle.scope.proofs.Laws.Words as words
use Rattle.scope.proofs.Laws.TableReads as tableReads
use Rattle.scope.proofs.Laws.Forms as forms
use Rattle.scope.proofs.Laws.Filling as filling
use Rattle.scope.proofs.Laws.Conversion as conversion

-- ---- reading, for lines of n fields

-- five bytes read as a number exactly if they are that number printed, and it is within its range
pub field_read : (s : List ℕ) (x : Number) → (field_of s ≡ some x) ↔ ((s ≡ field x) × (fits x ≡ true))
field_read = fields.field_iff

-- a line is well-formed exactly if it is a line of n fields printed
pub line_read : (n : ℕ) (s : List ℕ) (l : Line) → (line_of n s ≡ some l) ↔ Printed n s l
line_read = lines.line_iff

-- its column is the smallest c such that its first c bytes are the beginning of no well-formed line
pub column_told : (n : ℕ) (s : List ℕ) (c : ℕ) → (column_of n s ≡ some c) ↔ (Begins n (take (c - 1) s) × ¬ Begins n (take c s))
column_told = beginnings.column_iff

-- and a whole line has none exactly if it is well-formed
pub no_column : (n : ℕ) (s : List ℕ) → line_size n ≤ length s → (column_of n s ≡ none) ↔ ((l : Line) × Printed n s l)
no_column = beginnings.column_none

-- what is read from a sheet is what SheetRead says: the valid sheet that was printed, or the first cause to turn it down
pub sheet_read : (y : Layout) (s : List ℕ) (r : Read) → (read y s ≡ r) ↔ SheetRead y s r
sheet_read = sheetReads.sheet_iff

-- so what is read is fixed, and with it what a promise over it gives
pub sheet_gives : {B : Type 0} (y : Layout) (s : List ℕ) (f : Read → B) (b : B) → (b ≡ f (read y s)) ↔ Gives (SheetRead y s) f b
sheet_gives y s = given.given_iff (SheetRead y s) (read y s) (sheet_read y s)

-- two valid sheets that a layout can say, and that are printed alike in it, are the same
pub sheet_printed_once : (y : Layout) (t u : Sheet) → Valid t → Valid u → Sayable y t.wishes → Sayable y u.wishes → sheet_bytes y t ≡ sheet_bytes y u → t ≡ u
sheet_printed_once = inverse.printed_once

-- it is refused by one of the numbers 1 to 7, or by 14 where weights are written; 4 names line 1, and 2 alone has a column, one of its line's
pub sheet_refusal : (y : Layout) (s : List ℕ) {c place column : ℕ} → SheetRead y s (refused c place column) → SheetRefusal y c place column
sheet_refusal = sheetReads.refusal_number

-- ---- plans

-- a wish is kept exactly if one of its own literals is true
pub kept_by : (t : Sheet) (plan : ℕ) (w : Clause) → (kept t plan w ≡ true) ↔ ((x : Number) × Memᴰ x w × (literal_true (switch_on t plan) x ≡ true))
unfolding kept
kept_by t plan = wishes.keeps_iff (switch_on t plan)

-- one that holds k and -k is never broken, and one with no literal always
pub both_kept : (t : Sheet) (plan k : ℕ) (w : Clause) → Memᴰ (number false k) w → Memᴰ (number true k) w → kept t plan w ≡ true
unfolding kept
both_kept t plan = wishes.both_kept (switch_on t plan)

pub none_kept : (t : Sheet) (plan : ℕ) → kept t plan [] ≡ false
unfolding kept
none_kept t plan = wishes.none_kept (switch_on t plan)

-- a broken wish costs its weight, and wishes cost together what they cost apart: so one that is repeated counts every time
pub wish_costs : (a f : ℕ) (gs : List Gate) (rs : List ℕ) (plan : ℕ) (w : Wish) → costs a f gs rs plan (w ∷ []) ≡ cond (kept (sheet a f gs rs []) plan w.clause) 0 w.weight
wish_costs = wishes.cost_one

pub wishes_cost : (a f : ℕ) (gs : List Gate) (rs : List ℕ) (plan : ℕ) (us ws : List Wish) → costs a f gs rs plan (us ++ ws) ≡ costs a f gs rs plan us + costs a f gs rs plan ws
wishes_cost = wishes.cost_together

-- the order of wishes does not count
pub order_free : (a f : ℕ) (gs : List Gate) (rs : List ℕ) (plan : ℕ) (ws us : List Wish) → Perm ws us → costs a f gs rs plan ws ≡ costs a f gs rs plan us
order_free = wishes.cost_order

-- a plan of a valid sheet costs at most 63,936
pub cost_bounded : (t : Sheet) → Valid t → (plan : ℕ) → cost t plan ≤ most_wishes * most_weight
cost_bounded = wishes.cost_small

pub rating_claim : (r : Read) (p : ℕ) (t : Sheet) → r ≡ accepted t → p < plans t → Rates t p (rating_of r p)
rating_claim = demands.rating_right

-- ---- typed texts

-- what is read from a typed text is what TextRead says: the sheet that it stands for, or the first cause to turn it down
pub text_read : (s : List ℕ) (r : Read) → (read_text s ≡ r) ↔ TextRead s r
text_read = textReads.text_iff

pub text_gives : {B : Type 0} (s : List ℕ) (f : Read → B) (b : B) → (b ≡ f (read_text s)) ↔ Gives (TextRead s) f b
text_gives s = given.given_iff (TextRead s) (read_text s) (text_read s)

-- a text is legal for one value only
pub text_once : (v w : Typed) (s : List ℕ) → Legal v s → Legal w s → v ≡ w
text_once = walked.legal_once

-- it is refused by 12, by 4 on line 1 or 2, or by 5, 6 or 14 on a line after them; 1, 2, 3 and 7 are not for texts
pub text_refusal : (s : List ℕ) {c place column : ℕ} → TextRead s (refused c place column) → TextRefusal c place column
text_refusal s = typedSheets.refusal_number

-- and its answer ends as a sheet's does
pub text_ending : (s lent : List ℕ) (a : Answer) → IsAnswer (TextRead s) lent a → Ending (TextRead s) lent a
text_ending s lent a g = rw g.given (demands.ending_of (TextRead s) lent g.read g.is_read)

-- of a legal text whose tests are all met, each rule is true exactly if its formula is, as it is written
pub rules_as_written : (v : Typed) (s : List ℕ) → Legal v s → All Met (line_tests v) → (plan pattern : ℕ) → map (truth (sheet_of v) plan pattern) (sheet_of v).rules ≡ map (formula_true (switch_on (sheet_of v) plan) (fault_on (sheet_of v) pattern)) v.rules
rules_as_written v s l m = typedTruths.rules_true v (typedSheets.rules_on_sheet v s l m)

-- so a plan passes a pattern exactly if all formulas of the text are true
pub passes_as_written : (v : Typed) (s : List ℕ) → Legal v s → All Met (line_tests v) → (plan pattern : ℕ) → passes (sheet_of v) plan pattern ≡ all v.rules (formula_true (switch_on (sheet_of v) plan) (fault_on (sheet_of v) pattern))
passes_as_written v s l m = typedTruths.passes_written v (typedSheets.rules_on_sheet v s l m)

-- each wish is kept exactly if one of its literals is true, as it is written
pub wishes_as_written : (v : Typed) (plan : ℕ) → map (λ w. kept (sheet_of v) plan w.clause) (sheet_of v).wishes ≡ map (λ w. any w.clause (literal_true (switch_on (sheet_of v) plan))) v.wishes
wishes_as_written = typedTruths.wishes_written

-- ---- tables as words

-- the words of a valid sheet hold it
pub words_hold : (t : Sheet) → Valid t → held (words_of t) ≡ t
words_hold = words.held_words

pub words_fill : (t : Sheet) → Valid t → length (words_of t) ≡ word_count
words_fill t v = words.length_words t v.few_gates v.few_rules v.few_wishes

-- every word that does not count is 0
pub words_blank : (t : Sheet) → Valid t → (i : ℕ) → i < word_count → ¬ Used (words_of t) i → word (words_of t) i ≡ 0
words_blank = words.words_blank

-- and those of a valid sheet that words hold are these words, up to their counts
pub words_kept : (u : List ℕ) → Valid (held u) → (i : ℕ) → Used u i → word (words_of (held u)) i ≡ word u i
words_kept u v i = words.words_kept u v

-- what is read into words: a refusal leaves them as they were
pub read_refused : (R : Read → Type 0) (lent : List ℕ) (b : ReadResult) → IsRead R lent b → b.number ≢ 0 → b.tables ≡ lent
read_refused R lent b g = rw g.given (filling.refused_kept g.read lent)

-- and else they are those of the accepted sheet
pub read_filled : (x : Form) (lent : List ℕ) (b : ReadResult) → IsRead (ReadFrom x) lent b → b.number ≡ 0 → (t : Sheet) × ReadFrom x (accepted t) × (b.tables ≡ words_of t)
read_filled x lent b g = rw g.given (filling.accepted_words x g.read lent g.is_read)

-- ---- writing

-- what is read from tables is what TablesRead says: the valid sheet that they hold, or their first line at fault
pub tables_read : (u : List ℕ) (r : Read) → (read_tables (held u) ≡ r) ↔ TablesRead (held u) r
tables_read = tableReads.tables_iff

pub tables_give : {B : Type 0} (u : List ℕ) (f : Read → B) (b : B) → (b ≡ f (read_tables (held u))) ↔ Gives (TablesRead (held u)) f b
tables_give u = given.given_iff (TablesRead (held u)) (read_tables (held u)) (tables_read u)

-- they are refused by 4, 5, 6 or 14, and 4 names line 1
pub tables_refusal : (t : Sheet) {c place column : ℕ} → TablesRead t (refused c place column) → TablesRefusal c place column
tables_refusal = tableReads.refusal_number

module _ (u out : List ℕ) (w : WriteResult) (is : IsWritten u out w) where
  -- a refusal returns the length 0 and changes no byte of the buffer
  pub write_refused : w.number ≢ 0 → (w.length ≡ 0) × (w.buffer ≡ out)
  write_refused = rw is.given (tableReads.refused_kept is.read out)

  -- 13 comes last: exactly if the tables hold a valid sheet, and the buffer is shorter
  pub write_room : (w.number ≡ 13) ↔ (Valid (held u) × (length out < length (sheet_bytes weighted (held u))))
  write_room = rw is.given (tableReads.no_room (held u) out is.is_read, tableReads.left_out_of (held u) out is.is_read)

  -- reading a written sheet gives the sheet that the tables hold
  pub written_read : w.number ≡ 0 → SheetRead weighted (take w.length w.buffer) (accepted (held u))
  written_read e =
      let (v, s) = tableReads.written_sheet (held u) out is.is_read (rw is.given at e) in
      sheets.accepted {t = held u} (rw is.given s) v tt

  -- and so, into words, those tables up to their counts (`words_kept`)
  pub written_filled : w.number ≡ 0 → (lent : List ℕ) → IsRead (SheetRead weighted (take w.length w.buffer)) lent (read_result 0 0 0 (words_of (held u)))
  written_filled e lent = record { read = accepted (held u); is_read = written_read e; given = refl }

-- writing the tables of an accepted sheet, where there is room, gives that sheet, byte for byte
pub read_written : (s : List ℕ) (t : Sheet) → SheetRead weighted s (accepted t) → (u : List ℕ) → held u ≡ t → (out : List ℕ) → length s ≤ length out → IsWritten u out (written 0 0 0 (length s) (over s out))
read_written = filling.sheet_written

-- and so does writing the words that it was read into
pub filled_written : (s lent : List ℕ) (b : ReadResult) → IsRead (SheetRead weighted s) lent b → b.number ≡ 0 → (out : List ℕ) → length s ≤ length out → IsWritten b.tables out (written 0 0 0 (length s) (over s out))
filled_written s lent b g e out room =
    let (t, h, i) = read_filled (Form.sheet s) lent b g e in
    read_written s t h b.tables (ap held i ∙ words_hold t ((forms.form_source (Form.sheet s) (accepted t) h).valid t refl)) out room

-- ---- the demands

pub demand1 : (s lent : List ℕ) (a : Answer) → IsAnswer (SheetRead weighted s) lent a → Demand1 s lent a
demand1 s lent a g = rw g.given (demands.demand1 s lent g.read g.is_read)

pub demand2 : (r : Read) (lent : List ℕ) (t : Sheet) → r ≡ accepted t → Demand2 t lent (answer_of r lent)
demand2 = demands.demand2

-- over whatever was read and every lent list, and every beginning of what was listed
pub demand3 : (r : Read) (lent : List ℕ) (j : ℕ) → Demand3 r lent j (answer_of r lent) (short_of r (listed (answer_of r lent))) (short_of r (take j (listed (answer_of r lent))))
demand3 = demands.demand3

pub short_claim : (r : Read) (l : List ℕ) (t : Sheet) → r ≡ accepted t → ((i : ℕ) → i < length l → get_or l i 0 < patterns t) → ShortRun t l (short_of r l)
short_claim = demands.short_run

-- ---- both forms

-- what is read from a sheet or a text is a source; a claim that asks for no source holds of whatever was read
pub form_source : (x : Form) (r : Read) → ReadFrom x r → Source r
form_source = forms.form_source

-- and nothing else is read from it
pub read_once : (x : Form) (r q : Read) → ReadFrom x r → ReadFrom x q → r ≡ q
read_once = forms.read_once

-- the same tables, with the same list or plan, give the same answer, whatever form each is read from
module _ (x y : Form) (t v : Sheet) (from-x : ReadFrom x (accepted t)) (from-y : ReadFrom y (accepted v)) (same : words_of t ≡ words_of v) where
  pub same_answer : (lent : List ℕ) (a b : Answer) → IsAnswer (ReadFrom x) lent a → IsAnswer (ReadFrom y) lent b → a ≡ b
  same_answer lent = forms.same_given x y t v from-x from-y same (λ r. answer_of r lent)

  pub same_short_run : (l : List ℕ) (a b : Result) → IsShortRun (ReadFrom x) l a → IsShortRun (ReadFrom y) l b → a ≡ b
  same_short_run l = forms.same_given x y t v from-x from-y same (λ r. short_of r l)

  pub same_rating : (p : ℕ) (a b : Rating) → IsRating (ReadFrom x) p a → IsRating (ReadFrom y) p b → a ≡ b
  same_rating p = forms.same_given x y t v from-x from-y same (λ r. rating_of r p)

-- along a full run each candidate is strictly worse than the one before, and the answer is the last of them
pub candidates_worse : (t : Sheet) (i j : ℕ) → i < j → j ≤ length (list t) → (p q : ℕ) → best (task t) (take i (list t)) ≡ some p → best (task t) (take j (list t)) ≡ some q → Better (cost t) p q
candidates_worse t = rules.candidates_worse (task t) (list t) (rules.settled (task t)).ruled

pub answer_last : (t : Sheet) (p : ℕ) → ((whole (task t)).verdict ≡ Verdict.plan p) ↔ (best (task t) (take (length (list t)) (list t)) ≡ some p)
answer_last t = rules.answer_last (task t)

-- ---- the program

-- every figure that it prints fits its five columns
pub output_fits : (r : Read) → Source r → All (λ r. All (λ x. fits x ≡ true) r.fields) (output_rows r)
output_fits = outputs.output_fits

-- what a typed text is converted into is never longer than a sheet may be
pub converted_fits : (r : Read) → Source r → length (converted r) ≤ most_sheet
converted_fits = conversion.converted_most

-- and where the text is accepted, the sheet that is left in the buffer is read as the same
pub converted_read : (s out : List ℕ) (b : ListingResult) → IsConverted (TextRead s) out b → most_sheet ≤ length out → (t : Sheet) → TextRead s (accepted t) → SheetRead weighted (take b.length b.buffer) (accepted t)
converted_read s out b g room t h =
    let e : g.read ≡ accepted t = forms.read_once (Form.text s) g.read (accepted t) g.is_read h in
    sheets.accepted {t = t} (rw (g.given, e) (conversion.converted_sheet t out room)) ((forms.form_source (Form.text s) (accepted t) h).valid t refl) tt
