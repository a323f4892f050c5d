-- Tables are read as what TablesRead says, and nothing else, and written if there is room. Assumes nothing.
use Rattle.std.specs.Prelude.{ℕ, suc, ◌+◌, ◌≤◌, ◌<◌, Bool, true, false, ◌↔◌, ◌≢◌, ◌≡◌, refl, length, take, drop}
use Rattle.std.proofs.Math.Decide.{dec_le}
use Rattle.std.proofs.Math.Nat.{zero-add}
use Rattle.std.proofs.Common.{add-one, arith, sym, ◌∙◌, ne_eqb, le-leb}
use mathlib.Core.List.{List, [], ◌∷◌, ◌++◌, map, append_assoc, append-nil}
use Rattle.std.proofs.Math.Path.{ap, subst}
use Rattle.std.proofs.Math.Seq.{take-append_seam}
use Rattle.std.proofs.lemmas.Bool.{lt-leb}
use Rattle.scope.specs.Sheet.{Gate, Wish, Sheet, Line, weighted, gate_line, rule_line, wish_line, body, sheet_bytes, All, Valid}
use Rattle.scope.specs.Causes.{Test, gate_tests, tests, started, make, Read, accepted, refused, First, later}
use Rattle.scope.specs.Texts.{FirstLine}
use Rattle.scope.specs.Texts as texts
use Rattle.scope.specs.Jobs.{over}
use Rattle.scope.specs.Words.{held}
use Rattle.scope.specs.Writing.{tests_from, table_tests, TablesRead, at_fault, TablesRefusal, out_of_range, too_many, wrong_field, wrong_weight, WriteResult, written, written_of}
use Rattle.scope.specs.Writing as writing
use Rattle.scope.specs.Checking.{read_tables}
use Rattle.scope.proofs.Laws.Alls.{all_true, all_map}
use Rattle.scope.proofs.Laws.Refusals.{not_both, first_in}
use Rattle.scope.proofs.Laws.TextReads.{lines_met, line_refused, by_lines}
use Rattle.scope.proofs.Laws.Writing.{wishes_held, valid_passes, passes_valid}

-- ---- reading

-- a valid sheet is accepted: none of its lines is at fault
pub valid_read : (t : Sheet) → Valid t → {r : Read} → TablesRead t r → r ≡ accepted t
valid_read t v (at_fault f) = absurd (not_both (sym (lines_met (table_tests t) (valid_passes t v) 1 (accepted t)) ∙ line_refused f 0 (accepted t)))
valid_read t v (writing.accepted w) = refl

module _ (u : List ℕ) where
  pub tables_told : TablesRead (held u) (read_tables (held u))
  unfolding read_tables
  tables_told = by_lines (TablesRead (held u)) 0 (table_tests (held u)) (accepted (held u)) (λ m. writing.accepted (passes_valid (held u) (wishes_held u) m)) (λ c k f. rw zero-add (at_fault f))

  told_tables : {r : Read} → TablesRead (held u) r → read_tables (held u) ≡ r
  unfolding read_tables
  told_tables (at_fault {c} {k} f) = line_refused f 0 (accepted (held u)) ∙ ap (λ m. refused c m 0) (zero-add k)
  told_tables (writing.accepted v) = lines_met (table_tests (held u)) (valid_passes (held u) v) 1 (accepted (held u))

  pub tables_iff : (r : Read) → (read_tables (held u) ≡ r) ↔ TablesRead (held u) r
  tables_iff r = (λ e. subst (TablesRead (held u)) e tables_told, told_tables)

-- ---- which numbers: the lines stand in order, so 3 and 7 are none of them

past_true : {c : ℕ} {ts : List Test} → First c ((3, true) ∷ ts) → First c ts
past_true (later f) = f

past_three : {k c : ℕ} {a : Bool} {ts : List Test} → First c ((3, a) ∷ ts) → a ≡ true → All (λ x. TablesRefusal x.0 (suc k) 0) ts → TablesRefusal c (suc k) 0
past_three {k} {c} {a} {ts} f e h = first_in (λ c. TablesRefusal c (suc k) 0) ts h (past_true (subst (λ a. First c ((3, a) ∷ ts)) e f))

past_first : {c : ℕ} {b d : Bool} → First c ((3, true) ∷ (4, b) ∷ (6, d) ∷ []) → TablesRefusal c 1 0
past_first {b} {d} (later f) = first_in (λ c. TablesRefusal c 1 0) ((4, b) ∷ (6, d) ∷ []) (out_of_range, (wrong_field, tt)) f

-- each of these lines, k lines after the first, is refused by 4, 5, 6 or 14 only
abbrev Numbered : ℕ → List (List Test) → Type 0
Numbered k [] = Unit {0}
Numbered k (rs ∷ rss) = ((c : ℕ) → First c rs → TablesRefusal c (suc k) 0) × Numbered (suc k) rss

numbered_line : {c j : ℕ} {rss : List (List Test)} (k : ℕ) → FirstLine c j rss → Numbered k rss → TablesRefusal c (k + j) 0
numbered_line {c} k (texts.here f) (h, hs) = subst (λ m. TablesRefusal c m 0) (sym (add-one k)) (h c f)
numbered_line {c} k (texts.later m f) (h, hs) = subst (λ m. TablesRefusal c m 0) (omega arith) (numbered_line (suc k) f hs)

-- after lines of which Q holds a line is refused by 5, 6 or 14 only, and Q holds with it too
abbrev Keeps : (Sheet → Type 0) → Line → Type 0
Keeps Q l = (t : Sheet) → Q t → ((k c : ℕ) → First c (tests weighted t (suc k) false l.letter l.fields) → TablesRefusal c (suc (suc k)) 0) × Q (make weighted t l.letter l.fields)

numbered_more : (Q : Sheet → Type 0) (more : List Line) → ((t : Sheet) → Q t → (k : ℕ) → Numbered (suc k) (tests_from t (suc k) more)) → (ls : List Line) → All (Keeps Q) ls → (t : Sheet) → Q t → (k : ℕ) → Numbered (suc k) (tests_from t (suc k) (ls ++ more))
unfolding tests_from
numbered_more Q more after [] a t q k = after t q k
numbered_more Q more after (l ∷ ls) (h, hs) t q k = let (p, r) = h t q in (p k, numbered_more Q more after ls hs (make weighted t l.letter l.fields) r (suc k))

abbrev NoRule : Sheet → Type 0
NoRule t = (t.rules ≡ []) × (t.wishes ≡ [])

abbrev NoWish : Sheet → Type 0
NoWish t = t.wishes ≡ []

gate_told : (t : Sheet) {fields : Bool} → NoRule t → (k c : ℕ) → First c (gate_tests t (suc k) false fields) → TablesRefusal c (suc (suc k)) 0
gate_told t (r, w) k c f = past_three f (rw (ne_eqb (suc k) 0 (λ e. omega arith), r, w)) (too_many, (wrong_field, tt))

gate_keeps : (g : Gate) → Keeps NoRule (gate_line weighted g)
unfolding tests make
gate_keeps (Gate.not p) t q = (gate_told t q, q)
gate_keeps (Gate.and p r) t q = (gate_told t q, q)
gate_keeps (Gate.or p r) t q = (gate_told t q, q)

rule_keeps : (p : ℕ) → Keeps NoWish (rule_line weighted p)
unfolding tests make
rule_keeps p t w = (λ k c f. past_three f (rw (ne_eqb (suc k) 0 (λ e. omega arith), w)) (too_many, (wrong_field, tt)), w)

wish_keeps : (w : Wish) → Keeps (λ t. Unit {0}) (wish_line weighted w)
unfolding tests make
wish_keeps w t q = (λ k c f. past_three f (rw (ne_eqb (suc k) 0 (λ e. omega arith))) (too_many, (wrong_field, (wrong_weight, tt))), tt)

module _ (t : Sheet) where
  abbrev gates : List Line
  gates = map (gate_line weighted) t.gates

  abbrev rules : List Line
  rules = map (rule_line weighted) t.rules

  abbrev wishes : List Line
  wishes = map (wish_line weighted) t.wishes

  all_keep : {X : Type 0} (Q : Sheet → Type 0) (toLine : X → Line) → ((x : X) → Keeps Q (toLine x)) → (xs : List X) → All (Keeps Q) (map toLine xs)
  all_keep Q toLine h xs = all_map (Keeps Q) (λ x. Unit {0}) toLine (λ x i. h x) xs (all_true xs)

  wishes_numbered : (s : Sheet) (k : ℕ) → Numbered (suc k) (tests_from s (suc k) wishes)
  unfolding tests_from
  wishes_numbered s k = rw append-nil at (numbered_more (λ s. Unit {0}) [] (λ s q k. tt) wishes (all_keep (λ s. Unit {0}) (wish_line weighted) wish_keeps t.wishes) s tt k)

  rules_numbered : (s : Sheet) → NoWish s → (k : ℕ) → Numbered (suc k) (tests_from s (suc k) (rules ++ wishes))
  rules_numbered = numbered_more NoWish wishes (λ s w. wishes_numbered s) rules (all_keep NoWish (rule_line weighted) rule_keeps t.rules)

  gates_numbered : (s : Sheet) → NoRule s → (k : ℕ) → Numbered (suc k) (tests_from s (suc k) (gates ++ (rules ++ wishes)))
  gates_numbered = numbered_more NoRule (rules ++ wishes) (λ s (r, w). rules_numbered s w) gates (all_keep NoRule (gate_line weighted) gate_keeps t.gates)

  tables_numbered : Numbered 0 (table_tests t)
  unfolding body tests_from tests make
  tables_numbered = (λ c. past_first, subst (λ ls. Numbered 1 (tests_from (started t.switches t.faults) 1 ls)) (sym (append_assoc gates rules wishes)) (gates_numbered (started t.switches t.faults) (refl, refl) 0))

  pub refusal_number : {c place column : ℕ} → TablesRead t (refused c place column) → TablesRefusal c place column
  refusal_number (at_fault f) = rw zero-add at (numbered_line 0 f tables_numbered)

-- ---- writing, by whether there is room

module _ (t : Sheet) (out : List ℕ) where
  pub written_in : length (sheet_bytes weighted t) ≤ length out → written_of (accepted t) out ≡ written 0 0 0 (length (sheet_bytes weighted t)) (over (sheet_bytes weighted t) out)
  written_in h = rw (le-leb (length (sheet_bytes weighted t)) (length out) h)

  pub left_out : length out < length (sheet_bytes weighted t) → written_of (accepted t) out ≡ written 13 0 0 0 out
  left_out h = rw (lt-leb (length (sheet_bytes weighted t)) (length out) h)

  by_room : (P : WriteResult → Type 0) → (length (sheet_bytes weighted t) ≤ length out → P (written 0 0 0 (length (sheet_bytes weighted t)) (over (sheet_bytes weighted t) out))) → (length out < length (sheet_bytes weighted t) → P (written 13 0 0 0 out)) → P (written_of (accepted t) out)
  by_room P f g = go (dec_le (length (sheet_bytes weighted t)) (length out))
    where
      go : Dec (length (sheet_bytes weighted t) ≤ length out) → P (written_of (accepted t) out)
      go (yes h) = subst P (sym (written_in h)) (f h)
      go (no h) = let l : length out < length (sheet_bytes weighted t) = omega arith in subst P (sym (left_out l)) (g l)

refusal_own : {c place column : ℕ} → TablesRefusal c place column → (c ≢ 0) × (c ≢ 13)
refusal_own out_of_range = (λ e. omega arith, λ e. omega arith)
refusal_own too_many = (λ e. omega arith, λ e. omega arith)
refusal_own wrong_field = (λ e. omega arith, λ e. omega arith)
refusal_own wrong_weight = (λ e. omega arith, λ e. omega arith)

module _ (t : Sheet) (out : List ℕ) where
  pub written_sheet : {r : Read} → TablesRead t r → (written_of r out).number ≡ 0 → Valid t × (take (written_of r out).length (written_of r out).buffer ≡ sheet_bytes weighted t)
  written_sheet (at_fault f) e = absurd ((refusal_own (refusal_number t (at_fault f))).0 e)
  written_sheet (writing.accepted v) e = (v, by_room t out (λ w. w.number ≡ 0 → take w.length w.buffer ≡ sheet_bytes weighted t) (λ l e. take-append_seam (sheet_bytes weighted t) (drop (length (sheet_bytes weighted t)) out)) (λ l e. absurd (omega arith)) e)

  pub no_room : {r : Read} → TablesRead t r → (written_of r out).number ≡ 13 → Valid t × (length out < length (sheet_bytes weighted t))
  no_room (at_fault f) e = absurd ((refusal_own (refusal_number t (at_fault f))).1 e)
  no_room (writing.accepted v) e = (v, by_room t out (λ w. w.number ≡ 13 → length out < length (sheet_bytes weighted t)) (λ l e. absurd (omega arith)) (λ l e. l) e)

  pub left_out_of : {r : Read} → TablesRead t r → Valid t × (length out < length (sheet_bytes weighted t)) → (written_of r out).number ≡ 13
  left_out_of {r} h (v, l) = let e : r ≡ accepted t = valid_read t v h in rw e (ap (λ w. w.number) (left_out t out l))

-- a refusal changes nothing
pub refused_kept : (r : Read) (out : List ℕ) → (written_of r out).number ≢ 0 → ((written_of r out).length ≡ 0) × ((written_of r out).buffer ≡ out)
refused_kept (accepted t) out h = by_room t out (λ w. w.number ≢ 0 → (w.length ≡ 0) × (w.buffer ≡ out)) (λ l h. absurd (h refl)) (λ l h. (refl, refl)) h
refused_kept (refused c place column) out h = (refl, refl)
