-- The tests of the lines of a held sheet, one by one. What the lines before say counts only by how many there are of each kind, so that
-- the tests of a line are known from its place. Assumes nothing.
use Rattle.std.proofs.Math.Decide.{dec_lt}
use Rattle.std.proofs.Common.{zero-add, suc-add, sym, subst, ◌∙◌, drop-cons, ne_eqb, arith, ap}
use Rattle.std.specs.Prelude.{true, false, ◌≡◌, ltb, take, drop, Result, ℕ, zero, suc, ◌+◌, ◌-◌, ◌≤◌, ◌<◌, min, List, [], ◌∷◌, refl, length, get_or}
use Rattle.std.proofs.Math.Bool.{and-true}
use Rattle.std.proofs.Math.ListN.{get_or-append, get_or-eq_default}
use Rattle.scope.specs.Sheet.{Number, Gate, not, and, or, wish, Sheet, points, H, Line, line, weighted, gate_line, wish_line, end_line, body, most_gates, most_literals}
use Rattle.scope.specs.Causes.{clause, weight_on, tests, started, make}
use Rattle.scope.specs.Words.{word, rule_at, held}
use Rattle.scope.specs.Writing.{tests_from, table_tests}
use Rattle.scope.proofs.Laws.Lists.{length_snoc}
use Rattle.scope.proofs.Laws.Inverse.{zeros_replicate}
use Rattle.scope.proofs.Laws.Writing.{length_lines, gate_made}
use Rattle.words.specs.Refusals.{Tested}
use Rattle.words.specs.declared.refusal.Refusal.{Refusal}
use Rattle.words.specs.Entries.{gate_of_words, gate_words_at, wish_words_at, wish_of_words}
use Rattle.writer.specs.Entries.{before_end, LineOf}
use Rattle.writer.specs.Tested.{named, tests_of, line_tests}
use Rattle.writer.specs.Lines.{line_of}
use Rattle.writer.specs.declared.entries.Entry.{Entry}
use Rattle.writer.specs.declared.entries.Entry.TheVariants.{Head, Rule, Wish, End}
use Rattle.writer.specs.Laws.Filled.{literals_filled}
use Rattle.writer.specs.Laws.Lines.{line_is}

-- every line is of some entry
entry_there : (u : List ℕ) (k : ℕ) → k ≤ before_end u → (e : Entry) × LineOf u k e
entry_there u zero h = (Head, refl)
entry_there u (suc i) h = go (dec_lt i (word u 2)) (dec_lt (i - word u 2) (word u 3)) (dec_lt (i - word u 2 - word u 3) (word u 4))
  where
    go : Dec (i < word u 2) → Dec (i - word u 2 < word u 3) → Dec (i - word u 2 - word u 3 < word u 4) → (e : Entry) × LineOf u (suc i) e
    go (yes a) b c = (Entry.Gate i, (a, refl))
    go (no a) (yes b) c = (Rule (i - word u 2), (b, omega arith))
    go (no a) (no b) (yes c) = (Wish (i - word u 2 - word u 3), (c, omega arith))
    go (no a) (no b) (no c) = (End, omega arith)

-- ---- one line

-- how many of each kind the head and i lines after it say
record SaidBy (u : List ℕ) (i : ℕ) (s : Sheet) : Type 0 where
  switches : s.switches ≡ word u 0
  faults : s.faults ≡ word u 1
  gates : length s.gates ≡ min i (word u 2)
  rules : length s.rules ≡ min (i - word u 2) (word u 3)
  wishes : length s.wishes ≡ i - word u 2 - word u 3

module _ (s : Sheet) where
  gate_tests_lem : (k : ℕ) (g : Gate) → length s.rules ≡ 0 → length s.wishes ≡ 0 → tests weighted s (suc k) false (gate_line weighted g).letter (gate_line weighted g).fields ≡ (3, true) ∷ (5, ltb (length s.gates) most_gates) ∷ (6, named (points s) g) ∷ []
  unfolding tests named
  gate_tests_lem k (not p) r w = rw (ne_eqb (suc k) 0 (λ e. omega arith), r, w, zeros_replicate 3, and-true)
  gate_tests_lem k (and p q) r w = rw (ne_eqb (suc k) 0 (λ e. omega arith), r, w, zeros_replicate 2, and-true)
  gate_tests_lem k (or p q) r w = rw (ne_eqb (suc k) 0 (λ e. omega arith), r, w, zeros_replicate 2, and-true)

module _ (u : List ℕ) (i : ℕ) (s : Sheet) (q : SaidBy u i s) (h : suc i < before_end u) where
  tested : (e : Entry) → LineOf u (suc i) e → tests weighted s (suc i) false (line_of weighted u e).letter (line_of weighted u e).fields ≡ tests_of u e
  unfolding tests
  tested Head e = absurd (omega arith)
  tested (Entry.Gate j) (l, e) =
      let g : length s.gates ≡ j = omega (arith, q.gates) in
      gate_tests_lem s i (gate_of_words (gate_words_at u j)) (omega (arith, q.rules)) (omega (arith, q.wishes)) ∙ rw (g, q.switches, q.faults)
  tested (Rule j) (l, e) =
      let g : length s.gates ≡ word u 2 = omega (arith, q.gates) in
      let r : length s.rules ≡ j = omega (arith, q.rules) in
      let w : length s.wishes ≡ 0 = omega (arith, q.wishes) in
      rw (ne_eqb (suc i) 0 (λ e. omega arith), q.switches, q.faults, g, r, w, zeros_replicate 3, and-true)
  tested (Wish j) (l, e) =
      let v : List ℕ = wish_words_at u j in
      let w : length s.wishes ≡ j = omega (arith, q.wishes) in
      rw (ne_eqb (suc i) 0 (λ e. omega arith), q.switches, w, ← literals_filled 3 (omega arith) (word v 0) (word v 1) (word v 2))
  tested End e = absurd (omega arith)

  said_next : (e : Entry) → LineOf u (suc i) e → SaidBy u (suc i) (make weighted s (line_of weighted u e).letter (line_of weighted u e).fields)
  unfolding make
  said_next Head e = absurd (omega arith)
  said_next (Entry.Gate j) (l, e) = rw (gate_made s (gate_of_words (gate_words_at u j))) (record { switches = q.switches; faults = q.faults; gates = omega (arith, length_snoc s.gates (gate_of_words (gate_words_at u j)), q.gates); rules = omega (arith, q.rules); wishes = omega (arith, q.wishes) })
  said_next (Rule j) (l, e) = record { switches = q.switches; faults = q.faults; gates = omega (arith, q.gates); rules = omega (arith, length_snoc s.rules (rule_at u j), q.rules); wishes = omega (arith, q.wishes) }
  said_next (Wish j) (l, e) =
      let xs : List Number = (wish_line weighted (wish_of_words (wish_words_at u j))).fields in
      record { switches = q.switches; faults = q.faults; gates = omega (arith, q.gates); rules = omega (arith, q.rules); wishes = omega (arith, length_snoc s.wishes (wish (clause (take most_literals xs)) (weight_on weighted xs).size), q.wishes) }
  said_next End e = absurd (omega arith)

-- ---- line after line

module _ (u : List ℕ) where
  abbrev lines : List Line
  lines = body weighted (held u)

  lines_from : (i : ℕ) → suc i < before_end u → (e : Entry) → LineOf u (suc i) e → drop (suc i) lines ≡ line_of weighted u e ∷ drop (suc (suc i)) lines
  lines_from i h e l =
      let b : suc i < length lines = omega (arith, length_lines weighted u) in
      drop-cons lines (suc i) (line H []) b ∙ ap (λ x. x ∷ drop (suc (suc i)) lines) (sym (get_or-append lines (end_line weighted (length lines) ∷ []) (line H []) (suc i) b) ∙ line_is weighted u (suc i) e l)

  -- the head and i lines after it say this, and these are the tests of the lines from there on
  record Reached (i : ℕ) : Type 0 where
    said : Sheet
    said_by : SaidBy u i said
    same : (j : ℕ) → get_or (table_tests (held u)) (suc i + j) [] ≡ get_or (tests_from said (suc i) (drop (suc i) lines)) j []

  reached : (i : ℕ) → i < before_end u → Reached i
  unfolding body tests_from make
  reached zero h = record {
    said = started (word u 0) (word u 1);
    said_by = record { switches = refl; faults = refl; gates = omega arith; rules = omega arith; wishes = omega arith };
    same = λ j. rw (suc-add, zero-add);
  }
  reached (suc i) h =
      let p : Reached i = reached i (omega arith) in
      let (e, l) = entry_there u (suc i) (omega arith) in
      record {
        said = make weighted p.said (line_of weighted u e).letter (line_of weighted u e).fields;
        said_by = said_next u i p.said p.said_by h e l;
        same = λ j.
            let m : suc (suc i) + j ≡ suc i + suc j = omega arith in
            ap (λ m. get_or (table_tests (held u)) m []) m ∙ p.same (suc j) ∙ ap (λ ls. get_or (tests_from p.said (suc i) ls) (suc j) []) (lines_from i h e l);
      }

  after_head : (i : ℕ) → suc i < before_end u → (e : Entry) → LineOf u (suc i) e → line_tests u (suc i) ≡ tests_of u e
  unfolding tests_from
  after_head i h e l =
      let p : Reached i = reached i (omega arith) in
      let m : suc i ≡ suc i + 0 = omega arith in
      ap (line_tests u) m ∙ p.same 0 ∙ ap (λ ls. get_or (tests_from p.said (suc i) ls) 0 []) (lines_from i h e l) ∙ tested u i p.said p.said_by h e l

  pub length_tests : length (table_tests (held u)) ≡ before_end u
  unfolding tests_from
  length_tests = go (started 0 0) 0 lines ∙ length_lines weighted u
    where
      go : (s : Sheet) (k : ℕ) (ls : List Line) → length (tests_from s k ls) ≡ length ls
      go s k [] = refl
      go s k (l ∷ ls) = ap suc (go (make weighted s l.letter l.fields) (suc k) ls)

  after_all : (k : ℕ) → before_end u ≤ k → line_tests u k ≡ []
  after_all k h = get_or-eq_default (table_tests (held u)) [] (omega (arith, length_tests))

  line_tests_lem : (k : ℕ) (e : Entry) → LineOf u k e → line_tests u k ≡ tests_of u e
  unfolding body tests_from tests
  line_tests_lem k Head h = rw (h, zeros_replicate 2)
  line_tests_lem k (Entry.Gate i) (l, h) = rw h (after_head i (omega arith) (Entry.Gate i) (l, refl))
  line_tests_lem k (Rule i) (l, h) = rw h (after_head (word u 2 + i) (omega arith) (Rule i) (l, refl))
  line_tests_lem k (Wish i) (l, h) = rw h (after_head (word u 2 + (word u 3 + i)) (omega arith) (Wish i) (l, refl))
  line_tests_lem k End h = after_all k (omega arith)

pub fault_of : (u : List ℕ) (k : ℕ) (e : Entry) → LineOf u k e → (r : Result Unit Refusal) → Tested (tests_of u e) r → Tested (line_tests u k) r
fault_of u k e h r f = subst (λ ts. Tested ts r) (sym (line_tests_lem u k e h)) f
