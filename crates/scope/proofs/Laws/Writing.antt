-- The lines of a held sheet pass their tests exactly if it is valid; how many they are, and how long the sheet is. Assumes nothing.
use Rattle.std.specs.Prelude.{ℕ, zero, suc, ◌+◌, ◌-◌, ◌*◌, ◌≤◌, ◌<◌, Bool, true, cond, ◌&&◌, ◌≢◌, ◌≡◌, refl, length, take, replicate}
use Rattle.std.proofs.Common.{add-zero, arith, sym, ap, ap₂, subst, ◌∙◌, length-append}
use Rattle.std.proofs.Math.Bool.{false}
use mathlib.Core.List.{List, [], ◌∷◌, ◌++◌, map, append_assoc, append-nil}
use Rattle.std.proofs.Math.Dec.{eqb}
use borrow.Author.Tests.{eqb-false, ne_eqb}
use Rattle.scope.specs.Sheet.{Number, plus, Clause, Gate, Wish, wish, Sheet, sheet, H, W, Line, Layout, weighted, field_count, filled, gate_line, rule_line, wish_line, end_line, body, sheet_lines, sheet_bytes, most_literals, All, Valid}
use Rattle.scope.specs.Causes.{is, zeros, literal, literals, clause, tests, started, add_gate, add_wish, make, line_count, line_size, Met}
use Rattle.scope.specs.Reading.{tests_at}
use Rattle.scope.specs.Words.{word, literal_code, literal_from, clause_of, wish_size, wishes_from, gate_at, rule_at, wish_at, held}
use Rattle.scope.specs.Writing.{tests_from, table_tests}
use Rattle.scope.proofs.Laws.Tests.{clash, both}
use Rattle.scope.proofs.Laws.Lists.{length_snoc}
use Rattle.scope.proofs.Laws.Alls.{all_true}
use Rattle.scope.proofs.Laws.Entries.{length_entries, all_entries}
use Rattle.scope.proofs.Laws.Words.{code_from}
use Rattle.scope.proofs.Laws.Scans.{before, Passed}
use Rattle.scope.proofs.Laws.Refusals.{accepted_iff}
use Rattle.scope.proofs.Laws.Steps.{is_plus, three_fields, Step, more, done, step, Head, head_step}
use Rattle.scope.proofs.Laws.Inverse.{From, then, from_text, length_text, length_filled, clause_part, weight_part, length_body, good_lines, count, read_iff}

-- ---- a valid sheet passes, since it is accepted when its lines are read

module _ (s : List ℕ) (passed : (k : ℕ) → k < line_count 4 s → Passed weighted s k) where
  lines_pass : (z : ℕ) (ls : List Line) (k : ℕ) → From weighted s k (ls ++ end_line weighted z ∷ []) → suc (k + length ls) ≡ line_count 4 s → All Met (tests_from (before weighted s k) k ls)
  unfolding before tests_at tests_from
  lines_pass z [] k f c = tt
  lines_pass z (l ∷ ls) k (then a f) c =
      let b : eqb (suc k) (line_count 4 s) ≡ false = ne_eqb (suc k) (line_count 4 s) (λ e. omega arith) in
      (rw (a, b) at (passed k (omega arith)), rw a at (lines_pass z ls (suc k) f (omega arith)))

pub valid_passes : (t : Sheet) → Valid t → All Met (table_tests t)
unfolding before
valid_passes t v =
    let s : List ℕ = sheet_bytes weighted t in
    let wide : 3 ≤ field_count weighted = three_fields weighted in
    let (c, e) = (accepted_iff weighted s t).0 ((read_iff weighted s t).1 (refl, v, tt)) in
    lines_pass s c.lines (length (body weighted t)) (body weighted t) 0 (from_text weighted s (sheet_lines weighted t) [] refl tt (good_lines weighted wide t v)) (omega (arith, length_body weighted wide t, count weighted wide t v tt s refl))

-- ---- clauses that words hold: zeros after the last literal are not of the clause

abbrev Ended : Clause → Type 0
Ended [] = Unit {0}
Ended (x ∷ []) = x ≢ plus 0
Ended (x ∷ y ∷ w) = Ended (y ∷ w)

pub record Held (w : Wish) : Type 0 where
  pub short : length w.clause ≤ most_literals
  pub ended : Ended w.clause

literal_there : (c : ℕ) → eqb c 0 ≡ false → literal_from c ≢ plus 0
literal_there c h e = eqb-false c 0 h (sym (code_from c) ∙ ap literal_code e)

clause_held : (x y z n : ℕ) → Held (wish (clause_of x y z) n)
unfolding clause_of
clause_held x y z n = go (eqb x 0) (eqb y 0) (eqb z 0) refl refl refl
  where
    go : (p q r : Bool) → eqb x 0 ≡ p → eqb y 0 ≡ q → eqb z 0 ≡ r → Held (wish (cond r (cond q (cond p [] (literal_from x ∷ [])) (literal_from x ∷ literal_from y ∷ [])) (literal_from x ∷ literal_from y ∷ literal_from z ∷ [])) n)
    go p q false d e f = record { short = omega arith; ended = literal_there z f }
    go p false true d e f = record { short = omega arith; ended = literal_there y e }
    go false true true d e f = record { short = omega arith; ended = literal_there x d }
    go true true true d e f = record { short = omega arith; ended = tt }

pub wishes_held : (u : List ℕ) → All Held (held u).wishes
wishes_held u = all_entries (wish_at u) Held (λ i. clause_held (word u (i * wish_size + wishes_from)) (word u (i * wish_size + (wishes_from + 1))) (word u (i * wish_size + (wishes_from + 2))) (word u (i * wish_size + (wishes_from + 3)))) (word u 4)

-- such a clause is found again before the zeros that fill it up

zeros_ended : (k : ℕ) (w : Clause) → Ended w → zeros (w ++ replicate k (plus 0)) ≡ true → w ≡ []
unfolding zeros
zeros_ended k [] h e = refl
zeros_ended k (x ∷ []) h e = absurd (h (is_plus 0 x (both (is 0 x) (zeros (replicate k (plus 0))) e).0))
zeros_ended k (x ∷ y ∷ w) h e = absurd (omega (arith, ap length (zeros_ended k (y ∷ w) h (both (is 0 x) (zeros (y ∷ w ++ replicate k (plus 0))) e).1)))

ended_tail : (x : Number) (w : Clause) → Ended (x ∷ w) → Ended w
ended_tail x [] h = tt
ended_tail x (y ∷ w) h = h

literals_ended : (a k : ℕ) (w : Clause) → Ended w → literals a (w ++ replicate k (plus 0)) ≡ true → clause (w ++ replicate k (plus 0)) ≡ w
unfolding zeros literals clause
literals_ended a zero [] h e = refl
literals_ended a (suc k) [] h e = refl
literals_ended a k (x ∷ w) h e = go (is 0 x) refl e (literals_ended a k w (ended_tail x w h))
  where
    go : (b : Bool) → is 0 x ≡ b → cond b (zeros (w ++ replicate k (plus 0))) (literal a x && literals a (w ++ replicate k (plus 0))) ≡ true → (literals a (w ++ replicate k (plus 0)) ≡ true → clause (w ++ replicate k (plus 0)) ≡ w) → cond b [] (x ∷ clause (w ++ replicate k (plus 0))) ≡ x ∷ w
    go true i e rest = absurd (omega (arith, ap length (zeros_ended k (x ∷ w) h (rw i e))))
    go false i e rest = ap (λ r. x ∷ r) (rest (both (literal a x) (literals a (w ++ replicate k (plus 0))) e).1)

-- ---- lines that pass are those of a valid sheet

-- one kind of line after another: gates, rules, wishes; more lines come after them
module _ {X : Type 0} (grow : List X → Sheet) (toLine : X → Line) (P : X → Type 0) (counted : (x : X) → P x → length (toLine x).fields ≡ 4) (makes : (vs : List X) (x : X) (k : ℕ) → P x → Met (tests weighted (grow vs) k false (toLine x).letter (toLine x).fields) → make weighted (grow vs) (toLine x).letter (toLine x).fields ≡ grow (vs ++ x ∷ [])) where
  pass : (ls : List Line) (xs : List X) → All P xs → (vs : List X) (k : ℕ) → k ≢ 0 → Valid (grow vs) → All Met (tests_from (grow vs) k (map toLine xs ++ ls)) → Valid (grow (vs ++ xs)) × All Met (tests_from (grow (vs ++ xs)) (k + length xs) ls)
  unfolding tests_from
  pass ls [] p vs k h v m = rw (add-zero, append-nil) (v, m)
  pass ls (x ∷ xs) (p, ps) vs k h v (m, ms) = go (step weighted (three_fields weighted) (grow vs) v k false (toLine x).fields (counted x p) (toLine x).letter h m) (pass ls xs ps (vs ++ x ∷ []) (suc k) (λ e. omega arith))
    where
      e : make weighted (grow vs) (toLine x).letter (toLine x).fields ≡ grow (vs ++ x ∷ [])
      e = makes vs x k p m

      i : k + suc (length xs) ≡ suc k + length xs
      i = omega arith

      go : Step weighted (three_fields weighted) (grow vs) v k false (toLine x).fields (counted x p) (toLine x).letter
          → (Valid (grow (vs ++ x ∷ [])) → All Met (tests_from (grow (vs ++ x ∷ [])) (suc k) (map toLine xs ++ ls)) → Valid (grow (vs ++ x ∷ [] ++ xs)) × All Met (tests_from (grow (vs ++ x ∷ [] ++ xs)) (suc k + length xs) ls))
          → Valid (grow (vs ++ x ∷ xs)) × All Met (tests_from (grow (vs ++ x ∷ xs)) (k + suc (length xs)) ls)
      go (more a w h b) rest = rw (i, ← (append_assoc vs (x ∷ []) xs)) (rest (rw e at w) (rw e at ms))
      go (done a b c) rest = clash a refl

gate_counted : (g : Gate) → length (gate_line weighted g).fields ≡ 4
gate_counted (Gate.not p) = length_filled 4 (plus p ∷ []) (omega arith)
gate_counted (Gate.and p q) = length_filled 4 (plus p ∷ plus q ∷ []) (omega arith)
gate_counted (Gate.or p q) = length_filled 4 (plus p ∷ plus q ∷ []) (omega arith)

pub gate_made : (t : Sheet) (g : Gate) → make weighted t (gate_line weighted g).letter (gate_line weighted g).fields ≡ add_gate t g
unfolding make
gate_made t (Gate.not p) = refl
gate_made t (Gate.and p q) = refl
gate_made t (Gate.or p q) = refl

wish_made : (t : Sheet) (w : Wish) (k : ℕ) → Held w → Met (tests weighted t k false W (wish_line weighted w).fields) → make weighted t W (wish_line weighted w).fields ≡ add_wish t w
unfolding tests make
wish_made t w k h m =
    let p : take most_literals (wish_line weighted w).fields ≡ filled most_literals w.clause = clause_part weighted w h.short in
    let l : literals t.switches (filled most_literals w.clause) ≡ true = rw p at m.1.1.0 in
    ap₂ (λ c n. add_wish t (wish c n)) (ap clause p ∙ literals_ended t.switches (most_literals - length w.clause) w.clause h.ended l) (ap (λ x. x.size) (weight_part weighted w h.short tt))

wish_counted : (w : Wish) → Held w → length (wish_line weighted w).fields ≡ 4
wish_counted w h = length_snoc (filled most_literals w.clause) (plus w.weight) ∙ ap suc (length_filled most_literals w.clause h.short)

-- the head, then the gates, the rules and the wishes
pub passes_valid : (t : Sheet) → All Held t.wishes → All Met (table_tests t) → Valid t
unfolding body tests_from make
passes_valid t h (m, ms) =
    let a : ℕ = t.switches in
    let f : ℕ = t.faults in
    let xs : List Number = filled 4 (plus a ∷ plus f ∷ []) in
    let head : Head weighted false H xs = head_step weighted (three_fields weighted) false H xs (length_filled 4 (plus a ∷ plus f ∷ []) (omega arith)) m in
    let rules : List Line = map (rule_line weighted) t.rules in
    let wishes : List Line = map (wish_line weighted) t.wishes in
    let (vg, mg) = pass (λ vs. sheet a f vs [] []) (gate_line weighted) (λ g. Unit {0}) (λ g p. gate_counted g) (λ vs g k p m. gate_made (sheet a f vs [] []) g) (rules ++ wishes) t.gates (all_true t.gates) [] 1 (λ e. omega arith) head.valid (subst (λ ls. All Met (tests_from (started a f) 1 ls)) (append_assoc (map (gate_line weighted) t.gates) rules wishes) ms) in
    let (vr, mr) = pass (λ vs. sheet a f t.gates vs []) (rule_line weighted) (λ p. Unit {0}) (λ p i. length_filled 4 (plus p ∷ []) (omega arith)) (λ vs p k i m. refl) wishes t.rules (all_true t.rules) [] (1 + length t.gates) (λ e. omega arith) vg mg in
    (pass (λ vs. sheet a f t.gates t.rules vs) (wish_line weighted) Held wish_counted (λ vs w k. wish_made (sheet a f t.gates t.rules vs) w k) [] t.wishes h [] (1 + length t.gates + length t.rules) (λ e. omega arith) vr (subst (λ ls. All Met (tests_from (sheet a f t.gates t.rules []) (1 + length t.gates + length t.rules) ls)) (sym (append-nil wishes)) mr)).0

-- ---- how many lines, and how many bytes

pub length_lines : (y : Layout) (u : List ℕ) → length (body y (held u)) ≡ 1 + word u 2 + word u 3 + word u 4
length_lines y u = omega (arith, length_body y (three_fields y) (held u), length_entries (gate_at u) (word u 2), length_entries (rule_at u) (word u 3), length_entries (wish_at u) (word u 4))

pub sheet_size : (y : Layout) (t : Sheet) → Valid t → length (sheet_bytes y t) ≡ (length (body y t) + 1) * line_size (field_count y)
sheet_size y t v = length_text (field_count y) (sheet_lines y t) (good_lines y (three_fields y) t v) ∙ ap (λ m. m * line_size (field_count y)) (length-append (body y t) (end_line y (length (body y t)) ∷ []))
