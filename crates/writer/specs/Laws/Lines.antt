-- The lines of a held sheet, one by one. Assumes nothing.
use Rattle.std.specs.Prelude.{ℕ, zero, suc, ◌+◌, ◌<◌, List, [], ◌∷◌, ◌++◌, map, ◌≡◌, refl, length, get_or}
use Rattle.std.proofs.Common.{zero-add, suc-add, arith, ◌∙◌, ap}
use Rattle.scope.specs.Sheet.{Sheet, H, Line, line, Layout, gate_line, rule_line, wish_line, end_line, body, sheet_lines}
use Rattle.scope.specs.Words.{word, no_gate, held}
use Rattle.scope.proofs.Laws.Lists.{to_right}
use Rattle.scope.proofs.Laws.Writing.{length_lines}
use Rattle.scope.specs.Words.{no_wish}
use Rattle.words.specs.Laws.Held.{held_gates, held_rules, held_wishes, held_gate, held_rule, held_wish}
use Rattle.writer.specs.Entries.{LineOf}
use Rattle.writer.specs.Lines.{line_of, line_at}
use Rattle.writer.specs.declared.entries.Entry.{Entry}
use Rattle.writer.specs.declared.entries.Entry.TheVariants.{Head, Rule, Wish, End}

-- ---- lines of one kind, and those after them

module _ {X : Type 0} (f : X → Line) (more : List Line) (d : Line) where
  among : (e : X) (xs : List X) (i : ℕ) → i < length xs → get_or (map f xs ++ more) i d ≡ f (get_or xs i e)
  among e [] i h = absurd (omega arith)
  among e (x ∷ xs) zero h = refl
  among e (x ∷ xs) (suc i) h = among e xs i (omega arith)

  past : (xs : List X) (i : ℕ) → get_or (map f xs ++ more) (length xs + i) d ≡ get_or more i d
  past [] i = rw zero-add
  past (x ∷ xs) i = rw suc-add (past xs i)

-- ---- the lines of a sheet

module _ (y : Layout) (t : Sheet) where
  abbrev first : Line
  first = line H []

  abbrev end : List Line
  end = end_line y (length (body y t)) ∷ []

  abbrev wishes : List Line
  wishes = map (wish_line y) t.wishes ++ end

  abbrev rules : List Line
  rules = map (rule_line y) t.rules ++ wishes

  after_head : (i : ℕ) → get_or (sheet_lines y t) (suc i) first ≡ get_or (map (gate_line y) t.gates ++ rules) i first
  unfolding body
  after_head i = ap (λ ls. get_or ls i first) (to_right (map (gate_line y) t.gates) (map (rule_line y) t.rules) (map (wish_line y) t.wishes) end)

  after_gates : (i : ℕ) → get_or (sheet_lines y t) (suc (length t.gates + i)) first ≡ get_or rules i first
  after_gates i = after_head (length t.gates + i) ∙ past (gate_line y) rules first t.gates i

  after_rules : (i : ℕ) → get_or (sheet_lines y t) (suc (length t.gates + (length t.rules + i))) first ≡ get_or wishes i first
  after_rules i = after_gates (length t.rules + i) ∙ past (rule_line y) wishes first t.rules i

-- ---- on the words u, by what line k is of

pub line_is : (y : Layout) (u : List ℕ) (k : ℕ) (e : Entry) → LineOf u k e → line_at y u k ≡ line_of y u e
unfolding body
line_is y u k Head h = rw h
line_is y u k (Entry.Gate i) (h, e) =
    rw e
    (after_head y (held u) i ∙ among (gate_line y) (rules y (held u)) (first y (held u)) no_gate (held u).gates i (omega (arith, held_gates u))
    ∙ ap (gate_line y) (held_gate u i h))
line_is y u k (Rule i) (h, e) =
    rw e
    ((rw (held_gates u) at (after_gates y (held u) i)) ∙ among (rule_line y) (wishes y (held u)) (first y (held u)) 0 (held u).rules i (omega (arith, held_rules u))
    ∙ ap (rule_line y) (held_rule u i h))
line_is y u k (Wish i) (h, e) =
    rw e
    ((rw (held_gates u, held_rules u) at (after_rules y (held u) i)) ∙ among (wish_line y) (end y (held u)) (first y (held u)) no_wish (held u).wishes i (omega (arith, held_wishes u))
    ∙ ap (wish_line y) (held_wish u i h))
line_is y u k End h =
    let i : k ≡ suc (word u 2 + (word u 3 + word u 4)) = omega arith in
    let w : word u 4 ≡ length (held u).wishes + 0 = omega (arith, held_wishes u) in
    ap (line_at y u) i ∙ (rw (held_gates u, held_rules u) at (after_rules y (held u) (word u 4)))
    ∙ ap (λ j. get_or (wishes y (held u)) j (first y (held u))) w ∙ past (wish_line y) (end y (held u)) (first y (held u)) (held u).wishes 0 ∙ ap (end_line y) (length_lines y u)
