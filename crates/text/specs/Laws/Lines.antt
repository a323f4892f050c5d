-- What the steps over the head and the rule lines give is put together. Assumes nothing.
-- A theorem that was given stays, though nothing cites it: `rule_asked`.
use Rattle.std.proofs.Common.{ℕ, suc, ◌+◌, ◌≤◌, ◌<◌, arith, Bool, Option, None, Some, Result, Ok, Err, cond, ◌&&◌, ◌≢◌, ◌≡◌, true, false, List, [], ◌∷◌, ◌++◌, append_assoc, append-nil, refl, sym, ap, ap₂, subst, ◌∙◌, eqb, leb, ltb, length, length-append, eqb-true}
use Rattle.std.proofs.lemmas.Bool.{eqb-false}
use Prim.Native.Char.{code}
use Rattle.std.specs.Option.{option_or, option_map}
use Rattle.std.specs.Result.{result_and, result_err}
use Rattle.scope.specs.Sheet.{Sheet, sheet, Wish, All, most_switches, most_faults, most_gates, most_rules}
use Rattle.scope.specs.Causes.{Test, Met, First}
use Rattle.scope.specs.Causes as causes
use Rattle.scope.specs.Text.{bytes}
use Rattle.scope.specs.Typed.{Formula, Typed, typed, ors, most_nested, operators, point, gates_of, all_gates, all_points, known, rule_tests, wish_tests, line_tests, sheet_of}
use Rattle.scope.specs.Texts.{FirstLine, here, later}
use Rattle.scope.specs.Parsing.{line, first, head, nested, State, word, digits, switches, faults, rule_line, operand, after, add_rule, start, number_done, move, step}
use Rattle.scope.proofs.Laws.Alls.{all_append}
use Rattle.scope.proofs.Laws.Lists.{length_snoc}
use Rattle.scope.proofs.Laws.TypedSheets.{length_gates}
use Rattle.words.specs.Entries.{RulePut}
use Rattle.words.specs.Refusals.{number_of, Tested}
use Rattle.words.specs.declared.refusal.Refusal.{Refusal}
use Rattle.words.specs.declared.refusal.Refusal.TheVariants.{Range}
use Rattle.scanner.specs.Look.{look, skip}
use Rattle.scanner.specs.Tokens.{StuckAt, Came, WordRead, NamedRead}
use Rattle.formula.specs.Formulas.{Good, Halted, OrsCome, Asked, and_sign, or_sign, sign_at, moved, ended_of, fed_of}
use Rattle.scanner.specs.Laws.Walks.{stands, came_came, came_stuck, alike_within}
use Rattle.formula.specs.Laws.Signs.{feed_walk, feed_stuck}
use Rattle.formula.specs.declared.parsed.Parsed.{Parsed}
use Rattle.formula.specs.declared.points.Points.{Points}
use Rattle.scanner.specs.declared.token.Digits.TheVariants.{Two}
use Rattle.scanner.specs.declared.token.Stuck.{Stuck}
use Rattle.scanner.specs.declared.token.Token.{Token}
use Rattle.text.specs.Lines.{Faulted, FirstOf, HeadRead, room_tests, rule_letter, RulesTold, WithRule}
use Rattle.text.specs.declared.lines.Fault.{Fault}
use Rattle.text.specs.declared.lines.Lines.{Lines}

-- ---- the first fault

fault_before : {c k : ℕ} {rss : List (List Test)} (more : List (List Test)) → FirstLine c k rss → FirstLine c k (rss ++ more)
fault_before more (here f) = here f
fault_before more (later m f) = later m (fault_before more f)

fault_after : {c : ℕ} (rss : List (List Test)) (rs : List Test) → All Met rss → First c rs → FirstLine c (length rss + 1) (rss ++ rs ∷ [])
fault_after [] rs m f = here f
fault_after {c} (qs ∷ rss) rs (m, ms) f = subst (λ k. FirstLine c k (qs ∷ rss ++ rs ∷ [])) (omega arith) (later m (fault_after rss rs ms f))

abbrev pub fault : Refusal → ℕ → Fault
fault e n = record { refusal = e; line = n }

module _ (rss : List (List Test)) (rs : List Test) where
  -- an earlier line has a fault
  pub faulted_before : (f : Fault) → Faulted rss (Some f) → Faulted (rss ++ rs ∷ []) (Some f)
  faulted_before f h = fault_before (rs ∷ []) h

  pub faulted_here : Faulted rss None → (r : Result (Unit {0}) Refusal) (k : ℕ) → Tested rs r → k ≡ length rss + 1 → Faulted (rss ++ rs ∷ []) (option_map (λ (e : Refusal). fault e k) (result_err r))
  faulted_here h (Ok u) k g e = all_append Met rss (rs ∷ []) h (g, tt)
  faulted_here h (Err r) k g e = rw e (fault_after rss rs h g)

-- that of an earlier line, and after none the line's own
pub first_fault : (f : Option Fault) (r : Result (Unit {0}) Refusal) (n : ℕ) → FirstOf f r n (option_or f (option_map (λ (e : Refusal). fault e n) (result_err r)))
first_fault (Some f) r n = λ rss rs h g e. faulted_before rss rs f h
first_fault None r n = λ rss rs h g e. faulted_here rss rs h r n g e

-- ---- tests, one before the other

-- what a test gives
abbrev required : Bool → Refusal → Result (Unit {0}) Refusal
required met r = cond met (Ok tt) (Err r)

pub last_test : (n : ℕ) (met : Bool) (r : Refusal) → number_of r ≡ n → Tested ((n, met) ∷ []) (required met r)
last_test n true r e = (refl, tt)
last_test n false r e = rw e causes.here

pub test_stops : (n : ℕ) (met : Bool) (ts : List Test) (r e : Refusal) → number_of r ≡ n → Err e ≡ required met r → First (number_of e) ((n, met) ∷ ts)
test_stops n true ts r e d q = cc
test_stops n false ts r e d q = let z : e ≡ r = cc in rw (z, d) causes.here

pub test_met : (n : ℕ) (met : Bool) (ts : List Test) (r : Refusal) (u : Unit {0}) → Ok u ≡ required met r → (t : Result Unit Refusal) → Tested ts t → Tested ((n, met) ∷ ts) t
test_met n true ts r u q (Ok v) h = (refl, h)
test_met n true ts r u q (Err e) h = causes.later h
test_met n false ts r u q t h = cc

-- tests behind others
pub tests_and : (ts us : List Test) (t u : Result (Unit {0}) Refusal) → Tested ts t → Tested us u → Tested (ts ++ us) (result_and t u)
tests_and [] us (Ok x) u g h = h
tests_and [] us (Err e) u g h = elim g [ ]
tests_and ((n, b) ∷ ts) us (Ok x) (Ok y) g h = (g.0, tests_and ts us (Ok x) (Ok y) g.1 h)
tests_and ((n, b) ∷ ts) us (Ok x) (Err e) g h = rw g.0 (causes.later (tests_and ts us (Ok x) (Err e) g.1 h))
tests_and ((n, b) ∷ ts) us (Err e) u causes.here h = causes.here
tests_and ((n, b) ∷ ts) us (Err e) u (causes.later g) h = causes.later (tests_and ts us (Err e) u g h)

-- ---- the first two lines

module _ {s : List ℕ} where
  module _ {a : Token} (ha : NamedRead s (bytes "switches ") true Two 0 (Ok a)) where
    to_faults : Came s start 0 (word (bytes "\nfaults ") (digits (faults a.value))) a.at
    unfolding number_done
    to_faults = ha.came switches refl refl

    pub faults_within : a.at ≤ length s
    faults_within = to_faults.within

    pub faults_bad : {e : Stuck} → NamedRead s (bytes "\nfaults ") true Two a.at (Err e) → HeadRead s (Err e)
    faults_bad h = came_stuck to_faults (h (faults a.value) refl)

    module _ {f : Token} (hf : NamedRead s (bytes "\nfaults ") true Two a.at (Ok f)) where
      -- past both numbers a line feed is looked for
      to_feed : Came s start 0 (word (bytes "\n") (rule_line (typed a.value f.value [] []))) f.at
      unfolding number_done
      to_feed = came_came to_faults (hf.came (faults a.value) refl refl)

      pub feed_within : f.at ≤ length s
      feed_within = to_feed.within

      pub feed_bad : {e : Stuck} → WordRead s (bytes "\n") f.at (Err e) → HeadRead s (Err e)
      feed_bad h = came_stuck to_feed (h (rule_line (typed a.value f.value [] [])))

      -- and the head with these two numbers is read
      pub head_read : {n : ℕ} → WordRead s (bytes "\n") f.at (Ok n) → Came s start 0 (rule_line (typed a.value f.value [] [])) n
      head_read w = came_came to_feed (w (rule_line (typed a.value f.value [] [])))

-- as lines: no fault stands before them
pub head_fault : (a f : ℕ) (one two : Option Fault) → FirstOf None (required (leb a most_switches) Range) 1 one → FirstOf one (required (leb f most_faults) Range) 2 two → Faulted (line_tests (typed a f [] [])) two
unfolding line_tests rule_tests wish_tests
head_fault a f one two g h =
    let k = g [] ((4, leb a most_switches) ∷ []) tt (last_test 4 (leb a most_switches) Range refl) refl in
    h (((4, leb a most_switches) ∷ []) ∷ []) ((4, leb f most_faults) ∷ []) k (last_test 4 (leb f most_faults) Range refl) refl

-- ---- one more rule in the sheet: m gates and j rules stand before it

module _ (a f : ℕ) where
  abbrev rule_line_tests : (m j : ℕ) → Formula → List Test
  rule_line_tests m j x = (5, leb (m + operators x) most_gates && ltb j most_rules) ∷ (6, known a f x) ∷ []

  -- the gates of the rules after the first
  later_gates : (n : ℕ) (y : Formula) (ys : List Formula) (m : ℕ) → n + length (all_gates a f n (y ∷ ys)) ≡ m → n + operators y + length (all_gates a f (n + operators y) ys) ≡ m
  unfolding all_gates
  later_gates n y ys m e = omega (arith, length-append (gates_of a f n y) (all_gates a f (n + operators y) ys), length_gates a f n y)

  no_gates : (n m : ℕ) → n + length (all_gates a f n []) ≡ m → n ≡ m
  unfolding all_gates
  no_gates n m e = omega arith

  module _ (x : Formula) where
    tests_snoc : (n i : ℕ) (ys : List Formula) (m j : ℕ) → n + length (all_gates a f n ys) ≡ m → i + length ys ≡ j → rule_tests a f n i (ys ++ x ∷ []) ≡ rule_tests a f n i ys ++ rule_line_tests m j x ∷ []
    unfolding rule_tests
    tests_snoc n i [] m j e d = let q : i ≡ j = omega arith in ap₂ (λ m j. rule_line_tests m j x ∷ []) (no_gates n m e) q
    tests_snoc n i (y ∷ ys) m j e d = ap (λ l. rule_line_tests n i y ∷ l) (tests_snoc (n + operators y) (suc i) ys m j (later_gates n y ys m e) (omega arith))

    gates_snoc : (n : ℕ) (ys : List Formula) (m : ℕ) → n + length (all_gates a f n ys) ≡ m → all_gates a f n (ys ++ x ∷ []) ≡ all_gates a f n ys ++ gates_of a f m x
    unfolding all_gates
    gates_snoc n [] m e = append-nil (gates_of a f n x) ∙ ap (λ m. gates_of a f m x) (no_gates n m e)
    gates_snoc n (y ∷ ys) m e = ap (λ l. gates_of a f n y ++ l) (gates_snoc (n + operators y) ys m (later_gates n y ys m e)) ∙ sym (append_assoc (gates_of a f n y) (all_gates a f (n + operators y) ys) (gates_of a f m x))

    points_snoc : (n : ℕ) (ys : List Formula) (m : ℕ) → n + length (all_gates a f n ys) ≡ m → all_points a f n (ys ++ x ∷ []) ≡ all_points a f n ys ++ point a f m x ∷ []
    unfolding all_points
    points_snoc n [] m e = ap (λ m. point a f m x ∷ []) (no_gates n m e)
    points_snoc n (y ∷ ys) m e = ap (λ l. point a f n y ∷ l) (points_snoc (n + operators y) ys m (later_gates n y ys m e))

    lines_snoc : (ys : List Formula) (m j : ℕ) → length (all_gates a f 0 ys) ≡ m → length ys ≡ j → line_tests (typed a f (ys ++ x ∷ []) []) ≡ line_tests (typed a f ys []) ++ rule_line_tests m j x ∷ []
    unfolding line_tests wish_tests
    lines_snoc ys m j e d = ap (λ l. ((4, leb a most_switches) ∷ []) ∷ ((4, leb f most_faults) ∷ []) ∷ l)
        (append-nil (rule_tests a f 0 0 (ys ++ x ∷ [])) ∙ tests_snoc 0 0 ys m j (omega arith) (omega arith) ∙ ap (λ l. l ++ rule_line_tests m j x ∷ []) (sym (append-nil (rule_tests a f 0 0 ys))))

  rule_count : (n i : ℕ) (ys : List Formula) → length (rule_tests a f n i ys) ≡ length ys
  unfolding rule_tests
  rule_count n i [] = refl
  rule_count n i (y ∷ ys) = ap suc (rule_count (n + operators y) (suc i) ys)

  wish_count : (j : ℕ) (ws : List Wish) → length (wish_tests a f j ws) ≡ length ws
  unfolding wish_tests
  wish_count j [] = refl
  wish_count j (w ∷ ws) = ap suc (wish_count (suc j) ws)

  pub line_count_lem : (ys : List Formula) (ws : List Wish) → length (line_tests (typed a f ys ws)) ≡ 2 + length ys + length ws
  unfolding line_tests
  line_count_lem ys ws = omega (arith, length-append (rule_tests a f 0 0 ys) (wish_tests a f 0 ws), rule_count 0 0 ys, wish_count 0 ws)

-- ---- a rule line

-- where a rule's line begins, its word is looked for
rule_begins : {s : List ℕ} {v : Typed} {at : ℕ} → look s at ≡ rule_letter → Came s start 0 (rule_line v) at → Came s start 0 (word (bytes "rule ") (operand (head (first (line v))))) at
unfolding step move
rule_begins {s} {v} {at} e c = record {
  ahead = c.ahead;
  within = c.within;
  walk = c.walk ∙ alike_within s (rule_line v) (word (bytes "rule ") (operand (head (first (line v))))) at (stands s at (omega arith)) (rw e);
}

module _ {s : List ℕ} {c : Points} {l : Lines} {u : List ℕ} (h : RulesTold s c l u) where
  abbrev told : Typed
  told = typed c.switches c.faults h.rules []

  abbrev formula : State
  formula = operand (head (first (line told)))

  to_word : look s l.at ≡ rule_letter → Came s start 0 (word (bytes "rule ") formula) l.at
  to_word begins = rule_begins begins h.told.came

  pub rule_word_bad : look s l.at ≡ rule_letter → {e : Stuck} → WordRead s (bytes "rule ") l.at (Err e) → StuckAt s start 0 e.0
  rule_word_bad begins w = came_stuck (to_word begins) (w formula)

  module _ (begins : look s l.at ≡ rule_letter) {at : ℕ} (w : (st : State) → Came s (word (bytes "rule ") st) l.at st at) where
    to_formula : Came s start 0 formula at
    to_formula = came_came (to_word begins) (w formula)

    -- the gates are at most as many as the bytes before the line, so no more than those before the formula
    pub rule_asked : Asked s l.gates at
    rule_asked = let n : l.at < at = (w formula).ahead in record { within = to_formula.within; short = h.told.short; few = omega (arith, h.told.few) }

    -- a bad line is stuck where its formula is
    pub rule_bad : {n : ℕ} → Halted ors s most_nested at n → StuckAt s start 0 n
    unfolding nested
    rule_bad k = came_stuck to_formula (k.bad (line told) refl)

    module _ {p : Parsed} {v : List ℕ} (hp : Good ors s most_nested c l.gates at p u v) (no-and : sign_at s p.at ≢ and_sign) (no_or : sign_at s p.at ≢ or_sign) where
      -- the formula, and what it is a part of where it ends
      read : OrsCome s (line told) at hp.formula p.at
      unfolding nested
      read = hp.came (line told) refl

      to_end : Came s start 0 (after read.inner read.last) p.at
      to_end = came_came to_formula read.came

      abbrev last : Stuck
      last = record { 0 = skip s p.at }

      -- or where its line feed is missing
      pub fed_stuck : {e : Stuck} → Err e ≡ fed_of s p → StuckAt s start 0 e.0
      unfolding ended_of nested
      fed_stuck {e} = go (eqb (look s p.at) (code "\n")) refl
        where
          go : (t : Bool) → eqb (look s p.at) (code "\n") ≡ t → Err e ≡ cond t (Ok (moved p (p.at + 1))) (Err last) → StuckAt s start 0 e.0
          go true f q = cc
          go false f q =
              let z : e ≡ last = cc in
              rw z (came_stuck to_end (feed_stuck s read.inner read.last p.at told read.around hp.within (eqb-false (look s p.at) (code "\n") f) no-and no_or))

      fed_good : {q : Parsed} → Ok q ≡ fed_of s p → (look s p.at ≡ code "\n") × (q ≡ moved p (p.at + 1))
      unfolding ended_of
      fed_good {q} = go (eqb (look s p.at) (code "\n")) refl
        where
          go : (t : Bool) → eqb (look s p.at) (code "\n") ≡ t → Ok q ≡ cond t (Ok (moved p (p.at + 1))) (Err last) → (look s p.at ≡ code "\n") × (q ≡ moved p (p.at + 1))
          go true f q = (eqb-true (look s p.at) (code "\n") f, cc)
          go false f q = cc

      -- the formula is one more rule: its walk, its gates, its point and its fault come after those of the rules told so far
      pub rule_good : {q : Parsed} {r : Lines} {z : List ℕ} → Ok q ≡ fed_of s p → RulePut q.point v z → WithRule l q r → RulesTold s c r z × (l.at < r.at)
      unfolding sheet_of
      rule_good {q} {r} {z} fed put k =
          let (e, moved-is) = fed_good fed in
          let a : ℕ = c.switches in
          let f : ℕ = c.faults in
          let xs : List Formula = h.rules in
          let x : Formula = hp.formula in
          let gates_are : q.gates ≡ l.gates + operators x = ap (λ q. q.gates) moved-is ∙ hp.built.gates in
          let known_is : q.known ≡ known a f x = ap (λ q. q.known) moved-is ∙ hp.built.known in
          let point_is : q.point ≡ point a f l.gates x = ap (λ q. q.point) moved-is ∙ hp.built.point in
          let at-is : r.at ≡ p.at + 1 = k.at ∙ ap (λ q. q.at) moved-is in
          let stand : p.at < length s = stands s p.at (omega arith) in
          let ahead : operators x + at < p.at = hp.built.ahead in
          let word-ahead : l.at < at = (w formula).ahead in
          let before : length (all_gates a f 0 xs) ≡ l.gates = sym h.told.gates in
          let gates-more : all_gates a f 0 (xs ++ x ∷ []) ≡ all_gates a f 0 xs ++ gates_of a f l.gates x = gates_snoc a f x 0 xs l.gates (omega arith) in
          let points-more : all_points a f 0 (xs ++ x ∷ []) ≡ all_points a f 0 xs ++ q.point ∷ [] = rw point_is (points_snoc a f x 0 xs l.gates (omega arith)) in
          let mid : Sheet = sheet a f (all_gates a f 0 xs ++ gates_of a f l.gates x) (all_points a f 0 xs) [] in
          let row-is : room_tests (leb q.gates most_gates && ltb l.rules most_rules) q.known ≡ rule_line_tests a f l.gates l.rules x = rw (gates_are, known_is) in (
            record {
              rules = xs ++ x ∷ [];
              told = record {
                short = h.told.short;
                few = omega (arith, h.told.few, k.gates, k.rules, k.wishes);
                came = rw at-is (subst (λ y. Came s start 0 (rule_line (add_rule told y)) (p.at + 1)) read.whole (came_came to_end (feed_walk s read.inner read.last p.at told read.around e)));
                gates = k.gates ∙ gates_are ∙ sym (ap length gates-more ∙ length-append (all_gates a f 0 xs) (gates_of a f l.gates x) ∙ ap₂ (λ m n. m + n) before (length_gates a f l.gates x));
                rules = omega (arith, k.rules, h.told.rules, length_snoc xs x);
                wishes = k.wishes ∙ h.told.wishes;
                kept = rw (gates-more, points-more) (put mid (hp.filled (sheet_of told) h.told.kept));
                fault = rw (lines_snoc a f x xs l.gates l.rules before (sym h.told.rules), ← row-is) (k.fault (line_tests (typed a f xs [])) h.told.fault (omega (arith, h.told.rules, h.told.wishes, line_count_lem a f xs [])));
              };
            },
            omega arith,
          )
