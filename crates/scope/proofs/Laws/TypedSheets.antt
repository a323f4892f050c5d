-- The sheet of a typed text whose tests are all met is valid, and what is read from a typed text is a source. Assumes nothing.
use Prim.Native.Nat.{ℕ, suc, ◌+◌, ◌≤◌}
use Rattle.std.proofs.Common.{add-zero, subst}
use native.Mathlib.Omega.{arith}
use Rattle.std.specs.Prelude.{Bool, true, ◌≡◌, leb, ltb}
use mathlib.Core.List.{List, [], ◌∷◌, ◌++◌}
use Rattle.std.proofs.Math.Path.{refl, ap}
use Rattle.std.proofs.Math.ListN.{length, length-append}
use borrow.Author.Tests.{leb-true, ltb-true}
use Rattle.scope.specs.Sheet.{plus, Clause, Gate, Wish, Sheet, All, Among, Names, Ordered, Allowed, Valid, most_switches, most_faults, most_gates, most_rules, most_wishes, most_weight}
use Rattle.scope.specs.Causes.{Test, Met, Read}
use Rattle.scope.specs.Causes as reading
use Rattle.scope.specs.Source.{Refusal, Source}
use Rattle.scope.specs.Meaning.{all}
use Rattle.scope.specs.Typed.{Formula, Typed, Level, Written, RuleLines, WishLines, Legal, most_text, most_number, operators, point, gates_of, all_gates, all_points, known, rule_tests, wish_tests, line_tests, sheet_of}
use Rattle.scope.specs.Texts.{FirstLine, TextRead, too_long, not_legal, at_fault, accepted, TextRefusal, overlong, illegal, switches_out_of_range, faults_out_of_range, too_many, not_on_sheet, wrong_weight}
use Rattle.scope.proofs.Laws.Tests.{both}
use Rattle.scope.proofs.Laws.Alls.{all_append, all_parts}
use Rattle.scope.proofs.Laws.Gates.{ordered_append}
use Rattle.scope.proofs.Laws.Refusals.{first_in}
use Rattle.scope.proofs.Laws.Steps.{point_plus}

-- ---- rules, with a switches and f faults
module _ (a f : ℕ) where
  -- a formula names only switches 1 to a and faults 1 to f
  abbrev pub OnSheet : Formula → Type 0
  OnSheet (Formula.switch k) = Among a k
  OnSheet (Formula.fault k) = Among f k
  OnSheet (Formula.not x) = OnSheet x
  OnSheet (Formula.and x y) = OnSheet x × OnSheet y
  OnSheet (Formula.or x y) = OnSheet x × OnSheet y

  -- no 0 is written, and what is too high fails the test
  written_on_sheet : {l : Level} {d : ℕ} {x : Formula} {s : List ℕ} → Written l d x s → known a f x ≡ true → OnSheet x
  unfolding known
  written_on_sheet (Written.switch {k} (low, high)) e = (low, leb-true k a e)
  written_on_sheet (Written.fault {k} (low, high)) e = (low, leb-true k f e)
  written_on_sheet (Written.not g w) e = written_on_sheet w e
  written_on_sheet (Written.bracket g w h) e = written_on_sheet w e
  written_on_sheet (Written.alone w) e = written_on_sheet w e
  written_on_sheet (Written.and {x} {y} v g h w) e = let (p, q) = both (known a f x) (known a f y) e in (written_on_sheet v p, written_on_sheet w q)
  written_on_sheet (Written.single w) e = written_on_sheet w e
  written_on_sheet (Written.or {x} {y} v g h w) e = let (p, q) = both (known a f x) (known a f y) e in (written_on_sheet v p, written_on_sheet w q)

  -- ---- a formula's gates, n before them

  pub length_gates : (n : ℕ) (x : Formula) → length (gates_of a f n x) ≡ operators x
  unfolding gates_of operators
  length_gates n (Formula.switch k) = refl
  length_gates n (Formula.fault k) = refl
  length_gates n (Formula.not x) = simp length-append (omega (arith, length_gates n x))
  length_gates n (Formula.and x y) = simp length-append (omega (arith, length_gates n x, length_gates (n + operators x) y))
  length_gates n (Formula.or x y) = simp length-append (omega (arith, length_gates n x, length_gates (n + operators x) y))

  -- its point is its last gate's, or one of a switch or fault
  point_among : (n : ℕ) (x : Formula) → OnSheet x → Among (a + f + (n + operators x)) (point a f n x)
  unfolding point operators
  point_among n (Formula.switch k) h = omega arith
  point_among n (Formula.fault k) h = omega arith
  point_among n (Formula.not x) h = omega arith
  point_among n (Formula.and x y) h = omega arith
  point_among n (Formula.or x y) h = omega arith

  -- a gate of two formulas, after theirs
  two_among : (n : ℕ) (x y : Formula) → OnSheet x → OnSheet y → Among (a + f + (n + operators x + operators y)) (point a f n x) × Among (a + f + (n + operators x + operators y)) (point a f (n + operators x) y)
  two_among n x y h i = omega (arith, point_among n x h, point_among (n + operators x) y i)

  two_ordered : (n : ℕ) (x y : Formula) (g : Gate) → Ordered (a + f + n) (gates_of a f n x) → Ordered (a + f + (n + operators x)) (gates_of a f (n + operators x) y) → Names (a + f + (n + operators x + operators y)) g → Ordered (a + f + n) (gates_of a f n x ++ gates_of a f (n + operators x) y ++ g ∷ [])
  two_ordered n x y g h i p =
      let m : ℕ = n + operators x in
      let e : length (gates_of a f n x) ≡ operators x = length_gates n x in
      let d : length (gates_of a f m y) ≡ operators y = length_gates m y in
      ordered_append (a + f + n) (a + f + (m + operators y)) (gates_of a f n x ++ gates_of a f m y) (g ∷ []) (simp length-append (omega arith))
      (ordered_append (a + f + n) (a + f + m) (gates_of a f n x) (gates_of a f m y) (omega arith) h i) (p, tt)

  gates_ordered : (n : ℕ) (x : Formula) → OnSheet x → Ordered (a + f + n) (gates_of a f n x)
  unfolding gates_of
  gates_ordered n (Formula.switch k) h = tt
  gates_ordered n (Formula.fault k) h = tt
  gates_ordered n (Formula.not x) h = ordered_append (a + f + n) (a + f + (n + operators x)) (gates_of a f n x) (Gate.not (point a f n x) ∷ []) (omega (arith, length_gates n x)) (gates_ordered n x h) (point_among n x h, tt)
  gates_ordered n (Formula.and x y) (h, i) = two_ordered n x y (Gate.and (point a f n x) (point a f (n + operators x) y)) (gates_ordered n x h) (gates_ordered (n + operators x) y i) (two_among n x y h i)
  gates_ordered n (Formula.or x y) (h, i) = two_ordered n x y (Gate.or (point a f n x) (point a f (n + operators x) y)) (gates_ordered n x h) (gates_ordered (n + operators x) y i) (two_among n x y h i)

  -- ---- those of several, one after the other

  pub length_points : (n : ℕ) (xs : List Formula) → length (all_points a f n xs) ≡ length xs
  unfolding all_points
  length_points n [] = refl
  length_points n (x ∷ xs) = ap suc (length_points (n + operators x) xs)

  pub all_ordered : (n : ℕ) (xs : List Formula) → All OnSheet xs → Ordered (a + f + n) (all_gates a f n xs)
  unfolding all_gates
  all_ordered n [] h = tt
  all_ordered n (x ∷ xs) (h, hs) = ordered_append (a + f + n) (a + f + (n + operators x)) (gates_of a f n x) (all_gates a f (n + operators x) xs) (omega (arith, length_gates n x)) (gates_ordered n x h) (all_ordered (n + operators x) xs hs)

  -- on a sheet of m gates
  points_among : (m n : ℕ) (xs : List Formula) → n + length (all_gates a f n xs) ≤ m → All OnSheet xs → All (Among (a + f + m)) (all_points a f n xs)
  unfolding all_gates all_points
  points_among m n [] l h = tt
  points_among m n (x ∷ xs) l (h, hs) =
      let e : n + operators x + length (all_gates a f (n + operators x) xs) ≤ m = omega (arith, length_gates n x, length-append (gates_of a f n x) (all_gates a f (n + operators x) xs)) in
      (omega (arith, point_among n x h), points_among m (n + operators x) xs e hs)

  -- ---- what their tests say, i rules before them

  -- that of 5
  rules_few : (n i : ℕ) (xs : List Formula) → n ≤ most_gates → i ≤ most_rules → All Met (rule_tests a f n i xs) → (n + length (all_gates a f n xs) ≤ most_gates) × (i + length xs ≤ most_rules)
  unfolding rule_tests all_gates
  rules_few n i [] g r m = omega arith
  rules_few n i (x ∷ xs) g r ((c, k), m) =
      let (d, e) = both (leb (n + operators x) most_gates) (ltb i most_rules) c in
      let h : suc i ≤ most_rules = ltb-true i most_rules e in
      omega (arith, rules_few (n + operators x) (suc i) xs (leb-true (n + operators x) most_gates d) h m, length_gates n x, length-append (gates_of a f n x) (all_gates a f (n + operators x) xs))

  -- that of 6
  formulas_on_sheet : (n i : ℕ) {xs : List Formula} {s : List ℕ} → RuleLines xs s → All Met (rule_tests a f n i xs) → All OnSheet xs
  unfolding rule_tests
  formulas_on_sheet n i RuleLines.none m = tt
  formulas_on_sheet n i (RuleLines.next {x} w r) ((c, (k, t)), m) = (written_on_sheet w k, formulas_on_sheet (n + operators x) (suc i) r m)

-- ---- wishes, j before them

literals_among : (a : ℕ) (w : Clause) → All (λ x. Among most_number x.size) w → all w (λ x. leb x.size a) ≡ true → All (λ x. Among a x.size) w
literals_among a [] h e = tt
literals_among a (x ∷ w) ((low, high), h) e = let (p, q) = both (leb x.size a) (all w (λ x. leb x.size a)) e in ((low, leb-true x.size a p), literals_among a w h q)

module _ (a f : ℕ) where
  -- that of 5
  wishes_few : (j : ℕ) (ws : List Wish) → j ≤ most_wishes → All Met (wish_tests a f j ws) → j + length ws ≤ most_wishes
  unfolding wish_tests
  wishes_few j [] l m = omega arith
  wishes_few j (w ∷ ws) l ((c, k), m) = omega (arith, wishes_few (suc j) ws (ltb-true j most_wishes c) m)

  -- those of 6 and 14
  wishes_allowed : (j : ℕ) {ws : List Wish} {s : List ℕ} → WishLines ws s → All Met (wish_tests a f j ws) → All (Allowed a) ws
  unfolding wish_tests
  wishes_allowed j WishLines.none m = tt
  wishes_allowed j (WishLines.next {w} (some, few, among) h r) ((c, (k, (i, t))), m) = (record { few = few; literals = literals_among a w.clause among k; weight = (point_plus most_weight (plus w.weight) i).1 }, wishes_allowed (suc j) r m)

-- ---- the sheet

pub rules_on_sheet : (v : Typed) (s : List ℕ) → Legal v s → All Met (line_tests v) → All (OnSheet v.switches v.faults) v.rules
unfolding line_tests
rules_on_sheet v s l (p, (q, m)) = formulas_on_sheet v.switches v.faults 0 0 l.written (all_parts Met (rule_tests v.switches v.faults 0 0 v.rules) (wish_tests v.switches v.faults 0 v.wishes) m).0

sheet_valid : (v : Typed) (s : List ℕ) → Legal v s → All Met (line_tests v) → Valid (sheet_of v)
unfolding line_tests sheet_of
sheet_valid v s l m =
    let a : ℕ = v.switches in
    let f : ℕ = v.faults in
    let (r, w) = all_parts Met (rule_tests a f 0 0 v.rules) (wish_tests a f 0 v.wishes) m.1.1 in
    let (gates, rules) = rules_few a f 0 0 v.rules (omega arith) (omega arith) r in
    let known : All (OnSheet a f) v.rules = rules_on_sheet v s l m in
    record {
      switches = leb-true a most_switches m.0.0;
      faults = leb-true f most_faults m.1.0.0;
      few_gates = omega arith;
      few_rules = omega (arith, length_points a f 0 v.rules);
      few_wishes = omega (arith, wishes_few a f 0 v.wishes (omega arith) w);
      gates = rw add-zero at (all_ordered a f 0 v.rules known);
      rules = points_among a f (length (all_gates a f 0 v.rules)) 0 v.rules (omega arith) known;
      wishes = wishes_allowed a f 0 l.wished w;
    }

-- ---- a refusal's place: a line is at least its line feed, so a text has no more lines than bytes

module _ (a f : ℕ) where
  rules_long : (n i : ℕ) {xs : List Formula} {s : List ℕ} → RuleLines xs s → length (rule_tests a f n i xs) ≤ length s
  unfolding rule_tests
  rules_long n i RuleLines.none = omega arith
  rules_long n i (RuleLines.next {x} w r) = simp length-append (omega (arith, rules_long (n + operators x) (suc i) r))

  wishes_long : (j : ℕ) {ws : List Wish} {s : List ℕ} → WishLines ws s → length (wish_tests a f j ws) ≤ length s
  unfolding wish_tests
  wishes_long j WishLines.none = omega arith
  wishes_long j (WishLines.next h i r) = simp length-append (omega (arith, wishes_long (suc j) r))

lines_long : (v : Typed) (s : List ℕ) → Legal v s → length (line_tests v) ≤ length s
unfolding line_tests
lines_long v s l = rw l.text (simp length-append (omega (arith, rules_long v.switches v.faults 0 0 l.written, wishes_long v.switches v.faults 0 l.wished)))

fault_within : {c k : ℕ} {rss : List (List Test)} → FirstLine c k rss → k ≤ length rss
fault_within (FirstLine.here f) = omega arith
fault_within (FirstLine.later m f) = omega (arith, fault_within f)

-- ---- its number: 4 on the first two lines, then 5, 6 or 14

abbrev Later : List Test → Type 0
Later ts = All (λ x. (k : ℕ) → TextRefusal x.0 (suc (suc (suc k))) 0) ts

module _ (a f : ℕ) where
  rule_numbers : (n i : ℕ) (xs : List Formula) → All Later (rule_tests a f n i xs)
  unfolding rule_tests
  rule_numbers n i [] = tt
  rule_numbers n i (x ∷ xs) = ((λ k. too_many, (λ k. not_on_sheet, tt)), rule_numbers (n + operators x) (suc i) xs)

  wish_numbers : (j : ℕ) (ws : List Wish) → All Later (wish_tests a f j ws)
  unfolding wish_tests
  wish_numbers j [] = tt
  wish_numbers j (w ∷ ws) = ((λ k. too_many, (λ k. not_on_sheet, (λ k. wrong_weight, tt))), wish_numbers (suc j) ws)

fault_later : {c j : ℕ} {tss : List (List Test)} → FirstLine c j tss → All Later tss → (k : ℕ) → TextRefusal c (suc (suc k) + j) 0
fault_later {c} (FirstLine.here {rs} f) (n, ns) k = subst (λ m. TextRefusal c m 0) (omega arith) (first_in (λ c. (k : ℕ) → TextRefusal c (suc (suc (suc k))) 0) rs n f k)
fault_later {c} (FirstLine.later m f) (n, ns) k = subst (λ m. TextRefusal c m 0) (omega arith) (fault_later f ns (suc k))

-- past the line of faults, and that of switches
past_faults : {c j : ℕ} {b : Bool} {tss : List (List Test)} → All Later tss → FirstLine c j (((4, b) ∷ []) ∷ tss) → TextRefusal c (suc j) 0
past_faults {b} n (FirstLine.here f) = rw (first_in (λ c. c ≡ 4) ((4, b) ∷ []) (refl, tt) f) faults_out_of_range
past_faults {c} n (FirstLine.later {k} m f) = subst (λ m. TextRefusal c m 0) (omega arith) (fault_later f n 0)

past_switches : {c j : ℕ} {b d : Bool} {tss : List (List Test)} → All Later tss → FirstLine c j (((4, b) ∷ []) ∷ ((4, d) ∷ []) ∷ tss) → TextRefusal c j 0
past_switches {b} n (FirstLine.here f) = rw (first_in (λ c. c ≡ 4) ((4, b) ∷ []) (refl, tt) f) switches_out_of_range
past_switches n (FirstLine.later m f) = past_faults n f

fault_number : {c j : ℕ} (v : Typed) → FirstLine c j (line_tests v) → TextRefusal c j 0
unfolding line_tests
fault_number v f =
    let a : ℕ = v.switches in
    let b : ℕ = v.faults in
    past_switches (all_append Later (rule_tests a b 0 0 v.rules) (wish_tests a b 0 v.wishes) (rule_numbers a b 0 0 v.rules) (wish_numbers a b 0 v.wishes)) f

-- ---- the source

pub refusal_number : {s : List ℕ} {c place column : ℕ} → TextRead s (reading.refused c place column) → TextRefusal c place column
refusal_number (too_long h) = overlong
refusal_number (not_legal h l n) = illegal
refusal_number (at_fault {v} h l e) = fault_number v e

-- the place of a text that is not legal is at most one more than its length, and that of a line at most its length
place_small : {s : List ℕ} {c place column : ℕ} → TextRead s (reading.refused c place column) → place ≤ suc most_text
place_small (too_long h) = omega arith
place_small (not_legal h l n) = omega (arith, n.within)
place_small {s} (at_fault {v} h l e) = omega (arith, fault_within e, lines_long v s l)

-- no number of the jobs' own
text_refusal : {c place column : ℕ} → TextRefusal c place column → place ≤ suc most_text → Refusal c place column
text_refusal overlong h = record { some = omega arith; own = λ e. omega arith; number = omega arith; place = omega arith; column = omega arith }
text_refusal illegal h = record { some = omega arith; own = λ e. omega arith; number = omega arith; place = omega arith; column = omega arith }
text_refusal switches_out_of_range h = record { some = omega arith; own = λ e. absurd (omega arith); number = omega arith; place = omega arith; column = omega arith }
text_refusal faults_out_of_range h = record { some = omega arith; own = λ e. absurd (omega arith); number = omega arith; place = omega arith; column = omega arith }
text_refusal too_many h = record { some = omega arith; own = λ e. absurd (omega arith); number = omega arith; place = omega arith; column = omega arith }
text_refusal not_on_sheet h = record { some = omega arith; own = λ e. absurd (omega arith); number = omega arith; place = omega arith; column = omega arith }
text_refusal wrong_weight h = record { some = omega arith; own = λ e. omega arith; number = omega arith; place = omega arith; column = omega arith }

text_valid : {s : List ℕ} {t : Sheet} → TextRead s (reading.accepted t) → Valid t
text_valid {s} (accepted {v} h l m) = sheet_valid v s l m

pub reads_source : (s : List ℕ) (r : Read) → TextRead s r → Source r
reads_source s r h = record {
  valid = λ t e. text_valid (rw e at h);
  refusal = λ c place column e. text_refusal (refusal_number (rw e at h)) (place_small (rw e at h));
}
