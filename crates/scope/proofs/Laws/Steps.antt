-- A line that passes its tests is the next line of a valid sheet, printed. Assumes nothing.
use Rattle.std.specs.Prelude.{ℕ, suc, ◌+◌, ◌-◌, ◌≤◌, ◌<◌, Bool, true, false, cond, not, ◌&&◌, ◌≢◌, ◌≡◌, eqb, leb, ltb, length, take, drop, replicate}
use Rattle.std.proofs.Math.Nat.{sub-zero}
use Rattle.std.proofs.Common.{arith, sym, ap₂, ◌∙◌, length-drop, take-append-drop, drop_of_length-le, take-suc, take_all, drop-cons, length-take-le, eqb-true, leb-true, ltb-true}
use mathlib.Core.List.{List, [], ◌∷◌, ◌++◌, map, append_assoc, append-nil, map-append}
use Rattle.std.proofs.Math.Path.{refl, ap}
use Rattle.std.proofs.lemmas.Bool.{not-true}
use Rattle.scope.specs.Sheet.{Number, number, plus, Clause, Gate, Wish, wish, Sheet, points, Letter, H, N, A, O, R, W, Z, Line, line, Layout, plain, weighted, field_count, filled, weight_field, head_line, gate_line, rule_line, wish_line, end_line, body, most_switches, most_faults, most_gates, most_rules, most_wishes, most_literals, most_weight, All, Among, Names, Allowed, Valid, Sayable}
use Rattle.scope.specs.Causes.{is, up_to, point, literal, zeros, literals, clause, at, weight_on, is_weight, empty, tests, started, add_gate, add_rule, add_wish, make, Met}
use Rattle.scope.proofs.Laws.Tests.{clash, both}
use Rattle.scope.proofs.Laws.Lists.{length_snoc}
use Rattle.scope.proofs.Laws.Alls.{all_snoc}
use Rattle.scope.proofs.Laws.Gates.{ordered_snoc}

-- ---- tests and what they say

pub is_plus : (k : ℕ) (x : Number) → is k x ≡ true → x ≡ plus k
is_plus k x e = go x.minus x.size e
  where
    go : (m : Bool) (j : ℕ) → is k (number m j) ≡ true → number m j ≡ plus k
    go true j e = clash e refl
    go false j e = ap plus (eqb-true j k e)

pub up_plus : (m : ℕ) (x : Number) → up_to m x ≡ true → (x ≡ plus x.size) × (x.size ≤ m)
up_plus m x e = go x.minus x.size e
  where
    go : (b : Bool) (j : ℕ) → up_to m (number b j) ≡ true → (number b j ≡ plus j) × (j ≤ m)
    go true j e = clash e refl
    go false j e = (refl, leb-true j m e)

pub point_plus : (m : ℕ) (x : Number) → point m x ≡ true → (x ≡ plus x.size) × Among m x.size
point_plus m x e =
    let (a, b) = both (up_to m x) (ltb 0 x.size) e in
    let (p, h) = up_plus m x a in
    (p, (ltb-true 0 x.size b, h))

pub empty_nil : {A : Type 0} (s : List A) → empty s ≡ true → s ≡ []
empty_nil [] e = refl
empty_nil (a ∷ s) e = absurd (omega (arith, eqb-true (suc (length s)) 0 e))

-- ---- fields: the used ones, then zeros

zeros_all : (xs : List Number) → zeros xs ≡ true → xs ≡ replicate (length xs) (plus 0)
unfolding zeros
zeros_all [] e = refl
zeros_all (x ∷ xs) e =
    let (p, q) = both (is 0 x) (zeros xs) e in
    ap₂ (λ y ys. y ∷ ys) (is_plus 0 x p) (zeros_all xs q)

take_one : (xs : List Number) → 1 ≤ length xs → take 1 xs ≡ at xs 0 ∷ []
take_one xs h = take-suc xs 0 (plus 0) h

take_two : (xs : List Number) → 2 ≤ length xs → take 2 xs ≡ at xs 0 ∷ at xs 1 ∷ []
take_two xs h = take-suc xs 1 (plus 0) h ∙ ap (λ m. m ++ at xs 1 ∷ []) (take_one xs (omega arith))

module _ (n : ℕ) where
  used_fields : (k : ℕ) (xs : List Number) → length xs ≡ n → k ≤ n → zeros (drop k xs) ≡ true → xs ≡ filled n (take k xs)
  used_fields k xs e h z =
      let l : length (take k xs) ≡ k = length-take-le k xs (omega arith) in
      let d : length (drop k xs) ≡ n - length (take k xs) = omega (arith, length-drop k xs) in
      sym (take-append-drop k xs) ∙ ap (λ r. take k xs ++ r) (zeros_all (drop k xs) z ∙ ap (λ m. replicate m (plus 0)) d)

  one_field : (xs : List Number) (p : ℕ) → length xs ≡ n → 3 ≤ n → at xs 0 ≡ plus p → zeros (drop 1 xs) ≡ true → xs ≡ filled n (plus p ∷ [])
  one_field xs p e h a z = used_fields 1 xs e (omega arith) z ∙ ap (filled n) (take_one xs (omega arith) ∙ ap (λ x. x ∷ []) a)

  two_fields : (xs : List Number) (p q : ℕ) → length xs ≡ n → 3 ≤ n → at xs 0 ≡ plus p → at xs 1 ≡ plus q → zeros (drop 2 xs) ≡ true → xs ≡ filled n (plus p ∷ plus q ∷ [])
  two_fields xs p q e h a b z = used_fields 2 xs e (omega arith) z ∙ ap (filled n) (take_two xs (omega arith) ∙ ap₂ (λ x y. x ∷ y ∷ []) a b)

-- ---- a clause in its fields

-- the literals of xs, then zeros
record Literals (a : ℕ) (xs : List Number) (w : Clause) : Type 0 where
  short : length w ≤ length xs
  literals : All (λ x. Among a x.size) w
  rest : xs ≡ w ++ replicate (length xs - length w) (plus 0)

-- the first 0 ends the literals, and the rest is zeros
literals_clause : (a : ℕ) (xs : List Number) → literals a xs ≡ true → Literals a xs (clause xs)
unfolding literals clause
literals_clause a [] e = record { short = omega arith; literals = tt; rest = refl }
literals_clause a (x ∷ xs) e = go (is 0 x) refl e (literals_clause a xs)
  where
    go : (b : Bool) → is 0 x ≡ b → cond b (zeros xs) (literal a x && literals a xs) ≡ true → (literals a xs ≡ true → Literals a xs (clause xs)) → Literals a (x ∷ xs) (cond b [] (x ∷ clause xs))
    go true h e f = record { short = omega arith; literals = tt; rest = rw sub-zero (ap₂ (λ y ys. y ∷ ys) (is_plus 0 x h) (zeros_all xs e)) }
    go false h e f =
        let (l, r) = both (literal a x) (literals a xs) e in
        let (m, k) = both (leb x.size a) (ltb 0 x.size) l in
        let g : Literals a xs (clause xs) = f r in
        let i : suc (length xs) - suc (length (clause xs)) ≡ length xs - length (clause xs) = omega arith in
        record { short = omega (arith, g.short); literals = ((ltb-true 0 x.size k, leb-true x.size a m), g.literals); rest = ap (λ ys. x ∷ ys) (g.rest ∙ ap (λ j. clause xs ++ replicate j (plus 0)) (sym i)) }

-- ---- a wish in its fields: three for the clause, and one for the weight where the layout has it

-- every layout has room for a clause
pub three_fields : (y : Layout) → 3 ≤ field_count y
three_fields plain = omega arith
three_fields weighted = omega arith

weight_last : (y : Layout) (xs : List Number) → length xs ≡ field_count y → weight_on y xs ≡ plus (weight_on y xs).size → xs ≡ take most_literals xs ++ weight_field y (weight_on y xs).size
weight_last plain xs e p = sym (append-nil (take most_literals xs) ∙ take_all most_literals xs (omega arith))
weight_last weighted xs e p =
    let last : drop most_literals xs ≡ at xs most_literals ∷ [] = drop-cons xs most_literals (plus 0) (omega arith) ∙ ap (λ r. at xs most_literals ∷ r) (drop_of_length-le xs {i = 4} (omega arith)) in
    sym (take-append-drop most_literals xs) ∙ ap (λ r. take most_literals xs ++ r) (last ∙ ap (λ x. x ∷ []) p)

module _ (y : Layout) (a : ℕ) (xs : List Number) (count : length xs ≡ field_count y) where
  abbrev said : Wish
  said = wish (clause (take most_literals xs)) (weight_on y xs).size

  wish_fields : literals a (take most_literals xs) ≡ true → is_weight (weight_on y xs) ≡ true → Allowed a said × (line W xs ≡ wish_line y said)
  wish_fields l h =
      let w : Clause = clause (take most_literals xs) in
      let r : Literals a (take most_literals xs) w = literals_clause a (take most_literals xs) l in
      let three : length (take most_literals xs) ≡ most_literals = length-take-le most_literals xs (omega (arith, three_fields y)) in
      let (p, among) = point_plus most_weight (weight_on y xs) h in (
        record { few = omega (arith, r.short); literals = r.literals; weight = among },
        ap (line W) (weight_last y xs count p ∙ ap (λ m. m ++ weight_field y (weight_on y xs).size) (r.rest ∙ ap (λ k. w ++ replicate (k - length w) (plus 0)) three)),
      )

-- a wish that is read can be said in its layout
said_sayable : (y : Layout) (ws : List Wish) (w : Clause) (xs : List Number) → Sayable y ws → Sayable y (ws ++ wish w (weight_on y xs).size ∷ [])
said_sayable plain ws w xs h = all_snoc (λ w. w.weight ≡ 1) ws (wish w 1) h refl
said_sayable weighted ws w xs h = tt

pub none_sayable : (y : Layout) → Sayable y []
none_sayable plain = tt
none_sayable weighted = tt

-- ---- one more gate, rule or wish: still valid, and one more line

module _ (t : Sheet) (v : Valid t) where
  valid_gate : (g : Gate) → t.rules ≡ [] → length t.gates < most_gates → Names (points t) g → Valid (add_gate t g)
  valid_gate g e h p = record {
    switches = v.switches;
    faults = v.faults;
    few_gates = omega (arith, length_snoc t.gates g);
    few_rules = v.few_rules;
    few_wishes = v.few_wishes;
    gates = ordered_snoc (t.switches + t.faults) t.gates g v.gates p;
    rules = rw e tt;
    wishes = v.wishes;
  }

  valid_rule : (p : ℕ) → length t.rules < most_rules → Among (points t) p → Valid (add_rule t p)
  valid_rule p h q = record {
    switches = v.switches;
    faults = v.faults;
    few_gates = v.few_gates;
    few_rules = omega (arith, length_snoc t.rules p);
    few_wishes = v.few_wishes;
    gates = v.gates;
    rules = all_snoc (Among (points t)) t.rules p v.rules q;
    wishes = v.wishes;
  }

  valid_wish : (w : Wish) → length t.wishes < most_wishes → Allowed t.switches w → Valid (add_wish t w)
  valid_wish w h q = record {
    switches = v.switches;
    faults = v.faults;
    few_gates = v.few_gates;
    few_rules = v.few_rules;
    few_wishes = omega (arith, length_snoc t.wishes w);
    gates = v.gates;
    rules = v.rules;
    wishes = all_snoc (Allowed t.switches) t.wishes w v.wishes q;
  }

map_snoc : {X : Type 0} (f : X → Line) (r : List Line) (s : List X) (a : X) → r ++ map f (s ++ a ∷ []) ≡ r ++ map f s ++ f a ∷ []
map_snoc f r s a = ap (λ m. r ++ m) (map-append f s (a ∷ [])) ∙ sym (append_assoc r (map f s) (f a ∷ []))

-- with nothing after it
map_snoc_nil : {X : Type 0} (f : X → Line) (r : List Line) (s : List X) (a : X) → r ++ map f (s ++ a ∷ []) ++ [] ≡ r ++ map f s ++ [] ++ f a ∷ []
map_snoc_nil f r s a = append-nil (r ++ map f (s ++ a ∷ [])) ∙ map_snoc f r s a ∙ ap (λ m. m ++ f a ∷ []) (sym (append-nil (r ++ map f s)))

module _ (y : Layout) (t : Sheet) where
  body_gate : (g : Gate) → t.rules ≡ [] → t.wishes ≡ [] → body y (add_gate t g) ≡ body y t ++ gate_line y g ∷ []
  unfolding body
  body_gate g e f =
      let r : List Line = head_line y t.switches t.faults ∷ map (gate_line y) t.gates ++ [] in
      rw (e, f) (ap (λ m. m ++ []) (map_snoc_nil (gate_line y) (head_line y t.switches t.faults ∷ []) t.gates g) ∙ append-nil (r ++ gate_line y g ∷ []) ∙ ap (λ m. m ++ gate_line y g ∷ []) (sym (append-nil r)))

  body_rule : (p : ℕ) → t.wishes ≡ [] → body y (add_rule t p) ≡ body y t ++ rule_line y p ∷ []
  unfolding body
  body_rule p f = rw f (map_snoc_nil (rule_line y) (head_line y t.switches t.faults ∷ map (gate_line y) t.gates) t.rules p)

  body_wish : (w : Wish) → body y (add_wish t w) ≡ body y t ++ wish_line y w ∷ []
  unfolding body
  body_wish w = map_snoc (wish_line y) (head_line y t.switches t.faults ∷ map (gate_line y) t.gates ++ map (rule_line y) t.rules) t.wishes w

-- ---- a line that passes

module _ (y : Layout) (wide : 3 ≤ field_count y) (t : Sheet) (v : Valid t) (k : ℕ) (last : Bool) (xs : List Number) (count : length xs ≡ field_count y) where
  abbrev n : ℕ
  n = field_count y

  -- the next line of a sheet, or its end
  pub data Step (c : Letter) : Type 0 where
    more : last ≡ false → Valid (make y t c xs) → (Sayable y t.wishes → Sayable y (make y t c xs).wishes) → body y (make y t c xs) ≡ body y t ++ line c xs ∷ [] → Step c
    done : last ≡ true → make y t c xs ≡ t → line c xs ≡ end_line y k → Step c

  inside : (rest : Bool) → ((not (eqb k 0) && not last) && rest) ≡ true → (last ≡ false) × (rest ≡ true)
  inside rest e =
      let (p, q) = both (not (eqb k 0) && not last) rest e in
      (not-true last (both (not (eqb k 0)) (not last) p).1, q)

  gate_step : (c : Letter) (g : Gate) → make y t c xs ≡ add_gate t g → line c xs ≡ gate_line y g → ((not (eqb k 0) && not last) && (empty t.rules && empty t.wishes)) ≡ true → ltb (length t.gates) most_gates ≡ true → Names (points t) g → Step c
  gate_step c g m l e3 e5 names =
      let (p, q) = inside (empty t.rules && empty t.wishes) e3 in
      let (a, b) = both (empty t.rules) (empty t.wishes) q in
      let r : t.rules ≡ [] = empty_nil t.rules a in
      more p (rw m (valid_gate t v g r (ltb-true (length t.gates) most_gates e5) names)) (λ h. rw m h) (ap (body y) m ∙ body_gate y t g r (empty_nil t.wishes b) ∙ ap (λ x. body y t ++ x ∷ []) (sym l))

  pair_step : (c : Letter) (gate : ℕ → ℕ → Gate) → make y t c xs ≡ add_gate t (gate (at xs 0).size (at xs 1).size) → ((p q : ℕ) → line c (filled n (plus p ∷ plus q ∷ [])) ≡ gate_line y (gate p q)) → ((p q : ℕ) → Among (points t) p → Among (points t) q → Names (points t) (gate p q))
      → ((not (eqb k 0) && not last) && (empty t.rules && empty t.wishes)) ≡ true → ltb (length t.gates) most_gates ≡ true → ((point (points t) (at xs 0) && point (points t) (at xs 1)) && zeros (drop 2 xs)) ≡ true → Step c
  pair_step c gate m l names e3 e5 e6 =
      let (a, z) = both (point (points t) (at xs 0) && point (points t) (at xs 1)) (zeros (drop 2 xs)) e6 in
      let (p, q) = both (point (points t) (at xs 0)) (point (points t) (at xs 1)) a in
      let (f, i) = point_plus (points t) (at xs 0) p in
      let (g, j) = point_plus (points t) (at xs 1) q in
      gate_step c (gate (at xs 0).size (at xs 1).size) m (ap (line c) (two_fields n xs (at xs 0).size (at xs 1).size count wide f g z) ∙ l (at xs 0).size (at xs 1).size) e3 e5 (names (at xs 0).size (at xs 1).size i j)

  -- by the letter: the tests say that the fields are those of one more gate, rule or wish, printed
  pub step : (c : Letter) → k ≢ 0 → Met (tests y t k last c xs) → Step c
  unfolding tests make
  step H h m = absurd (h (eqb-true k 0 (both (eqb k 0) (not last) m.0).0))
  step N h m =
      let (a, z) = both (point (points t) (at xs 0)) (zeros (drop 1 xs)) m.1.1.0 in
      let (f, i) = point_plus (points t) (at xs 0) a in
      gate_step N (Gate.not (at xs 0).size) refl (ap (line N) (one_field n xs (at xs 0).size count wide f z)) m.0 m.1.0 i
  step A h m = pair_step A Gate.and refl (λ p q. refl) (λ p q i j. (i, j)) m.0 m.1.0 m.1.1.0
  step O h m = pair_step O Gate.or refl (λ p q. refl) (λ p q i j. (i, j)) m.0 m.1.0 m.1.1.0
  step R h m =
      let (a, z) = both (point (points t) (at xs 0)) (zeros (drop 1 xs)) m.1.1.0 in
      let (f, i) = point_plus (points t) (at xs 0) a in
      let (p, q) = inside (empty t.wishes) m.0 in
      more p (valid_rule t v (at xs 0).size (ltb-true (length t.rules) most_rules m.1.0) i) (λ h. h) (body_rule y t (at xs 0).size (empty_nil t.wishes q) ∙ ap (λ x. body y t ++ line R x ∷ []) (sym (one_field n xs (at xs 0).size count wide f z)))
  step W h m =
      let (w, f) = wish_fields y t.switches xs count m.1.1.0 m.1.1.1.0 in
      let u : Wish = said y t.switches xs count in
      more (not-true last (both (not (eqb k 0)) (not last) m.0).1) (valid_wish t v u (ltb-true (length t.wishes) most_wishes m.1.0) w) (said_sayable y t.wishes u.clause xs) (body_wish y t u ∙ ap (λ x. body y t ++ x ∷ []) (sym f))
  step Z h m =
      let f : at xs 0 ≡ plus k = is_plus k (at xs 0) m.1.1.0 in
      done (both (not (eqb k 0)) last m.0).1 refl (ap (line Z) (one_field n xs k count wide f m.1.0))

-- the first line is H, and not the last
pub record Head (y : Layout) (last : Bool) (c : Letter) (xs : List Number) : Type 0 where
  pub more : last ≡ false
  pub valid : Valid (make y (started 0 0) c xs)
  pub no_wish_lem : (make y (started 0 0) c xs).wishes ≡ []
  pub lines : body y (make y (started 0 0) c xs) ≡ line c xs ∷ []

pub head_step : (y : Layout) → 3 ≤ field_count y → (last : Bool) (c : Letter) (xs : List Number) → length xs ≡ field_count y → Met (tests y (started 0 0) 0 last c xs) → Head y last c xs
unfolding tests make body
head_step y wide last H xs count m =
    let (a, b) = both (up_to most_switches (at xs 0)) (up_to most_faults (at xs 1)) m.1.0 in
    let (p, h) = up_plus most_switches (at xs 0) a in
    let (q, i) = up_plus most_faults (at xs 1) b in
    record {
      more = not-true last m.0;
      valid = record { switches = h; faults = i; few_gates = omega arith; few_rules = omega arith; few_wishes = omega arith; gates = tt; rules = tt; wishes = tt };
      no_wish_lem = refl;
      lines = ap (λ x. line H x ∷ []) (sym (two_fields (field_count y) xs (at xs 0).size (at xs 1).size count wide p q m.1.1.0));
    }
head_step y wide last N xs count m = clash m.0 refl
head_step y wide last A xs count m = clash m.0 refl
head_step y wide last O xs count m = clash m.0 refl
head_step y wide last R xs count m = clash m.0 refl
head_step y wide last W xs count m = clash m.0 refl
head_step y wide last Z xs count m = clash m.0 refl
