-- Reading a sheet is the inverse of printing a valid one. Assumes nothing.
use Prim.Native.Nat.{ℕ, zero, suc, ◌+◌, ◌-◌, ◌*◌, ◌/◌, ◌%◌, ◌≤◌, ◌<◌}
use Rattle.std.proofs.Common.{add-zero, suc-mul, zero-add, div-add-mod', mul-div_cancel, mul-le-mul_right, subst, ◌∙◌, length-append, take_at, drop_at, take-add}
use Rattle.std.proofs.Math.Nat.{mul-mod_left}
use native.Mathlib.Omega.{arith}
use Rattle.std.specs.Prelude.{Bool, true, false, cond, not, ◌&&◌, ◌↔◌, ◌≢◌, ◌≡◌, eqb, leb, ltb, drop, replicate}
use Rattle.std.proofs.Math.Bool.{and-false}
use mathlib.Core.List.{List, [], ◌∷◌, ◌++◌, map, append_assoc, append-nil}
use Rattle.std.proofs.Math.Option.{Option, none, some}
use Rattle.std.proofs.Math.Path.{refl, sym, ap, ap₂}
use Rattle.std.proofs.Math.ListN.{length, take}
use Rattle.std.proofs.lemmas.List.{length-replicate, length-map, get_or_at}
use Rattle.std.proofs.Math.Seq.{take_all}
use borrow.Author.Tests.{eqb-true, eq-eqb, ne_eqb, ltb-true, le-leb, lt-ltb}
use Rattle.scope.specs.Sheet.{Number, plus, Clause, Gate, Wish, wish, Sheet, sheet, points, fits, Letter, H, N, A, O, R, W, Z, Line, line, line_bytes, text, Layout, plain, weighted, field_count, filled, weight_field, head_line, gate_line, rule_line, wish_line, end_line, body, sheet_lines, sheet_bytes, most_switches, most_faults, most_gates, most_rules, most_wishes, most_literals, most_weight, All, Among, Names, Allowed, Valid, Sayable}
use Rattle.scope.specs.Causes.{is, point, zeros, literals, clause, weight_on, tests, started, add_wish, make, accepted, line_size, most_bytes, length_ok, line_count, bytes_at, Met}
use Rattle.scope.specs.Sheets.{Printed}
use Rattle.scope.specs.Reading.{tests_of, add, line_of, line_at, tests_at, read_from, read, Fit}
use Rattle.scope.proofs.Laws.Scans.{before, Passed}
use Rattle.scope.proofs.Laws.Tests.{clash, both}
use Rattle.scope.proofs.Laws.Lists.{length_snoc, shorter, to_right}
use Rattle.scope.proofs.Laws.Alls.{all_imply, all_append, all_snoc, all_middle, all_replicate, all_map}
use Rattle.scope.proofs.Laws.Gates.{ordered_at, ordered_names}
use Rattle.scope.proofs.Laws.Lines.{line_iff, length_line}
use Rattle.scope.proofs.Laws.Refusals.{met_none, accepted_iff}
use Rattle.scope.proofs.Laws.Steps.{three_fields, none_sayable, Step, more, done, step, Head, head_step}

text_append : (r s : List Line) → text (r ++ s) ≡ text r ++ text s
unfolding text
text_append [] s = refl
text_append (l ∷ r) s = rw (text_append r s) (sym (append_assoc (line_bytes l) (text r) (text s)))

pub text_snoc : (r : List Line) (l : Line) → text (r ++ l ∷ []) ≡ text r ++ line_bytes l
unfolding text
text_snoc r l = text_append r (l ∷ []) ∙ ap (λ m. text r ++ m) (append-nil (line_bytes l))

-- ---- what is accepted is a valid sheet, printed

module _ (y : Layout) (wide : 3 ≤ field_count y) (s : List ℕ) where
  last : ℕ → Bool
  last k = eqb (suc k) (line_count (field_count y) s)

  -- a line that is passed
  record Taken (k : ℕ) (l : Line) : Type 0 where
    printed : Printed (field_count y) (bytes_at (field_count y) s k) l
    met : Met (tests y (before y s k) k (last k) l.letter l.fields)
    adds : before y s (suc k) ≡ make y (before y s k) l.letter l.fields

  taken : (k : ℕ) → Passed y s k → (l : Line) × Taken k l
  unfolding line_at tests_at before last
  taken k p = go (line_of (field_count y) (bytes_at (field_count y) s k)) refl p
    where
      go : (o : Option Line) → line_of (field_count y) (bytes_at (field_count y) s k) ≡ o → Met (tests_of y (before y s k) k (last k) o) → (l : Line) × Taken k l
      go none e m = clash m.0 refl
      go (some l) e m = (l, record { printed = (line_iff (field_count y) (bytes_at (field_count y) s k) l).0 e; met = m; adds = ap (add y (before y s k)) e })

  -- the first k lines are those of a valid sheet, without its end
  record Begun (k : ℕ) : Type 0 where
    valid : Valid (before y s k)
    sayable : Sayable y (before y s k).wishes
    count : length (body y (before y s k)) ≡ k
    bytes : text (body y (before y s k)) ≡ take (k * line_size (field_count y)) s

  next_bytes : (k : ℕ) → take (suc k * line_size (field_count y)) s ≡ take (k * line_size (field_count y)) s ++ bytes_at (field_count y) s k
  next_bytes k = ap (λ m. take m s) (suc-mul k (line_size (field_count y))) ∙ take-add (k * line_size (field_count y)) (line_size (field_count y)) s

  begun_one : Passed y s 0 → (last 0 ≡ false) × Begun 1
  unfolding before text
  begun_one p =
      let (l, t) = taken 0 p in
      let h : Head y (last 0) l.letter l.fields = head_step y wide (last 0) l.letter l.fields t.printed.count t.met in
      let e : body y (before y s 1) ≡ l ∷ [] = ap (body y) t.adds ∙ h.lines in
      let zero-lines : 0 * line_size (field_count y) ≡ 0 = omega arith in
      let one_line : 1 * line_size (field_count y) ≡ line_size (field_count y) = omega arith in
      (h.more, record { valid = rw t.adds h.valid; sayable = rw (t.adds, h.no_wish_lem) (none_sayable y); count = ap length e; bytes = ap text e ∙ append-nil (line_bytes l) ∙ sym t.printed.bytes ∙ rw (zero-lines, one_line) })

  -- the lines to the last
  data Next (k : ℕ) : Type 0 where
    on : Begun (suc k) → last k ≡ false → Next k
    ended : before y s (suc k) ≡ before y s k → line_bytes (end_line y k) ≡ bytes_at (field_count y) s k → last k ≡ true → Next k

  next : (k : ℕ) → k ≢ 0 → Begun k → Passed y s k → Next k
  next k h b p = let (l, t) = taken k p in go l t (step y wide (before y s k) b.valid k (last k) l.fields t.printed.count l.letter h t.met)
    where
      go : (l : Line) (t : Taken k l) → Step y wide (before y s k) b.valid k (last k) l.fields t.printed.count l.letter → Next k
      go l t (more a v w e) =
          let f : body y (before y s (suc k)) ≡ body y (before y s k) ++ l ∷ [] = ap (body y) t.adds ∙ e in
          on record {
            valid = rw t.adds v;
            sayable = rw t.adds (w b.sayable);
            count = ap length f ∙ length_snoc (body y (before y s k)) l ∙ ap suc b.count;
            bytes = ap text f ∙ text_snoc (body y (before y s k)) l ∙ ap₂ (λ u w. u ++ w) b.bytes (sym t.printed.bytes) ∙ sym (next_bytes k);
          } a
      go l t (done a m e) = ended (t.adds ∙ m) (ap line_bytes (sym e) ∙ sym t.printed.bytes) a

  lines_begun : (k : ℕ) → suc k < line_count (field_count y) s → ((j : ℕ) → j < line_count (field_count y) s → Passed y s j) → Begun (suc k)
  unfolding last
  lines_begun zero h p = (begun_one (p 0 (omega arith))).1
  lines_begun (suc k) h p = go (next (suc k) (λ e. omega arith) (lines_begun k (omega arith) p) (p (suc k) (omega arith)))
    where
      go : Next (suc k) → Begun (suc (suc k))
      go (on b e) = b
      go (ended e f t) = absurd (omega (arith, eqb-true (suc (suc k)) (line_count (field_count y) s) t))

  -- with line k the last
  at_end_lem : (k : ℕ) → suc k ≡ line_count (field_count y) s → length s ≡ line_count (field_count y) s * line_size (field_count y) → Begun k → Next k → Valid (before y s (suc k)) × Sayable y (before y s (suc k)).wishes × (s ≡ sheet_bytes y (before y s (suc k)))
  unfolding last
  at_end_lem k h m b (on c e) = clash (eq-eqb (suc k) (line_count (field_count y) s) h) e
  at_end_lem k h m b (ended e f t) =
      let u : Sheet = before y s k in
      let g : sheet_bytes y u ≡ s =
      text_snoc (body y u) (end_line y (length (body y u)))
      ∙ ap₂ (λ x y. x ++ y) b.bytes (ap (λ i. line_bytes (end_line y i)) b.count ∙ f)
      ∙ sym (next_bytes k) ∙ take_all (suc k * line_size (field_count y)) s (rw h (omega arith)) in
      rw e (b.valid, b.sayable, sym g)

lengths : (n : ℕ) (s : List ℕ) → length_ok n (length s) ≡ true → (0 < line_count n s) × (length s ≡ line_count n s * line_size n)
lengths n s e =
    let (a, r) = both (ltb 0 (length s)) (leb (length s) (most_bytes n) && eqb (length s % line_size n) 0) e in
    let (b, d) = both (leb (length s) (most_bytes n)) (eqb (length s % line_size n) 0) r in
    let m : length s / line_size n * line_size n ≡ length s = omega (arith, div-add-mod' (length s) (line_size n), eqb-true (length s % line_size n) 0 d) in
    (positive (line_count n s) (omega (arith, ltb-true 0 (length s) a)), sym m)
  where
    positive : (c : ℕ) → 0 < c * line_size n → 0 < c
    positive zero h = absurd (omega arith)
    positive (suc c) h = omega arith

-- after k lines that pass, the bytes are the first k lines of a valid sheet: each line that passes is its next one, the last its end
read_sound : (y : Layout) → 3 ≤ field_count y → (s : List ℕ) (u : Sheet) → read y s ≡ accepted u → (s ≡ sheet_bytes y u) × Valid u × Sayable y u.wishes
unfolding last
read_sound y wide s u e =
    let (c, same) = (accepted_iff y s u).0 e in
    let (positive, whole) = lengths n s c.size in
    let (v, w, b) = go (line_count n s) refl positive whole c.lines in
    rw same (b, v, w)
  where
    n : ℕ
    n = field_count y

    go : (m : ℕ) → line_count n s ≡ m → 0 < m → length s ≡ line_count n s * line_size n → ((k : ℕ) → k < line_count n s → Passed y s k) → Valid (before y s m) × Sayable y (before y s m).wishes × (s ≡ sheet_bytes y (before y s m))
    go zero h p l c = absurd (omega arith)
    go (suc zero) h p l c = clash (eq-eqb 1 (line_count n s) (sym h)) (begun_one y wide s (c 0 (omega arith))).0
    go (suc (suc k)) h p l c =
        let b : Begun y wide s (suc k) = lines_begun y wide s k (omega arith) c in
        at_end_lem y wide s (suc k) (sym h) l b (next y wide s (suc k) (λ e. omega arith) b (c (suc k) (omega arith)))

-- ---- a valid sheet, printed, is read line by line

-- n fields that fit
pub record Good (n : ℕ) (l : Line) : Type 0 where
  pub count : length l.fields ≡ n
  pub fit : Fit l.fields

-- the lines of s from line k on
pub data From (y : Layout) (s : List ℕ) : ℕ → List Line → Type 0 where
  end : {k : ℕ} → From y s k []
  then : {k : ℕ} {l : Line} {ls : List Line} → line_at y s k ≡ some l → From y s (suc k) ls → From y s k (l ∷ ls)

pub length_text : (n : ℕ) (r : List Line) → All (Good n) r → length (text r) ≡ length r * line_size n
unfolding text
length_text n [] g = omega arith
length_text n (l ∷ r) (g, h) =
    let e : length (line_bytes l) ≡ line_size n = length_line l g.fit ∙ ap line_size g.count in
    omega (arith, length-append (line_bytes l) (text r), length_text n r h, suc-mul (length r) (line_size n))

pub from_text : (y : Layout) (s : List ℕ) (ls pre : List Line) → s ≡ text (pre ++ ls) → All (Good (field_count y)) pre → All (Good (field_count y)) ls → From y s (length pre) ls
unfolding line_at text
from_text y s [] pre e g h = end
from_text y s (l ∷ ls) pre e g (h, i) =
    let n : ℕ = field_count y in
    let m : length (line_bytes l) ≡ line_size n = length_line l h.fit ∙ ap line_size h.count in
    let d : drop (length pre * line_size n) s ≡ line_bytes l ++ text ls = ap (drop (length pre * line_size n)) (e ∙ text_append pre (l ∷ ls)) ∙ drop_at (text pre) (line_bytes l ++ text ls) (length pre * line_size n) (length_text n pre g) in
    let t : take (line_size n) (drop (length pre * line_size n) s) ≡ line_bytes l = ap (take (line_size n)) d ∙ take_at (line_bytes l) (text ls) (line_size n) m in
    then (ap (line_of n) t ∙ (line_iff n (line_bytes l) l).1 record { bytes = refl; count = h.count; fit = h.fit })
    (subst (λ k. From y s k ls) (length_snoc pre l) (from_text y s ls (pre ++ l ∷ []) (e ∙ ap text (sym (append_assoc pre (l ∷ []) ls))) (all_append (Good n) pre (l ∷ []) g (h, tt)) i))

-- one line
module _ (y : Layout) (s : List ℕ) where
  read_next : (m k : ℕ) (t u : Sheet) (l : Line) → line_at y s k ≡ some l → Met (tests y t k (eqb (suc k) (line_count (field_count y) s)) l.letter l.fields) → make y t l.letter l.fields ≡ u → read_from y s (suc m) k t ≡ read_from y s m (suc k) u
  unfolding read_from tests_at
  read_next m k t u l e p a = rw (e, met_none (tests y t k (eqb (suc k) (line_count (field_count y) s)) l.letter l.fields) p, a)

  -- one kind of line after another: gates, rules, wishes
  module _ {X : Type 0} (grow : List X → Sheet) (toLine : X → Line) (whole : List X) (takes : (vs : List X) (w : X) (ws : List X) (k : ℕ) → whole ≡ vs ++ w ∷ ws → 0 < k → Met (tests y (grow vs) k false (toLine w).letter (toLine w).fields) × (make y (grow vs) (toLine w).letter (toLine w).fields ≡ grow (vs ++ w ∷ []))) where
    feed : (tail : List Line) (m : ℕ) (ws vs : List X) (k : ℕ) → 0 < k → k + length ws + suc m ≡ line_count (field_count y) s → whole ≡ vs ++ ws → From y s k (map toLine ws ++ tail)
        → (read_from y s (length ws + suc m) k (grow vs) ≡ read_from y s (suc m) (k + length ws) (grow whole)) × From y s (k + length ws) tail
    feed tail m [] vs k h c e f = rw (add-zero, zero-add, e, append-nil) (refl, f)
    feed tail m (w ∷ ws) vs k h c e (then a f) =
        let (p, q) = takes vs w ws k e h in
        let b : eqb (suc k) (line_count (field_count y) s) ≡ false = ne_eqb (suc k) (line_count (field_count y) s) (λ d. omega arith) in
        let (r, g) = feed tail m ws (vs ++ w ∷ []) (suc k) (omega arith) (omega arith) (e ∙ sym (append_assoc vs (w ∷ []) ws)) f in
        let i : length (w ∷ ws) + suc m ≡ suc (length ws + suc m) = omega arith in
        let j : k + length (w ∷ ws) ≡ suc k + length ws = omega arith in
        rw (i, j) (read_next (length ws + suc m) k (grow vs) (grow (vs ++ w ∷ [])) (toLine w) a (rw b p) q ∙ r, g)

-- ---- each kind of line passes where it may stand

pub zeros_replicate : (k : ℕ) → zeros (replicate k (plus 0)) ≡ true
unfolding zeros
zeros_replicate zero = refl
zeros_replicate (suc k) = zeros_replicate k

plus_point : (m p : ℕ) → Among m p → point m (plus p) ≡ true
plus_point m p (l, h) = rw (le-leb p m h, lt-ltb 0 p l)

is_between : (k : ℕ) → 0 < k → (not (eqb k 0) && not false) ≡ true
is_between k h = rw (ne_eqb k 0 (λ e. omega arith))

-- a clause filled up with zeros reads as itself
record Clear (a : ℕ) (w xs : List Number) : Type 0 where
  full : literals a xs ≡ true
  back : clause xs ≡ w

clear : (a j : ℕ) (w : Clause) → All (λ x. Among a x.size) w → Clear a w (w ++ replicate j (plus 0))
unfolding literals clause
clear a zero [] h = record { full = refl; back = refl }
clear a (suc j) [] h = record { full = zeros_replicate j; back = refl }
clear a j (x ∷ w) ((l, h), i) =
    let z : is 0 x ≡ false = rw (ne_eqb x.size 0 (λ e. omega arith)) (and-false (not x.minus)) in
    let c : Clear a w (w ++ replicate j (plus 0)) = clear a j w i in
    record { full = rw (z, le-leb x.size a h, lt-ltb 0 x.size l) c.full; back = rw (z, c.back) }

pub length_filled : (n : ℕ) (xs : List Number) → length xs ≤ n → length (filled n xs) ≡ n
length_filled n xs h = omega (arith, length-append xs (replicate (n - length xs) (plus 0)), length-replicate (n - length xs) (plus 0))

-- the fields of a wish: its clause, and its weight where the layout has it
module _ (y : Layout) (w : Wish) (few : length w.clause ≤ most_literals) where
  clause_size : length (filled most_literals w.clause) ≡ most_literals
  clause_size = length_filled most_literals w.clause few

  pub clause_part : take most_literals (wish_line y w).fields ≡ filled most_literals w.clause
  clause_part = take_at (filled most_literals w.clause) (weight_field y w.weight) most_literals clause_size

pub weight_part : (y : Layout) (w : Wish) → length w.clause ≤ most_literals → Sayable y (w ∷ []) → weight_on y (wish_line y w).fields ≡ plus w.weight
weight_part plain w few (h, e) = ap plus (sym h)
weight_part weighted w few h = get_or_at (filled most_literals w.clause) (plus w.weight) [] (plus 0) most_literals (length_filled most_literals w.clause few)

module _ (y : Layout) (wide : 3 ≤ field_count y) where
  head_takes : (a f : ℕ) → a ≤ most_switches → f ≤ most_faults → Met (tests y (started 0 0) 0 false H (filled (field_count y) (plus a ∷ plus f ∷ [])))
  unfolding tests
  head_takes a f h i = (refl, (rw (le-leb a most_switches h, le-leb f most_faults i), (zeros_replicate (field_count y - 2), tt)))

  gate_takes : (a f : ℕ) (vs : List Gate) (g : Gate) (k : ℕ) → 0 < k → length vs < most_gates → Names (a + f + length vs) g
      → Met (tests y (sheet a f vs [] []) k false (gate_line y g).letter (gate_line y g).fields) × (make y (sheet a f vs [] []) (gate_line y g).letter (gate_line y g).fields ≡ sheet a f (vs ++ g ∷ []) [] [])
  unfolding tests make
  gate_takes a f vs (Gate.not p) k h l i = ((rw (is_between k h), (lt-ltb (length vs) most_gates l, (rw (plus_point (a + f + length vs) p i) (zeros_replicate (field_count y - 1)), tt))), refl)
  gate_takes a f vs (Gate.and p q) k h l (i, j) = ((rw (is_between k h), (lt-ltb (length vs) most_gates l, (rw (plus_point (a + f + length vs) p i, plus_point (a + f + length vs) q j) (zeros_replicate (field_count y - 2)), tt))), refl)
  gate_takes a f vs (Gate.or p q) k h l (i, j) = ((rw (is_between k h), (lt-ltb (length vs) most_gates l, (rw (plus_point (a + f + length vs) p i, plus_point (a + f + length vs) q j) (zeros_replicate (field_count y - 2)), tt))), refl)

  rule_takes : (a f : ℕ) (gs : List Gate) (vs : List ℕ) (p k : ℕ) → 0 < k → length vs < most_rules → Among (a + f + length gs) p
      → Met (tests y (sheet a f gs vs []) k false R (filled (field_count y) (plus p ∷ []))) × (make y (sheet a f gs vs []) R (filled (field_count y) (plus p ∷ [])) ≡ sheet a f gs (vs ++ p ∷ []) [])
  unfolding tests make
  rule_takes a f gs vs p k h l i = ((rw (is_between k h), (lt-ltb (length vs) most_rules l, (rw (plus_point (a + f + length gs) p i) (zeros_replicate (field_count y - 1)), tt))), refl)

  wish_takes : (a f : ℕ) (gs : List Gate) (rs : List ℕ) (vs : List Wish) (w : Wish) (k : ℕ) → 0 < k → length vs < most_wishes → Allowed a w → Sayable y (w ∷ [])
      → Met (tests y (sheet a f gs rs vs) k false W (wish_line y w).fields) × (make y (sheet a f gs rs vs) W (wish_line y w).fields ≡ sheet a f gs rs (vs ++ w ∷ []))
  unfolding tests make
  wish_takes a f gs rs vs w k h l b u =
      let xs : List Number = (wish_line y w).fields in
      let p : take most_literals xs ≡ filled most_literals w.clause = clause_part y w b.few in
      let q : weight_on y xs ≡ plus w.weight = weight_part y w b.few u in
      let c : Clear a w.clause (filled most_literals w.clause) = clear a (most_literals - length w.clause) w.clause b.literals in
      ((is_between k h, (lt-ltb (length vs) most_wishes l, (rw p c.full, (rw q (plus_point most_weight w.weight b.weight), tt)))), ap₂ (λ u v. add_wish (sheet a f gs rs vs) (wish u v)) (ap clause p ∙ c.back) (ap (λ x. x.size) q))

  end_takes : (t : Sheet) (k : ℕ) → 0 < k → Met (tests y t k true Z (filled (field_count y) (plus k ∷ [])))
  unfolding tests
  end_takes t k h = (rw (ne_eqb k 0 (λ e. omega arith)), (zeros_replicate (field_count y - 1), (eq-eqb k k refl, tt)))

-- ---- the numbers of a valid sheet fit their fields

pub plus_fits : (p : ℕ) → p ≤ 99999 → fits (plus p) ≡ true
plus_fits p h = le-leb p 99999 h

literal_fits : (x : Number) → 1 ≤ x.size → x.size ≤ 9999 → fits x ≡ true
literal_fits x l h = go x.minus
  where
    go : (m : Bool) → cond m (ltb 0 x.size && leb x.size 9999) (leb x.size 99999) ≡ true
    go true = rw (lt-ltb 0 x.size l, le-leb x.size 9999 h)
    go false = le-leb x.size 99999 (omega arith)

fits_filled : (n : ℕ) (xs : List Number) → Fit xs → Fit (filled n xs)
fits_filled n xs f = all_append (λ x. fits x ≡ true) xs (replicate (n - length xs) (plus 0)) f (all_replicate (λ x. fits x ≡ true) (n - length xs) (plus 0) refl)

-- its fields, and the weight behind them where the layout has it
good_weight : (y : Layout) (w : Wish) → length w.clause ≤ most_literals → Fit w.clause → w.weight ≤ 99999 → Good (field_count y) (wish_line y w)
good_weight plain w few f h = record { count = ap length (append-nil (filled most_literals w.clause)) ∙ length_filled most_literals w.clause few; fit = rw append-nil (fits_filled most_literals w.clause f) }
good_weight weighted w few f h = record {
  count = length_snoc (filled most_literals w.clause) (plus w.weight) ∙ ap suc (length_filled most_literals w.clause few);
  fit = all_snoc (λ x. fits x ≡ true) (filled most_literals w.clause) (plus w.weight) (fits_filled most_literals w.clause f) (plus_fits w.weight h);
}

module _ (y : Layout) (wide : 3 ≤ field_count y) where
  pub good : (c : Letter) (xs : List Number) → length xs ≤ field_count y → Fit xs → Good (field_count y) (line c (filled (field_count y) xs))
  good c xs h f = record { count = length_filled (field_count y) xs h; fit = fits_filled (field_count y) xs f }

  good_gate : (g : Gate) → Names 99999 g → Good (field_count y) (gate_line y g)
  good_gate (Gate.not p) (a, b) = good N (plus p ∷ []) (omega arith) (plus_fits p b, tt)
  good_gate (Gate.and p q) ((a, b), (c, d)) = good A (plus p ∷ plus q ∷ []) (omega arith) (plus_fits p b, (plus_fits q d, tt))
  good_gate (Gate.or p q) ((a, b), (c, d)) = good O (plus p ∷ plus q ∷ []) (omega arith) (plus_fits p b, (plus_fits q d, tt))

  good_rule : (m p : ℕ) → m ≤ 99999 → Among m p → Good (field_count y) (rule_line y p)
  good_rule m p h (a, b) = good R (plus p ∷ []) (omega arith) (plus_fits p (omega arith), tt)

  good_wish : (a : ℕ) (w : Wish) → a ≤ most_switches → Allowed a w → Good (field_count y) (wish_line y w)
  good_wish a w h b = good_weight y w b.few (all_imply (λ x. Among a x.size) (λ x. fits x ≡ true) (λ x (p, q). literal_fits x p (omega arith)) w.clause b.literals) (omega (arith, b.weight.1))

  pub length_body : (t : Sheet) → length (body y t) ≡ 1 + length t.gates + length t.rules + length t.wishes
  unfolding body
  length_body t = simp (length-append, length-map) (omega arith)

  -- no number of a valid sheet is above its limits, so all of them fit their fields
  pub good_body : (t : Sheet) → Valid t → All (Good (field_count y)) (body y t)
  unfolding body
  good_body t v =
      let m : points t ≤ 99999 = omega (arith, v.switches, v.faults, v.few_gates) in
      all_append (Good (field_count y)) (head_line y t.switches t.faults ∷ map (gate_line y) t.gates ++ map (rule_line y) t.rules) (map (wish_line y) t.wishes)
      (all_append (Good (field_count y)) (head_line y t.switches t.faults ∷ map (gate_line y) t.gates) (map (rule_line y) t.rules) (
        good H (plus t.switches ∷ plus t.faults ∷ []) (omega arith) (plus_fits t.switches (omega (arith, v.switches)), (plus_fits t.faults (omega (arith, v.faults)), tt)),
        all_map (Good (field_count y)) (Names 99999) (gate_line y) good_gate t.gates (ordered_names (t.switches + t.faults) 99999 t.gates m v.gates),
      )
      (all_map (Good (field_count y)) (Among (points t)) (rule_line y) (λ p. good_rule (points t) p m) t.rules v.rules))
      (all_map (Good (field_count y)) (Allowed t.switches) (wish_line y) (λ w. good_wish t.switches w v.switches) t.wishes v.wishes)

  -- H, and as many others as there may be
  pub few_body : (t : Sheet) → Valid t → length (body y t) ≤ 529
  few_body t v = omega (arith, length_body t, v.few_gates, v.few_rules, v.few_wishes)

  pub end_good : (k : ℕ) → k ≤ 99999 → Good (field_count y) (end_line y k)
  end_good k h = good Z (plus k ∷ []) (omega arith) (plus_fits k h, tt)

  pub good_lines : (t : Sheet) → Valid t → All (Good (field_count y)) (sheet_lines y t)
  good_lines t v = all_append (Good (field_count y)) (body y t) (end_line y (length (body y t)) ∷ []) (good_body t v) (end_good (length (body y t)) (omega (arith, few_body t v)), tt)

-- ---- the whole sheet

-- a wish among others that can be said
one_sayable : (y : Layout) (vs : List Wish) (w : Wish) (us : List Wish) → Sayable y (vs ++ w ∷ us) → Sayable y (w ∷ [])
one_sayable plain vs w us h = (all_middle (λ w. w.weight ≡ 1) vs w us h, tt)
one_sayable weighted vs w us h = tt

module _ (y : Layout) (wide : 3 ≤ field_count y) (t : Sheet) (v : Valid t) (sayable : Sayable y t.wishes) (s : List ℕ) (printed : s ≡ sheet_bytes y t) where
  abbrev line_total : ℕ
  line_total = 2 + length t.gates + length t.rules + length t.wishes

  total : length (sheet_lines y t) ≡ line_total
  total = omega (arith, length_snoc (body y t) (end_line y (length (body y t))), length_body y wide t)

  size : length s ≡ line_total * line_size (field_count y)
  size = ap length printed ∙ length_text (field_count y) (sheet_lines y t) (good_lines y wide t v) ∙ ap (λ m. m * line_size (field_count y)) total

  pub count : line_count (field_count y) s ≡ line_total
  count = ap (λ m. m / line_size (field_count y)) size ∙ mul-div_cancel line_total (omega arith)

  length_ok_lem : length_ok (field_count y) (length s) ≡ true
  length_ok_lem =
      let few : line_total ≤ most_gates + most_rules + most_wishes + 2 = omega (arith, v.few_gates, v.few_rules, v.few_wishes) in
      let most : line_total * line_size (field_count y) ≤ most_bytes (field_count y) = mul-le-mul_right (line_size (field_count y)) few in
      let least : 1 * line_size (field_count y) ≤ line_total * line_size (field_count y) = mul-le-mul_right {m = 1} {n = line_total} (line_size (field_count y)) (omega arith) in
      rw (size, lt-ltb 0 (line_total * line_size (field_count y)) (omega arith), le-leb (line_total * line_size (field_count y)) (most_bytes (field_count y)) most, mul-mod_left)

  lines : From y s 0 (sheet_lines y t)
  lines = from_text y s (sheet_lines y t) [] printed tt (good_lines y wide t v)

  -- the head, then the gates, the rules and the wishes, each kind as `feed` has it, and the end
  read_all : read_from y s line_total 0 (started 0 0) ≡ accepted t
  unfolding body read_from make
  read_all = go (subst (From y s 0) regroup lines)
    where
      a : ℕ
      a = t.switches

      f : ℕ
      f = t.faults

      gs : List Gate
      gs = t.gates

      rs : List ℕ
      rs = t.rules

      ws : List Wish
      ws = t.wishes

      z : List Line
      z = end_line y (length (body y t)) ∷ []

      regroup : sheet_lines y t ≡ head_line y a f ∷ (map (gate_line y) gs ++ (map (rule_line y) rs ++ (map (wish_line y) ws ++ z)))
      regroup = ap (λ m. head_line y a f ∷ m) (to_right (map (gate_line y) gs) (map (rule_line y) rs) (map (wish_line y) ws) z)

      gates : (vs : List Gate) (w : Gate) (us : List Gate) (k : ℕ) → gs ≡ vs ++ w ∷ us → 0 < k → Met (tests y (sheet a f vs [] []) k false (gate_line y w).letter (gate_line y w).fields) × (make y (sheet a f vs [] []) (gate_line y w).letter (gate_line y w).fields ≡ sheet a f (vs ++ w ∷ []) [] [])
      gates vs w us k e h = gate_takes y wide a f vs w k h (omega (arith, ap length e, shorter vs w us, v.few_gates)) (ordered_at (a + f) vs w us (rw e at v.gates))

      rules : (vs : List ℕ) (w : ℕ) (us : List ℕ) (k : ℕ) → rs ≡ vs ++ w ∷ us → 0 < k → Met (tests y (sheet a f gs vs []) k false R (filled (field_count y) (plus w ∷ []))) × (make y (sheet a f gs vs []) R (filled (field_count y) (plus w ∷ [])) ≡ sheet a f gs (vs ++ w ∷ []) [])
      rules vs w us k e h = rule_takes y wide a f gs vs w k h (omega (arith, ap length e, shorter vs w us, v.few_rules)) (all_middle (Among (points t)) vs w us (rw e at v.rules))

      wishes : (vs : List Wish) (w : Wish) (us : List Wish) (k : ℕ) → ws ≡ vs ++ w ∷ us → 0 < k → Met (tests y (sheet a f gs rs vs) k false W (wish_line y w).fields) × (make y (sheet a f gs rs vs) W (wish_line y w).fields ≡ sheet a f gs rs (vs ++ w ∷ []))
      wishes vs w us k e h = wish_takes y wide a f gs rs vs w k h (omega (arith, ap length e, shorter vs w us, v.few_wishes)) (all_middle (Allowed a) vs w us (rw e at v.wishes)) (one_sayable y vs w us (rw e at sayable))

      last : (k : ℕ) → k ≡ length (body y t) → 0 < k → suc k ≡ line_count (field_count y) s → From y s k z → read_from y s 1 k t ≡ accepted t
      last k e h c (then l none_left) =
          let b : eqb (suc k) (line_count (field_count y) s) ≡ true = eq-eqb (suc k) (line_count (field_count y) s) c in
          read_next y s 0 k t t (end_line y (length (body y t))) l (rw (b, ← e) (end_takes y wide t k h)) refl

      go : From y s 0 (head_line y a f ∷ (map (gate_line y) gs ++ (map (rule_line y) rs ++ (map (wish_line y) ws ++ z)))) → read_from y s line_total 0 (started 0 0) ≡ accepted t
      go (then l after) =
          let b : eqb 1 (line_count (field_count y) s) ≡ false = ne_eqb 1 (line_count (field_count y) s) (λ d. omega (arith, count)) in
          let (p, g) = feed y s (λ vs. sheet a f vs [] []) (gate_line y) gs gates (map (rule_line y) rs ++ (map (wish_line y) ws ++ z)) (length rs + length ws) gs [] 1 (omega arith) (omega (arith, count)) refl after in
          let (q, h) = feed y s (λ vs. sheet a f gs vs []) (rule_line y) rs rules (map (wish_line y) ws ++ z) (length ws) rs [] (1 + length gs) (omega arith) (omega (arith, count)) refl g in
          let (r, i) = feed y s (λ vs. sheet a f gs rs vs) (wish_line y) ws wishes z 0 ws [] (1 + length gs + length rs) (omega arith) (omega (arith, count)) refl h in
          let c0 : line_total ≡ suc (length gs + suc (length rs + length ws)) = omega arith in
          let c1 : suc (length rs + length ws) ≡ length rs + suc (length ws) = omega arith in
          let c2 : suc (length ws) ≡ length ws + 1 = omega arith in
          ap (λ m. read_from y s m 0 (started 0 0)) c0
          ∙ read_next y s (length gs + suc (length rs + length ws)) 0 (started 0 0) (started a f) (head_line y a f) l (rw b (head_takes y wide a f v.switches v.faults)) refl
          ∙ p ∙ ap (λ m. read_from y s m (1 + length gs) (sheet a f gs [] [])) c1 ∙ q ∙ ap (λ m. read_from y s m (1 + length gs + length rs) (sheet a f gs rs [])) c2 ∙ r
          ∙ last (1 + length gs + length rs + length ws) (sym (length_body y wide t)) (omega arith) (omega (arith, count)) i

  read_complete : read y s ≡ accepted t
  unfolding read
  read_complete = rw (length_ok_lem, count) read_all

-- A sheet is accepted exactly if it is a valid one, printed in this layout, which can say it.
pub read_iff : (y : Layout) (s : List ℕ) (t : Sheet) → (read y s ≡ accepted t) ↔ ((s ≡ sheet_bytes y t) × Valid t × Sayable y t.wishes)
read_iff y s t = (read_sound y (three_fields y) s t, λ (e, v, w). read_complete y (three_fields y) t v w s e)

-- Two valid sheets that are printed alike in it are the same.
pub printed_once : (y : Layout) (t u : Sheet) → Valid t → Valid u → Sayable y t.wishes → Sayable y u.wishes → sheet_bytes y t ≡ sheet_bytes y u → t ≡ u
printed_once y t u v w p q e =
    let a : accepted t ≡ accepted u = sym ((read_iff y (sheet_bytes y t) t).1 (refl, v, p)) ∙ (read_iff y (sheet_bytes y t) u).1 (e, w, q) in
    cc
