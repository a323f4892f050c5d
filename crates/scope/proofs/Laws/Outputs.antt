-- Every figure that the program prints fits its five columns. Assumes nothing.
use Rattle.std.specs.Prelude.{ℕ, suc, ◌+◌, ◌≤◌, ◌<◌, Bool, true, false, cond, List, [], ◌∷◌, ◌++◌, ◌≡◌, refl, eqb, length, get_or, replicate}
use Prim.Native.Char.{Char}
use Rattle.std.proofs.Math.Nat.{pow-le-pow_right}
use Rattle.std.proofs.Common.{arith, ap, length-append}
use Rattle.scope.specs.Sheet.{Sheet, most_switches, most_wishes, All, Valid}
use Rattle.scope.specs.Causes.{Read, accepted, refused}
use Rattle.scope.specs.Source.{Refusal, Source}
use Rattle.scope.specs.Meaning.{bits, patterns, kept}
use Rattle.scope.specs.Rule.{Verdict, plan, no_plan, no_room, rule}
use Rattle.scope.specs.Jobs.{task, Result, result, Answer, answer_of}
use Rattle.scope.specs.Demands.{listed}
use Rattle.scope.specs.Program.{Row, row, one, each, third, switch_row, wish_row, pattern_row, plan_rows, found_rows, answer_rows, ended, room, output_rows}
use Rattle.scope.specs.Reading.{Fit}
use Rattle.scope.proofs.Laws.Alls.{all_true, all_append, at_all}
use Rattle.scope.proofs.Laws.Inverse.{plus_fits}
use Rattle.scope.proofs.Laws.Points.{length_bits}
use Rattle.scope.proofs.Laws.Wishes.{cost_small}
use Rattle.scope.proofs.Laws.Rules.{words_below, length_patterns}
use Rattle.scope.proofs.Laws.Demands.{listed_ruled, listed_of}

-- the largest number of five columns
abbrev top : ℕ
top = 99999

abbrev pub Fits : Row → Type 0
Fits r = Fit r.fields

pub row_fits : (c : Char) (x y z : ℕ) → x ≤ top → y ≤ top → z ≤ top → Fits (row c x y z)
row_fits c x y z p q r = (plus_fits x p, (plus_fits y q, (plus_fits z r, tt)))

length_each : {A : Type 0} (f : ℕ → A → Row) (i : ℕ) (s : List A) → length (each f i s) ≡ length s
unfolding each
length_each f i [] = refl
length_each f i (a ∷ s) = ap suc (length_each f (suc i) s)

-- a row for each element fits if the row of each fits at its number
each_fits : {A : Type 0} (P : A → Type 0) (f : ℕ → A → Row) → ((i : ℕ) (a : A) → i ≤ top → P a → Fits (f i a)) → (i : ℕ) (s : List A) → i + length s ≤ suc top → All P s → All Fits (each f i s)
unfolding each
each_fits P f h i [] l p = tt
each_fits P f h i (a ∷ s) l (p, q) = (h i a (omega arith) p, each_fits P f h (suc i) s (omega arith) q)

one_small : (b : Bool) → one b ≤ top
one_small true = omega arith
one_small false = omega arith

-- ---- an accepted sheet
module _ (t : Sheet) (v : Valid t) where
  most_patterns : patterns t ≤ 65536
  most_patterns = pow-le-pow_right {n = 2} (omega arith) v.faults

  plan_fits : (p : ℕ) → All Fits (plan_rows t p)
  plan_fits p = all_append Fits (each switch_row 1 (bits t.switches p)) (each (wish_row t p) 1 t.wishes)
      (each_fits (λ on. Unit {0}) switch_row (λ i on h u. row_fits "S" i (one on) 0 h (one_small on) (omega arith)) 1 (bits t.switches p) (omega (arith, length_bits t.switches p, v.switches)) (all_true (bits t.switches p)))
      (each_fits (λ w. Unit {0}) (wish_row t p) (λ i w h u. row_fits "W" i (one (kept t p w.clause)) 0 h (one_small (kept t p w.clause)) (omega arith)) 1 t.wishes (omega (arith, v.few_wishes)) (all_true t.wishes))

  length_plan : (p : ℕ) → length (plan_rows t p) ≤ most_switches + most_wishes
  length_plan p =
      let s : List Row = each switch_row 1 (bits t.switches p) in
      let w : List Row = each (wish_row t p) 1 t.wishes in
      omega (arith, length-append s w, length_each switch_row 1 (bits t.switches p), length_each (wish_row t p) 1 t.wishes, length_bits t.switches p, v.switches, v.few_wishes)

  -- after a verdict
  record Small (r : Result) : Type 0 where
    number : r.number ≤ top
    place : r.place ≤ top
    third : third r ≤ top

  result_small : (u : Verdict) (l : ℕ) → Small (result t u l)
  result_small (plan p) l = record { number = omega arith; place = omega arith; third = omega (arith, cost_small t v p) }
  result_small no_plan l = record { number = omega arith; place = omega arith; third = omega arith }
  result_small no_room l = record { number = omega arith; place = omega arith; third = omega arith }

  found_fits : (r : Result) → All Fits (found_rows (accepted t) r)
  found_fits r = go (eqb r.number 0)
    where
      go : (b : Bool) → All Fits (cond b (plan_rows t r.plan) [])
      go true = plan_fits r.plan
      go false = tt

  length_found : (r : Result) → length (found_rows (accepted t) r) ≤ most_switches + most_wishes
  length_found r = go (eqb r.number 0)
    where
      go : (b : Bool) → length (cond b (plan_rows t r.plan) []) ≤ most_switches + most_wishes
      go true = length_plan r.plan
      go false = omega arith

  -- at most 65536 patterns are listed and few rows stand besides, so the rows' numbers and count fit, as do costs and patterns
  answer_fits : (lent : List ℕ) → All Fits (ended (answer_rows (accepted t) (answer_of (accepted t) lent)))
  answer_fits lent =
      let a : Answer = answer_of (accepted t) lent in
      let r : Result = a.result in
      let m : Small r = result_small (rule (task t) (length lent) []).verdict (length (rule (task t) (length lent) []).words) in
      let found : List Row = found_rows (accepted t) r in
      let words : List Row = each pattern_row 1 (listed a) in
      let few : length (listed a) ≤ patterns t = length_patterns (task t) (listed a) (listed_ruled t lent) in
      let count : length (row "A" r.number r.place (third r) ∷ found ++ words) ≤ top = omega (arith, length-append found words, length_found r, length_each pattern_row 1 (listed a), most_patterns) in
      all_append Fits (row "A" r.number r.place (third r) ∷ found ++ words) (row "Z" (length (row "A" r.number r.place (third r) ∷ found ++ words)) 0 0 ∷ []) (
        row_fits "A" r.number r.place (third r) m.number m.place m.third,
        all_append Fits found words (found_fits r)
            (each_fits (λ q. q ≤ top) pattern_row (λ i q h g. row_fits "F" i q 0 h g (omega arith)) 1 (listed a) (omega (arith, most_patterns))
            (at_all (λ q. q ≤ top) (listed a) 0 (λ i h. omega (arith, words_below (task t) (listed a) (listed_ruled t lent) i h, most_patterns)))),
      )
      (row_fits "Z" (length (row "A" r.number r.place (third r) ∷ found ++ words)) 0 0 count (omega arith) (omega arith), tt)

-- ---- any source

choice : (b : Bool) {x : ℕ} → x ≤ top → cond b x 0 ≤ top
choice true h = h
choice false h = omega arith

pub output_fits : (r : Read) → Source r → All Fits (output_rows r)
unfolding output_rows each
output_fits (accepted t) h = answer_fits t (h.valid t refl) (replicate room 0)
output_fits (refused c place column) h =
    let f : Refusal c place column = h.refusal c place column refl in
    (row_fits "A" c place (cond (eqb c 2) column 0) f.number f.place (choice (eqb c 2) f.column), (row_fits "Z" 1 0 0 (omega arith) (omega arith) (omega arith), tt))

-- ---- what Answer lists, whatever it is lent: no more than that, and patterns that fit a field

pub listed_small : (r : Read) → Source r → (lent : List ℕ) → ((answer_of r lent).result.length ≤ length lent) × ((i : ℕ) → i < length (listed (answer_of r lent)) → get_or (listed (answer_of r lent)) i 0 < 65536)
listed_small r h lent = listed_of lent r (λ t e. most_patterns t (h.valid t e))
