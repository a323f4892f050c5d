-- A rule's truth is that of its formula as it is written, and a wish's that of its literals. Assumes nothing.
use Prim.Native.Nat.{ℕ, suc, ◌+◌, ◌<◌}
use Rattle.std.proofs.Math.Nat.{add-zero, zero-add}
use Rattle.std.proofs.Common.{arith, ◌∙◌, length-append, get_or-append-add}
use Rattle.std.specs.Prelude.{Bool, ◌≡◌, length, get_or}
use Rattle.std.proofs.Math.Bool.{not, ◌&&◌, ◌||◌}
use mathlib.Core.List.{List, [], ◌∷◌, ◌++◌, map}
use Rattle.std.proofs.Math.Path.{refl, sym, ap, ap₂}
use Rattle.std.proofs.Math.ListN.{get_or-append}
use Rattle.scope.specs.Sheet.{Gate, Sheet, All, Among, Ordered}
use Rattle.scope.specs.Meaning.{all, any, gate_truth, literal_true, keeps, switch_on, fault_on, truth, passes, kept}
use Rattle.scope.specs.Typed.{Formula, Typed, formula_true, operators, point, gates_of, all_gates, all_points, sheet_of}
use Rattle.scope.proofs.Laws.Points.{truth_switch, truth_fault, truth_gate}
use Rattle.scope.proofs.Laws.TypedSheets.{OnSheet, length_gates, all_ordered}

-- any gate, for places past the last
abbrev none : Gate
none = Gate.not 0

-- ---- u is the truth of points, with a switches and f faults
module _ (a f : ℕ) (u : ℕ → Bool) where
  -- each of these gates, which stand after n others, is what its points make it
  abbrev Holds : ℕ → List Gate → Type 0
  Holds n hs = (i : ℕ) → i < length hs → u (a + f + suc (n + i)) ≡ gate_truth u (get_or hs i none)

  holds_left : (n : ℕ) (hs ks : List Gate) → Holds n (hs ++ ks) → Holds n hs
  holds_left n hs ks h i l = h i (omega (arith, length-append hs ks)) ∙ ap (gate_truth u) (get_or-append hs ks none i l)

  holds_right : (n m : ℕ) (hs ks : List Gate) → n + length hs ≡ m → Holds n (hs ++ ks) → Holds m ks
  holds_right n m hs ks e h i l =
      let d : m + i ≡ n + (length hs + i) = omega arith in
      rw d (h (length hs + i) (omega (arith, length-append hs ks))) ∙ ap (gate_truth u) (get_or-append-add hs ks i none)

  holds_last : (n m : ℕ) (hs : List Gate) (k : Gate) → suc (n + length hs) ≡ m → Holds n (hs ++ k ∷ []) → u (a + f + m) ≡ gate_truth u k
  holds_last n m hs k e h =
      let d : m ≡ suc (n + length hs + 0) = omega arith in
      rw d (holds_right n (n + length hs) hs (k ∷ []) refl h 0 (omega arith))

  -- those of two formulas, and a gate of the two
  two_hold : (n : ℕ) (x y : Formula) (k : Gate) → Holds n (gates_of a f n x ++ gates_of a f (n + operators x) y ++ k ∷ []) → Holds n (gates_of a f n x) × Holds (n + operators x) (gates_of a f (n + operators x) y) × (u (a + f + (n + suc (operators x + operators y))) ≡ gate_truth u k)
  two_hold n x y k h =
      let hs : List Gate = gates_of a f n x in
      let ks : List Gate = gates_of a f (n + operators x) y in
      let front : Holds n (hs ++ ks) = holds_left n (hs ++ ks) (k ∷ []) h in
      let d : length hs ≡ operators x = length_gates a f n x in
      let e : length ks ≡ operators y = length_gates a f (n + operators x) y in
      (holds_left n hs ks front, holds_right n (n + operators x) hs ks (omega arith) front, holds_last n (n + suc (operators x + operators y)) (hs ++ ks) k (simp length-append (omega arith)) h)

  -- s is that of switches, and g of faults
  module _ (s g : ℕ → Bool) (switches : (k : ℕ) → Among a k → u k ≡ s k) (faults : (k : ℕ) → Among f k → u (a + k) ≡ g k) where
    -- by the formula: its gate stands last, behind those of its parts, and names their points
    formula_true_lem : (n : ℕ) (x : Formula) → OnSheet a f x → Holds n (gates_of a f n x) → u (point a f n x) ≡ formula_true s g x
    unfolding point gates_of operators formula_true
    formula_true_lem n (Formula.switch k) o h = switches k o
    formula_true_lem n (Formula.fault k) o h = faults k o
    formula_true_lem n (Formula.not x) o h =
        let k : Gate = Gate.not (point a f n x) in
        holds_last n (n + suc (operators x)) (gates_of a f n x) k (omega (arith, length_gates a f n x)) h ∙ ap not (formula_true_lem n x o (holds_left n (gates_of a f n x) (k ∷ []) h))
    formula_true_lem n (Formula.and x y) (o, p) h =
        let (i, j, e) = two_hold n x y (Gate.and (point a f n x) (point a f (n + operators x) y)) h in
        e ∙ ap₂ ◌&&◌ (formula_true_lem n x o i) (formula_true_lem (n + operators x) y p j)
    formula_true_lem n (Formula.or x y) (o, p) h =
        let (i, j, e) = two_hold n x y (Gate.or (point a f n x) (point a f (n + operators x) y)) h in
        e ∙ ap₂ ◌||◌ (formula_true_lem n x o i) (formula_true_lem (n + operators x) y p j)

    formulas_true : (n : ℕ) (xs : List Formula) → All (OnSheet a f) xs → Holds n (all_gates a f n xs) → map u (all_points a f n xs) ≡ map (formula_true s g) xs
    unfolding all_gates all_points
    formulas_true n [] o h = refl
    formulas_true n (x ∷ xs) (o, os) h =
        let m : ℕ = n + operators x in
        let hs : List Gate = gates_of a f n x in
        let ks : List Gate = all_gates a f m xs in
        ap₂ (λ b v. b ∷ v) (formula_true_lem n x o (holds_left n hs ks h)) (formulas_true m xs os (holds_right n m hs ks (omega (arith, length_gates a f n x)) h))

-- ---- the sheet

all_values : {A : Type 0} (p : A → Bool) (s : List A) → all s p ≡ all (map p s) (λ b. b)
all_values p [] = refl
all_values p (x ∷ s) = ap (λ b. p x && b) (all_values p s)

-- whose formulas name only switches and faults on it
module _ (v : Typed) (o : All (OnSheet v.switches v.faults) v.rules) (plan pattern : ℕ) where
  pub rules_true : map (truth (sheet_of v) plan pattern) (sheet_of v).rules ≡ map (formula_true (switch_on (sheet_of v) plan) (fault_on (sheet_of v) pattern)) v.rules
  unfolding sheet_of fault_on
  rules_true =
      let t : Sheet = sheet_of v in
      let a : ℕ = v.switches in
      let f : ℕ = v.faults in
      let ordered : Ordered (a + f) t.gates = rw add-zero at (all_ordered a f 0 v.rules o) in
      formulas_true a f (truth t plan pattern) (switch_on t plan) (fault_on t pattern) (truth_switch t plan pattern) (truth_fault t plan pattern) 0 v.rules o (λ i l. rw zero-add (truth_gate t plan pattern ordered none i l))

  pub passes_written : passes (sheet_of v) plan pattern ≡ all v.rules (formula_true (switch_on (sheet_of v) plan) (fault_on (sheet_of v) pattern))
  unfolding passes
  passes_written = all_values (truth (sheet_of v) plan pattern) (sheet_of v).rules ∙ ap (λ s. all s (λ b. b)) rules_true ∙ sym (all_values (formula_true (switch_on (sheet_of v) plan) (fault_on (sheet_of v) pattern)) v.rules)

pub wishes_written : (v : Typed) (plan : ℕ) → map (λ w. kept (sheet_of v) plan w.clause) (sheet_of v).wishes ≡ map (λ w. any w.clause (literal_true (switch_on (sheet_of v) plan))) v.wishes
unfolding sheet_of kept keeps
wishes_written v plan = refl
