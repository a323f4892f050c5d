-- What a sheet means: the truth of points, when a plan passes a pattern, and what a plan costs. Assumes nothing.
use Rattle.std.specs.Prelude.{ℕ, zero, suc, ◌+◌, ◌-◌, ◌/◌, ◌%◌, ◌^◌, Bool, true, false, cond, not, ◌&&◌, ◌||◌, List, [], ◌∷◌, ◌++◌, eqb, get_or}
use Rattle.scope.specs.Sheet.{Number, Clause, Gate, Wish, Sheet, sheet}

-- the library's `all` and `any`, which do not compute outside of it
abbrev pub all : {A : Type 0} → List A → (A → Bool) → Bool
all [] f = true
all (a ∷ s) f = f a && all s f

abbrev pub any : {A : Type 0} → List A → (A → Bool) → Bool
any [] f = false
any (a ∷ s) f = f a || any s f

-- ---- plans (the source's μ) and patterns (its ν): n switches or faults as binary digits of k, the first highest, on as 1

unfoldable pub bits : ℕ → ℕ → List Bool
bits zero k = []
bits (suc n) k = bits n (k / 2) ++ eqb (k % 2) 1 ∷ []

-- element p, counted from 1
abbrev pub nth : List Bool → ℕ → Bool
nth v p = get_or v (p - 1) false

-- ---- points: switches, then faults, then gates, each by the truth of the points before it

abbrev pub gate_truth : (ℕ → Bool) → Gate → Bool
gate_truth v (Gate.not p) = not (v p)
gate_truth v (Gate.and p q) = v p && v q
gate_truth v (Gate.or p q) = v p || v q

unfoldable pub truths : List Bool → List Gate → List Bool
truths v [] = v
truths v (g ∷ gs) = truths (v ++ gate_truth (nth v) g ∷ []) gs

-- ---- wishes: a clause is kept when one of its literals is true, so one with none is always broken

abbrev pub literal_true : (ℕ → Bool) → Number → Bool
literal_true v x = cond x.minus (not (v x.size)) (v x.size)

unfoldable pub keeps : (ℕ → Bool) → Clause → Bool
keeps v w = any w (literal_true v)

-- the weights of those that are broken, added up: the source's linear cost; each counts every time it is written
unfoldable pub broken : (ℕ → Bool) → List Wish → ℕ
broken v [] = 0
broken v (w ∷ ws) = cond (keeps v w.clause) 0 w.weight + broken v ws

-- ---- a sheet
module _ (t : Sheet) where
  abbrev pub plans : ℕ
  plans = 2 ^ t.switches

  abbrev pub patterns : ℕ
  patterns = 2 ^ t.faults

  unfoldable pub switch_on : (plan : ℕ) → ℕ → Bool
  switch_on plan = nth (bits t.switches plan)

  unfoldable pub fault_on : (pattern : ℕ) → ℕ → Bool
  fault_on pattern = nth (bits t.faults pattern)

  unfoldable pub truth : (plan pattern : ℕ) → ℕ → Bool
  truth plan pattern = nth (truths (bits t.switches plan ++ bits t.faults pattern) t.gates)

  -- all rules are true
  unfoldable pub passes : (plan pattern : ℕ) → Bool
  passes plan pattern = all t.rules (truth plan pattern)

  unfoldable pub kept : (plan : ℕ) → Clause → Bool
  kept plan = keeps (switch_on plan)

  -- the weight of the broken wishes
  unfoldable pub cost : (plan : ℕ) → ℕ
  cost plan = broken (switch_on plan) t.wishes

-- what these wishes cost on a sheet with these switches, faults, gates and rules
abbrev pub costs : (a f : ℕ) → List Gate → List ℕ → (plan : ℕ) → List Wish → ℕ
costs a f gs rs plan ws = cost (sheet a f gs rs ws) plan
