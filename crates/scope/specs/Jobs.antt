-- The jobs: each field of each result, for every sheet, list and number. Assumes nothing.
use Rattle.std.specs.Prelude.{ℕ, suc, Bool, true, false, cond, List, [], ◌∷◌, ◌++◌, ltb, length, drop}
use Rattle.std.proofs.Math.Option.{Option, none, some}
use Rattle.scope.specs.Sheet.{Sheet}
use Rattle.scope.specs.Causes.{Read, accepted, refused}
use Rattle.scope.specs.Source.{Gives}
use Rattle.scope.specs.Meaning.{plans, patterns, passes, cost}
use Rattle.scope.specs.Rule.{Task, Verdict, plan, no_plan, no_room, Run, missed, short, rule}

abbrev pub task : Sheet → Task
task t = record { passes = passes t; cost = cost t; plans = plans t; patterns = patterns t }

-- ---- what Answer and Short run return

pub record Result : Type 0 where
  pub number : ℕ
  pub place : ℕ
  pub column : ℕ
  pub plan : ℕ
  pub cost : ℕ
  pub length : ℕ

-- fields not named are 0 on refusal
abbrev pub refusal : (number place column length : ℕ) → Result
refusal n place column l = record { number = n; place = place; column = column; plan = 0; cost = 0; length = l }

abbrev pub found : ℕ → ℕ → ℕ → Result
found p c l = record { number = 0; place = 0; column = 0; plan = p; cost = c; length = l }

-- 8: no plan; 9: the list is longer than its room
abbrev pub result : Sheet → Verdict → ℕ → Result
result t (plan p) l = found p (cost t p) l
result t no_plan l = refusal 8 0 0 l
result t no_room l = refusal 9 0 0 l

-- ---- Answer, the full run: the result, and the lent list afterwards

pub record Answer : Type 0 where
  pub result : Result
  pub list : List ℕ

abbrev pub answered : Result → List ℕ → Answer
answered r l = record { result = r; list = l }

-- words after those listed keep their content
abbrev pub over : List ℕ → List ℕ → List ℕ
over words lent = words ++ drop (length words) lent

abbrev pub answer_of : Read → List ℕ → Answer
answer_of (accepted t) lent =
    let r : Run = rule (task t) (length lent) [] in
    answered (result t r.verdict (length r.words)) (over r.words lent)
answer_of (refused n place column) lent = answered (refusal n place column 0) lent

-- a is what Answer gives; R says what is read, as here and below
abbrev pub IsAnswer : (R : Read → Type 0) → (lent : List ℕ) → Answer → Type 0
IsAnswer R lent a = Gives R (λ r. answer_of r lent) a

-- ---- Short run: the best plan that passes the given patterns

-- position, from 1, of the first number that is not below the bound
abbrev pub first_high : ℕ → ℕ → List ℕ → Option ℕ
first_high bound i [] = none
first_high bound i (q ∷ l) = cond (ltb q bound) (first_high bound (suc i) l) (some i)

-- 11: a given pattern is 2^f or more
abbrev pub short_below : Sheet → List ℕ → Option ℕ → Result
short_below t l none = result t (short (task t) l) 0
short_below t l (some i) = refusal 11 i 0 0

abbrev pub short_of : Read → List ℕ → Result
short_of (accepted t) l = short_below t l (first_high (patterns t) 1 l)
short_of (refused n place column) l = refusal n place column 0

abbrev pub IsShortRun : (R : Read → Type 0) → (patterns : List ℕ) → Result → Type 0
IsShortRun R l b = Gives R (λ r. short_of r l) b

-- ---- Rating: the cost of a plan, whether it is sound, and the smallest pattern that it does not pass

pub record Rating : Type 0 where
  pub number : ℕ
  pub place : ℕ
  pub column : ℕ
  pub cost : ℕ
  pub sound : Bool
  pub pattern : ℕ
  pub length : ℕ

abbrev pub unrated : (number place column : ℕ) → Rating
unrated n place column = record { number = n; place = place; column = column; cost = 0; sound = false; pattern = 0; length = 0 }

abbrev pub rated : ℕ → Option ℕ → Rating
rated c none = record { number = 0; place = 0; column = 0; cost = c; sound = true; pattern = 0; length = 0 }
rated c (some q) = record { number = 0; place = 0; column = 0; cost = c; sound = false; pattern = q; length = 0 }

-- 10: the rated plan is 2^a or more
abbrev pub rating_of : Read → ℕ → Rating
rating_of (accepted t) p = cond (ltb p (plans t)) (rated (cost t p) (missed (task t) p)) (unrated 10 0 0)
rating_of (refused n place column) p = unrated n place column

abbrev pub IsRating : (R : Read → Type 0) → (plan : ℕ) → Rating → Type 0
IsRating R p b = Gives R (λ r. rating_of r p) b
