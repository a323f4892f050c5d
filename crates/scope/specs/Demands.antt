-- Demands 1, 2 and 3, and what Short run and Rating give, in plain quantifiers. Assumes nothing.
use Rattle.std.specs.Prelude.{ℕ, ◌≤◌, ◌<◌, true, false, List, [], ◌↔◌, ◌≢◌, ◌⊎◌, ◌≡◌, length, get_or, take}
use Rattle.scope.specs.Sheet.{Sheet, weighted}
use Rattle.scope.specs.Causes.{Read, accepted, refused}
use Rattle.scope.specs.Sheets.{SheetRead, SheetRefusal}
use Rattle.scope.specs.Meaning.{plans, patterns, passes, cost}
use Rattle.scope.specs.Rule.{whole}
use Rattle.scope.specs.Jobs.{task, Result, refusal, found, Answer, answered, over, answer_of, short_of, Rating}

-- ---- plans

pub record Sound (t : Sheet) (p : ℕ) : Type 0 where
  pub plan : p < plans t
  pub passes : (q : ℕ) → q < patterns t → passes t p q ≡ true

pub record Passes (t : Sheet) (l : List ℕ) (p : ℕ) : Type 0 where
  pub plan : p < plans t
  pub passes : (i : ℕ) → i < length l → passes t p (get_or l i 0) ≡ true

-- the best of the plans that are ok: none ok is cheaper, and none ok at the same cost is smaller
pub record Best (t : Sheet) (ok : ℕ → Type 0) (p : ℕ) : Type 0 where
  pub is_ok : ok p
  pub cheapest : (k : ℕ) → ok k → cost t p ≤ cost t k
  pub smallest : (k : ℕ) → ok k → cost t k ≤ cost t p → p ≤ k

-- the list by the rule, with room for every pattern
abbrev pub list : Sheet → List ℕ
list t = (whole (task t)).words

-- ---- demand 1: an answer or one numbered refusal, and with each number every figure and every word of the list

-- R says what is read
pub data Ending (R : Read → Type 0) (lent : List ℕ) : Answer → Type 0 where
  -- 0: the best sound plan, its cost, and the list, which has room
  plan : {t : Sheet} {p : ℕ} → R (accepted t) → length (list t) ≤ length lent → Best t (Sound t) p → Ending R lent (answered (found p (cost t p) (length (list t))) (over (list t) lent))
  -- 8: no plan is sound, and the list, which has room
  no_plan : {t : Sheet} → R (accepted t) → length (list t) ≤ length lent → ((p : ℕ) → ¬ Sound t p) → Ending R lent (answered (refusal 8 0 0 (length (list t))) (over (list t) lent))
  -- 9: all words hold the beginning of a list that is longer
  no_room : {t : Sheet} → R (accepted t) → length lent < length (list t) → Ending R lent (answered (refusal 9 0 0 (length lent)) (take (length lent) (list t)))
  -- the first cause to turn down what is read; the list is as it was
  turned_down : {c place column : ℕ} → R (refused c place column) → Ending R lent (answered (refusal c place column 0) lent)

-- of a sheet
pub record Demand1 (s lent : List ℕ) (a : Answer) : Type 0 where
  pub number : (a.result.number ≤ 9) ⊎ (a.result.number ≡ 14)
  pub ending : Ending (SheetRead weighted s) lent a
  -- 1 to 7 and 14, each with its place and column
  pub refusal : a.result.number ≢ 0 → a.result.number ≢ 8 → a.result.number ≢ 9 → SheetRefusal weighted a.result.number a.result.place a.result.column

-- ---- demand 2: the answer is the best sound plan; with room, 8 exactly if there is none; the words are the list, or its beginning

pub record Demand2 (t : Sheet) (lent : List ℕ) (a : Answer) : Type 0 where
  pub plan : (p : ℕ) → (a.result ≡ found p (cost t p) (length (list t))) ↔ ((length (list t) ≤ length lent) × Best t (Sound t) p)
  pub no_plan : (a.result ≡ refusal 8 0 0 (length (list t))) ↔ ((length (list t) ≤ length lent) × ((p : ℕ) → ¬ Sound t p))
  pub no_room : (a.result ≡ refusal 9 0 0 (length lent)) ↔ (length lent < length (list t))
  pub words : a.list ≡ over (take (length lent) (list t)) lent

-- ---- demand 3: Answer, then Short run over the words that it listed, and Short run over the first j of them

pub record SameVerdict (r q : Result) : Type 0 where
  pub number : r.number ≡ q.number
  pub place : r.place ≡ q.place
  pub column : r.column ≡ q.column
  pub plan : r.plan ≡ q.plan
  pub cost : r.cost ≡ q.cost

-- another verdict, or another plan
abbrev pub Differ : Result → Result → Type 0
Differ r q = (r.number ≢ q.number) ⊎ (r.plan ≢ q.plan)

-- the first L words after 0 or 8, all K after 9, none if the sheet is turned down
abbrev pub listed : Answer → List ℕ
listed a = take a.result.length a.list

-- a short run that ends in 0 with a plan whose smallest pattern not passed is q
pub record Misses (t : Sheet) (r : Result) (q : ℕ) : Type 0 where
  pub ends : r ≡ found r.plan (cost t r.plan) 0
  pub plan : r.plan < plans t
  pub pattern : q < patterns t
  pub fails : passes t r.plan q ≡ false
  pub first : (k : ℕ) → k < q → passes t r.plan k ≡ true

-- an accepted sheet: a is Answer's, `short` is of the short run over all that it listed, and `front` of the one over the first j
pub record Pair (t : Sheet) (lent : List ℕ) (j : ℕ) (a : Answer) (short front : Result) : Type 0 where
  -- word for word the list by the rule, or after 9 its beginning
  pub whole : a.result.number ≢ 9 → listed a ≡ list t
  pub begun : a.result.number ≡ 9 → (listed a ≡ take (length lent) (list t)) × (length lent < length (list t))
  -- the list by the rule repeats no pattern, and is no longer than the smaller of 2^a and 2^f; so its beginning does not and is not
  pub apart : (i k : ℕ) → i < k → k < length (list t) → get_or (list t) i 0 ≢ get_or (list t) k 0
  pub few : (length (list t) ≤ plans t) × (length (list t) ≤ patterns t)
  -- over any shorter beginning the short run ends in a plan that does not pass the next listed pattern
  pub needed : j < length (listed a) → Misses t front (get_or (listed a) j 0)
  -- and so in another verdict or plan than the full run's
  pub differs : j < length (listed a) → Differ a.result front
  -- after 9 it does both over all of them, and the pattern is the one that the rule lists next
  pub unfinished : a.result.number ≡ 9 → Misses t short (get_or (list t) (length lent) 0) × Differ a.result short

-- r is what was read, from whatever form
pub record Demand3 (r : Read) (lent : List ℕ) (j : ℕ) (a : Answer) (short front : Result) : Type 0 where
  -- the same verdict (with its place and column), plan and cost after a plan, "no plan" or a refused sheet
  pub agrees : a.result.number ≢ 9 → SameVerdict a.result short
  pub turned_down : (c place column : ℕ) → r ≡ refused c place column → (listed a ≡ []) × (a.list ≡ lent) × SameVerdict a.result front
  pub lists : (t : Sheet) → r ≡ accepted t → Pair t lent j a short front

-- what the three calls returned and left in the list: each is what its job gives, and together they keep demand 3
pub record Runs (r : Read) (lent : List ℕ) (j : ℕ) (a : Answer) (short front : Result) : Type 0 where
  pub full_run : a ≡ answer_of r lent
  pub short_run : short ≡ short_of r (listed a)
  pub front_run : front ≡ short_of r (take j (listed a))
  pub kept : Demand3 r lent j a short front

-- R says what is read
pub record IsPair (R : Read → Type 0) (lent : List ℕ) (j : ℕ) (a : Answer) (short front : Result) : Type 0 where
  pub read : Read
  pub is_read : R read
  pub runs : Runs read lent j a short front

-- ---- Short run: the best plan that passes the given patterns

pub record ShortRun (t : Sheet) (l : List ℕ) (r : Result) : Type 0 where
  pub plan : (p : ℕ) → (r ≡ found p (cost t p) 0) ↔ Best t (Passes t l) p
  pub no_plan : (r ≡ refusal 8 0 0 0) ↔ ((p : ℕ) → ¬ Passes t l p)

-- ---- Rating

pub record Rates (t : Sheet) (p : ℕ) (r : Rating) : Type 0 where
  pub number : r.number ≡ 0
  pub place : r.place ≡ 0
  pub column : r.column ≡ 0
  pub cost : r.cost ≡ cost t p
  pub sound : (r.sound ≡ true) ↔ Sound t p
  pub pattern : r.sound ≡ false → (r.pattern < patterns t) × (passes t p r.pattern ≡ false)
  pub smallest : (q : ℕ) → q < r.pattern → passes t p q ≡ true
  pub zero : r.sound ≡ true → r.pattern ≡ 0
