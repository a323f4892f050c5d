-- What follows for a job from what was read. Assumes nothing.
-- A theorem that was given stays, though nothing cites it: `short_refused`, `rating_refused`, `rating_high`, `rating_low`, `high_of_none`, `high_of_some`, `high_next`, `high_start`, `answer_run`.
use Rattle.std.specs.Prelude.{ℕ, zero, suc, ◌+◌, ◌≤◌, ◌<◌, List, [], ◌∷◌, ◌≡◌, refl, length, get_or, take, drop, Option, Some, None, MatchOption, Result, Ok, Err, IfOk}
use Rattle.std.specs.List.{AllWithin, HoldsAt}
use Rattle.std.proofs.Common.{arith, add-one, sym, ap, ap₂, drop_of_length-le, drop-cons, length-take-le, lt-ltb, le-ltb}
use Rattle.std.proofs.Math.Option.{none, some}
use Rattle.scope.specs.Sheet.{Sheet, Valid}
use Rattle.scope.specs.Causes.{Read, accepted, refused}
use Rattle.scope.specs.Source.{Source}
use Rattle.scope.specs.Meaning.{plans, patterns, cost}
use Rattle.scope.specs.Rule.{verdict_of, missed, short, best}
use Rattle.scope.specs.Jobs.{task, refusal, found, result, answered, answer_of, first_high, short_of, rated, unrated, rating_of}
use Rattle.words.specs.declared.refusal.Cause.{Cause}
use Rattle.words.specs.Refusals.{number_of}
use Rattle.words.specs.Told.{told}
use Rattle.search.specs.declared.best.Candidate.{Candidate}
use Rattle.search.specs.declared.run.NoRoom.{NoRoom}
use Rattle.search.specs.declared.run.Run as made
use Rattle.search.specs.Answers.{best_of, Priced, verdict_by, verdict_from, Ran}
use Rattle.jobs.specs.Steps.{best_figures, full_figures, run_figures, high_of}

-- ---- what a reader's result tells

pub reads : (t : Sheet) → told (Ok t) ≡ accepted t
reads t = refl

pub reads_valid : (t : Sheet) → Source (told (Ok t)) → Valid t
reads_valid t h = h.valid t (reads t)

module _ (c : Cause) where
  pub is_refused : told (Err c) ≡ refused (number_of c.refusal) c.place c.column
  is_refused = refl

  pub answer_refused : (lent : List ℕ) → answer_of (told (Err c)) lent ≡ answered (refusal (number_of c.refusal) c.place c.column 0) lent
  answer_refused lent = refl

  pub short_refused : (l : List ℕ) → short_of (told (Err c)) l ≡ refusal (number_of c.refusal) c.place c.column 0
  short_refused l = refl

  pub rating_refused : (p : ℕ) → rating_of (told (Err c)) p ≡ unrated (number_of c.refusal) c.place c.column
  rating_refused p = refl

-- ---- the first number that is too high

pub high_none : (bound i : ℕ) (l : List ℕ) → ((k : ℕ) → k < length l → get_or l k 0 < bound) → none ≡ first_high bound i l
high_none bound i [] h = refl
high_none bound i (q ∷ l) h = rw (lt-ltb q bound (h 0 (omega arith))) (high_none bound (suc i) l (λ k m. h (suc k) (omega arith)))

pub high_some : (bound i : ℕ) (l : List ℕ) (k : ℕ) → k < length l → bound ≤ get_or l k 0 → ((m : ℕ) → m < k → get_or l m 0 < bound) → some (i + k) ≡ first_high bound i l
high_some bound i [] k h g before = absurd (omega arith)
high_some bound i (q ∷ l) zero h g before = rw (le-ltb q bound g) (ap some (omega arith))
high_some bound i (q ∷ l) (suc k) h g before =
    rw (lt-ltb q bound (before 0 (omega arith)), ← high_some bound (suc i) l k (omega arith) g (λ m n. before (suc m) (omega arith))) (ap some (omega arith))

-- the position of a place
pub high_of_none : high_of None ≡ none
high_of_none = refl

pub high_of_some : (i : ℕ) → high_of (Some i) ≡ some (suc i)
high_of_some i = refl

-- o is the place that a search of the list finds
pub high_found : (bound : ℕ) (l : List ℕ) (o : Option ℕ) → MatchOption o (AllWithin (λ q. q < bound) l 0 (length l)) (λ i. (i < length l) × HoldsAt (λ q. bound ≤ q) l i × AllWithin (λ q. q < bound) l 0 i) → high_of o ≡ first_high bound 1 l
high_found bound l None h = high_none bound 1 l (λ k m. h k 0 (omega arith) m)
high_found bound l (Some i) h =
    let e : suc i ≡ 1 + i = omega arith in
    rw e (high_some bound 1 l i h.0 (h.1 0) (λ m n. h.2 m 0 (omega arith) n))

-- ---- the same, from position i on

pub high_next : (bound i : ℕ) (l : List ℕ) (k : ℕ) → k < length l → get_or l k 0 < bound → first_high bound (i + k) (drop k l) ≡ first_high bound (i + (k + 1)) (drop (k + 1) l)
high_next bound i l k h g =
    let n : suc (i + k) ≡ i + suc k = omega arith in
    rw (drop-cons l k 0 h, lt-ltb (get_or l k 0) bound g, add-one k, n)

pub high_here : (bound i : ℕ) (l : List ℕ) (k : ℕ) → k < length l → bound ≤ get_or l k 0 → first_high bound (i + k) (drop k l) ≡ some (i + k)
high_here bound i l k h g = rw (drop-cons l k 0 h, le-ltb (get_or l k 0) bound g)

pub high_start : (bound : ℕ) (l : List ℕ) → first_high bound (1 + 0) (drop 0 l) ≡ first_high bound 1 l
high_start bound l = refl

pub high_end : (bound i : ℕ) (l : List ℕ) (k : ℕ) → length l ≤ k → first_high bound (i + k) (drop k l) ≡ none
high_end bound i l k h = rw (drop_of_length-le l h)

-- ---- a verdict's figures

pub best_figures_lem : (t : Sheet) (b : Option Candidate) (l : ℕ) → Priced (task t) b → best_figures b l ≡ result t (verdict_of (best_of b)) l
best_figures_lem t None l h = refl
best_figures_lem t (Some c) l h = ap (λ m. found c.plan.0 m l) h

module _ (r : Read) (t : Sheet) (e : r ≡ accepted t) where
  -- ---- Rating
  pub rating_high : (p : ℕ) → plans t ≤ p → rating_of r p ≡ unrated 10 0 0
  rating_high p h = rw (e, le-ltb p (plans t) h)

  pub rating_low : (p : ℕ) → p < plans t → rating_of r p ≡ rated (cost t p) (missed (task t) p)
  rating_low p h = rw (e, lt-ltb p (plans t) h)

  -- ---- Short run
  pub short_high : (l : List ℕ) (i : ℕ) → first_high (patterns t) 1 l ≡ some i → short_of r l ≡ refusal 11 i 0 0
  short_high l i h = rw (e, h)

  pub short_low : (l : List ℕ) (b : Option Candidate) → first_high (patterns t) 1 l ≡ none → best_of b ≡ best (task t) l → Priced (task t) b → short_of r l ≡ best_figures b 0
  unfolding short
  short_low l b h f g = rw (e, h, ← f) (sym (best_figures_lem t b 0 g))

-- ---- Answer

run_figures_lem : (t : Sheet) (r : made.Run) → IfOk r.best (Priced (task t)) → run_figures r ≡ result t (verdict_from r) r.length
run_figures_lem t r h = go r.best h
  where
    go : (b : Result (Option Candidate) NoRoom) → IfOk b (Priced (task t)) → full_figures b r.length ≡ result t (verdict_by b) r.length
    go (Ok b) p = best_figures_lem t b r.length p
    go (Err e) p = refl

pub answer_run : (r : Read) (lent after : List ℕ) (t : Sheet) (m : made.Run) → r ≡ accepted t → length after ≡ length lent → Ran (task t) lent m after → answered (run_figures m) after ≡ answer_of r lent
answer_run r lent after t m e n h =
    let k : length (take m.length after) ≡ m.length = length-take-le m.length after (omega (arith, h.fits)) in
    rw (e, h.ruled, k) (ap₂ answered (run_figures_lem t m h.priced) (rw k at h.list))
