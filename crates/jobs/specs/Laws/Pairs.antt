-- The three calls of demand 3 keep it, as each returns what its job gives. Assumes nothing.
-- A theorem that was given stays, though nothing cites it: `front_within`.
use Rattle.std.specs.Prelude.{ℕ, ◌≤◌, cond, List, ◌≡◌, refl, ltb, length, take, Result, Ok, Err}
use Rattle.std.proofs.Math.Decide.{dec_le}
use Rattle.std.proofs.Common.{arith, sym, ap, subst, ◌∙◌, take-take, take_all, length-take-le, lt-ltb, le-ltb}
use Rattle.scope.specs.Causes.{Read}
use Rattle.scope.specs.Source.{Source}
use Rattle.scope.specs.Jobs.{Answer, answer_of, short_of}
use Rattle.scope.specs.Jobs as jobs
use Rattle.scope.specs.Demands.{listed, Runs}
use Rattle.scope.proofs.Claims.{demand3}
use Rattle.scope.proofs.Laws.Outputs.{listed_small}
use Rattle.words.specs.declared.refusal.Cause.{Cause}
use Rattle.search.specs.declared.best.Candidate.{Candidate}
use Rattle.jobs.specs.declared.outcome.Outcome.{Outcome}
use Rattle.jobs.specs.Figures.{answer_figures, result_of, answer_from}

-- the first j words of the first n, or all n
pub front_words : (l : List ℕ) (j n : ℕ) → n ≤ length l → take (cond (ltb j n) j n) l ≡ take j (take n l)
front_words l j n h = go (dec_le n j)
  where
    go : Dec (n ≤ j) → take (cond (ltb j n) j n) l ≡ take j (take n l)
    go (yes g) = rw (le-ltb j n g) (sym (take_all j (take n l) (omega (arith, length-take-le n l h))))
    go (no g) = rw (lt-ltb j n (omega arith)) (sym (take-take j n l (omega arith)))

pub front_within : (j n : ℕ) → cond (ltb j n) j n ≤ n
front_within j n = go (dec_le n j)
  where
    go : Dec (n ≤ j) → cond (ltb j n) j n ≤ n
    go (yes g) = rw (le-ltb j n g) (omega arith)
    go (no g) = rw (lt-ltb j n (omega arith)) (omega arith)

-- demand 3 is carried over from the definitions to what was returned
pub runs : (r : Read) (lent : List ℕ) (j : ℕ) (a : Answer) (short front : jobs.Result) → a ≡ answer_of r lent → short ≡ short_of r (listed a) → front ≡ short_of r (take j (listed a)) → Runs r lent j a short front
runs r lent j a short front e f g = record {
  full_run = e;
  short_run = f;
  front_run = g;
  kept = rw (f, g, e) (demand3 r lent j);
}

-- the words listed stand in the list
pub listed_within : (r : Read) → Source r → (lent after : List ℕ) (o : Outcome) → answer_from o after ≡ answer_of r lent → o.length ≤ length lent
listed_within r h lent after o e = go o.answer (subst (λ a. a.result.length ≤ length lent) (sym e) (listed_small r h lent).0)
  where
    go : (a : Result Candidate Cause) → (answer_figures a o.length).length ≤ length lent → o.length ≤ length lent
    go (Ok c) l = l
    go (Err e) l = l

-- and they are as many as the outcome says
listed_is : (o : Outcome) (l : List ℕ) → listed (answer_from o l) ≡ take o.length l
listed_is o l = go o.answer
  where
    go : (a : Result Candidate Cause) → take (answer_figures a o.length).length l ≡ take o.length l
    go (Ok c) = refl
    go (Err e) = refl

-- a short run over the words listed, and one over the first j of them
pub pair_runs : (r : Read) (lent after : List ℕ) (j : ℕ) (o short front : Outcome) → answer_from o after ≡ answer_of r lent → result_of short ≡ short_of r (take o.length after) → result_of front ≡ short_of r (take j (take o.length after)) → Runs r lent j (answer_from o after) (result_of short) (result_of front)
pair_runs r lent after j o short front e f g =
    runs r lent j (answer_from o after) (result_of short) (result_of front) e (f ∙ ap (short_of r) (sym (listed_is o after))) (g ∙ ap (λ l. short_of r (take j l)) (sym (listed_is o after)))
