-- The best plan over a list, plan by plan. Assumes nothing.
use Rattle.std.specs.Prelude.{ℕ, ◌+◌, ◌<◌, Bool, List, [], ◌∷◌, ◌≡◌, refl, length, get_or, Option, Some, None}
use Rattle.std.specs.List.{list_all}
use Rattle.std.proofs.Math.Bool.{true, false}
use Rattle.std.proofs.Math.Option.{some}
use Rattle.std.proofs.Common.{sym, ap, ◌∙◌}
use Rattle.scope.specs.Pick.{keep, pick}
use Rattle.scope.specs.Rule.{Task, passes_all, best}
use Rattle.scope.proofs.Laws.Tests.{clash}
use Rattle.scope.proofs.Laws.Picks.{pick_next}
use Rattle.scope.proofs.Laws.Rules.{passes_at}
use Rattle.search.specs.declared.best.Candidate.{Candidate}
use Rattle.search.specs.Answers.{best_of, Priced}
use Rattle.search.specs.Steps.{improves_of}

-- each is passed
pub all_passed : (t : Task) (p : ℕ) (l : List ℕ) → list_all (t.passes p) l ≡ passes_all t p l
all_passed t p [] = refl
all_passed t p (q ∷ l) = rw (all_passed t p l)

-- a list with a pattern that is not passed is not passed
pub passes_not : (t : Task) (p : ℕ) (l : List ℕ) (i : ℕ) → i < length l → t.passes p (get_or l i 0) ≡ false → passes_all t p l ≡ false
passes_not t p l i h e = go (passes_all t p l) refl
  where
    go : (b : Bool) → passes_all t p l ≡ b → b ≡ false
    go true f = clash (passes_at t p l f i h) e
    go false f = refl

-- ---- the better of two: plan n of cost c after the best so far, b; `ok` is whether it passes the list
module _ (t : Task) (n c : ℕ) (b : Option Candidate) (ok : Bool) (priced : Priced t b) (cost : c ≡ t.cost n) where
  pub takes_over : improves_of b c ≡ true → ok ≡ true → some n ≡ keep t.cost ok n (best_of b)
  takes_over e f = rw f (go b priced e)
    where
      go : (b : Option Candidate) → Priced t b → improves_of b c ≡ true → some n ≡ keep t.cost true n (best_of b)
      go None h e = refl
      go (Some b) h e = rw (← h, ← cost, e)

  pub costs_more : improves_of b c ≡ false → best_of b ≡ keep t.cost ok n (best_of b)
  costs_more e = go b ok priced e
    where
      go : (b : Option Candidate) (ok : Bool) → Priced t b → improves_of b c ≡ false → best_of b ≡ keep t.cost ok n (best_of b)
      go None ok h e = clash refl e
      go (Some b) true h e = rw (← h, ← cost, e)
      go (Some b) false h e = refl

  pub fails : ok ≡ false → best_of b ≡ keep t.cost ok n (best_of b)
  fails f = rw f

-- ---- the best of the plans below n
abbrev pub Picks : Task → List ℕ → ℕ → Option Candidate → Type 0
Picks t l n b = best_of b ≡ pick t.cost (λ p. passes_all t p l) n

pub picks_none : (t : Task) (l : List ℕ) → Picks t l 0 None
unfolding pick
picks_none t l = refl

pub picks_next : (t : Task) (l : List ℕ) (n : ℕ) (b r : Option Candidate) → Picks t l n b → best_of r ≡ keep t.cost (passes_all t n l) n (best_of b) → Picks t l (n + 1) r
picks_next t l n b r e f = f ∙ ap (keep t.cost (passes_all t n l) n) e ∙ sym (pick_next t.cost (λ p. passes_all t p l) n)

pub picks_best : (t : Task) (l : List ℕ) (n : ℕ) (b : Option Candidate) → n ≡ t.plans → Picks t l n b → best_of b ≡ best t l
unfolding best
picks_best t l n b e f = f ∙ ap (pick t.cost (λ p. passes_all t p l)) e
