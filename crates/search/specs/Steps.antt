-- What steps of the code give: in no promise of an exported call. Assumes nothing.
use Rattle.std.specs.Prelude.{ℕ, ◌<◌, Bool, true, false, ◌&&◌, ◌||◌, List, [], ◌∷◌, ◌++◌, ◌≡◌, eqb, leb, ltb, Option, Some, None}
use Rattle.std.proofs.Math.Option.{none, some}
use Rattle.scope.specs.Rule.{Task, passes_all, best, next}
use Rattle.words.specs.declared.Pattern.{Pattern}
use Rattle.search.specs.declared.best.Candidate.{Candidate}
use Rattle.search.specs.Answers.{best_of, Priced}

-- whether a later plan of cost c would take over from the best so far
abbrev pub improves_of : Option Candidate → ℕ → Bool
improves_of None c = true
improves_of (Some b) c = ltb c b.cost

-- whether plan n, of cost c, is the candidate or better than it
abbrev pub fails_of : Option Candidate → (c n : ℕ) → Bool
fails_of None c n = false
fails_of (Some b) c n = ltb c b.cost || (eqb c b.cost && leb n b.plan.0)

-- all those plans fail the list
pub record Fails (t : Task) (l : List ℕ) (b : Option Candidate) : Type 0 where
  pub fail : (n : ℕ) → n < t.plans → fails_of b (t.cost n) n ≡ true → passes_all t n l ≡ false

-- a round with the candidate b: the run is done, or a pattern is listed next, which the candidate fails
abbrev pub Stepped : Task → List ℕ → Option Candidate → Option Pattern → Type 0
Stepped t l b None = (next t l ≡ none) × (best_of b ≡ best t l) × Priced t b
Stepped t l b (Some q) = (next t l ≡ some q.0) × Fails t (l ++ q.0 ∷ []) b
