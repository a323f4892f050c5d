-- A wish, literal by literal, and the wishes of a sheet, one by one: what the first of them cost. Assumes nothing.
use Rattle.std.specs.Prelude.{ℕ, ◌+◌, ◌<◌, Bool, true, false, cond, not, ◌||◌, List, ◌≡◌, [], ◌∷◌, take, length, get_or, Option, Some, None, MatchOption}
use Rattle.std.specs.List.{list_any}
use Rattle.std.proofs.Common.{add-one, ◌∙◌, refl, take-suc}
use Rattle.std.proofs.Math.Bool.{beq, or-false}
use Rattle.scope.specs.Sheet.{Wish, Sheet, All, Among}
use Rattle.scope.specs.Meaning.{bits, nth, switch_on, keeps, broken, kept, cost, costs}
use Rattle.scope.specs.Words.{no_wish}
use Rattle.scope.proofs.Laws.Alls.{all_parts}
use Rattle.scope.proofs.Laws.Wishes.{cost_one, cost_together}
use Rattle.words.specs.Entries.{literals_there, clause_there}
use Rattle.words.specs.Laws.Literals.{Named}
use Rattle.words.specs.declared.literal.Literal.{Literal}

-- ---- a literal that may be there
module _ (v : ℕ → Bool) where
  -- it is true where its switch is not as its minus says
  pub keeps_there : (o : Option Literal) (r : Bool) → MatchOption o (r ≡ false) (λ l. r ≡ not (beq (v l.switch) l.minus)) → r ≡ keeps v (literals_there o)
  unfolding keeps
  keeps_there None r h = h
  keeps_there (Some l) r h = h ∙ go (v l.switch) l.minus
    where
      go : (x m : Bool) → not (beq x m) ≡ (cond m (not x) x || false)
      go true true = refl
      go true false = refl
      go false true = refl
      go false false = refl

  -- and a wish is kept when one of its own is true
  pub keeps_each : (w : List (Option Literal)) → list_any (λ o. keeps v (literals_there o)) w ≡ keeps v (clause_there w)
  unfolding keeps clause_there
  keeps_each [] = refl
  keeps_each (None ∷ w) = keeps_each w
  keeps_each (Some l ∷ w) = rw (keeps_each w, or-false) refl

-- what a wish names, its literals name
pub named_each : (a : ℕ) (w : List (Option Literal)) → Named a (clause_there w) → All (λ o. Named a (literals_there o)) w
unfolding clause_there
named_each a [] h = tt
named_each a (o ∷ w) h = let (p, q) = all_parts (λ l. Among a l.size) (literals_there o) (clause_there w) h in (p, named_each a w q)

-- ---- the wishes of a sheet
module _ (t : Sheet) (plan : ℕ) where
  -- what the first i wishes cost
  abbrev pub first : ℕ → ℕ
  first i = costs t.switches t.faults t.gates t.rules plan (take i t.wishes)

  pub first_none : 0 ≡ first 0
  unfolding cost broken switch_on
  first_none = refl

  -- one more costs its weight if it is broken; b is whether it is kept
  pub first_next : (i : ℕ) (b : Bool) → i < length t.wishes → let w : Wish = get_or t.wishes i no_wish in b ≡ keeps (nth (bits t.switches plan)) w.clause → first (i + 1) ≡ first i + cond b 0 w.weight
  unfolding kept switch_on
  first_next i b h e = rw (add-one, take-suc t.wishes i no_wish h, e) (cost_together t.switches t.faults t.gates t.rules plan (take i t.wishes) (get_or t.wishes i no_wish ∷ []) ∙ rw cost_one)
