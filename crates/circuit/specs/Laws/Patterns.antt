-- Passing a pattern, rule by rule, and the first pattern missed, pattern by pattern. Assumes nothing.
use Rattle.std.specs.Prelude.{ℕ, zero, suc, ◌+◌, ◌≤◌, ◌<◌, Bool, true, false, ◌&&◌, List, [], ◌∷◌, ◌≡◌, refl, length, get_or, drop, Option, Some, None, MatchOption, IsSomeAnd}
use Rattle.std.proofs.Math.Decide.{dec_le}
use Rattle.std.proofs.Common.{add-one, arith, sym, drop_of_length-le, drop-cons}
use Rattle.std.proofs.Math.Bool.{not}
use Rattle.std.proofs.Math.Option.{none, some}
use Rattle.std.proofs.lemmas.Bool.{not-true}
use Rattle.scope.specs.Sheet.{Sheet}
use Rattle.scope.specs.Meaning.{all, truth, patterns, passes}
use Rattle.scope.specs.Rule.{missed}
use Rattle.scope.specs.Jobs.{task}
use Rattle.scope.proofs.Laws.Tests.{clash}
use Rattle.scope.proofs.Laws.Picks.{pick_iff}
use Rattle.words.specs.declared.Pattern.{Pattern}
use Rattle.circuit.specs.Answers.{missed_of}

-- ---- all of a list are true if each is, and not if one is not
module _ (v : ℕ → Bool) where
  all_of : (s : List ℕ) → ((i : ℕ) → i < length s → v (get_or s i 0) ≡ true) → true ≡ all s v
  all_of [] h = refl
  all_of (x ∷ s) h = rw (h 0 (omega arith)) (all_of s (λ i l. h (suc i) (omega arith)))

  all_but : (s : List ℕ) (i : ℕ) → i < length s → v (get_or s i 0) ≡ false → false ≡ all s v
  all_but [] i l e = absurd (omega arith)
  all_but (x ∷ s) zero l e = rw e
  all_but (x ∷ s) (suc i) l e = go (v x) (all_but s i (omega arith) e)
    where
      go : (b : Bool) → false ≡ all s v → false ≡ (b && all s v)
      go true h = h
      go false h = refl

-- those from i on, by the first of them
module _ (v : ℕ → Bool) (s : List ℕ) (i : ℕ) where
  pub all_step : i < length s → v (get_or s i 0) ≡ true → all (drop (i + 1) s) v ≡ all (drop i s) v
  all_step h e = rw (add-one, drop-cons s i 0 h, e)

  pub all_stop : i < length s → v (get_or s i 0) ≡ false → false ≡ all (drop i s) v
  all_stop h e = rw (drop-cons s i 0 h, e)

  pub all_end : length s ≤ i → true ≡ all (drop i s) v
  all_end h = rw (drop_of_length-le s h)

-- ---- all rules
module _ (t : Sheet) (plan pattern : ℕ) where
  pub passes_rules : ((i : ℕ) → i < length t.rules → truth t plan pattern (get_or t.rules i 0) ≡ true) → true ≡ passes t plan pattern
  unfolding passes
  passes_rules = all_of (truth t plan pattern) t.rules

  pub passes_but : (i : ℕ) → i < length t.rules → truth t plan pattern (get_or t.rules i 0) ≡ false → false ≡ passes t plan pattern
  unfolding passes
  passes_but = all_but (truth t plan pattern) t.rules

-- ---- a search from below that stops at the first pattern missed: the definition picks the best of those not passed, and all cost 0, so
-- that is the smallest
module _ (t : Sheet) (p : ℕ) where
  pub missed_none : ((q : ℕ) → q < patterns t → passes t p q ≡ true) → none ≡ missed (task t) p
  unfolding missed
  missed_none h = sym ((pick_iff (λ q. 0) (λ q. not (passes t p q)) (patterns t) none).1 (λ q l. rw (h q l)))

  pub missed_first : (q : ℕ) → q < patterns t → passes t p q ≡ false → ((k : ℕ) → k < q → passes t p k ≡ true) → some q ≡ missed (task t) p
  unfolding missed
  missed_first q l f before = sym ((pick_iff (λ q. 0) (λ q. not (passes t p q)) (patterns t) (some q)).1 record { below = l; good = rw f; ahead = λ k g m. record { cheap = omega arith; first = λ c. go k m (dec_le q k) } })
    where
      go : (k : ℕ) → not (passes t p k) ≡ true → Dec (q ≤ k) → q ≤ k
      go k m (yes e) = e
      go k m (no n) = clash (before k (omega arith)) (not-true (passes t p k) m)

  -- o is what a search of the patterns from 0 on finds, and m the same as a pattern
  pub missed_found : (n : ℕ) (o : Option ℕ) (m : Option Pattern) → n ≡ patterns t → MatchOption o (m ≡ None) (λ q. IsSomeAnd m (λ r. r.0 ≡ q)) → MatchOption o ((k : ℕ) → 0 ≤ k → k < n → passes t p k ≡ true) (λ q. (0 ≤ q) × (q < n) × (passes t p q ≡ false) × ((k : ℕ) → 0 ≤ k → k < q → passes t p k ≡ true)) → missed_of m ≡ missed (task t) p
  missed_found n None m e h f = rw h (missed_none (λ q l. f q (omega arith) (omega arith)))
  missed_found n (Some q) None e h f = absurd h
  missed_found n (Some q) (Some r) e h f = rw h (missed_first q (omega (arith, f.1)) f.2 (λ k l. f.3 k (omega arith) l))
