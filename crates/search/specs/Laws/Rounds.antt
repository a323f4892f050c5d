-- A round: what follows from the best plan and from the pattern that it misses. Assumes nothing.
use Rattle.std.specs.Prelude.{ℕ, ◌<◌, Bool, List, [], ◌∷◌, ◌++◌, ◌≡◌, leb, ltb, ◌&&◌, ◌||◌, Option, Some, None}
use Rattle.std.proofs.Common.{arith, sym, ap, ◌∙◌, eqb-true, leb-true, ltb-true}
use Rattle.std.proofs.Math.Bool.{true, false}
use Rattle.std.proofs.Math.Option.{some}
use Rattle.std.proofs.Math.Path.{refl}
use Rattle.std.proofs.Math.Dec.{eqb}
use Rattle.std.proofs.lemmas.Bool.{not-true}
use Rattle.scope.specs.Rule.{Task, passes_all, best, missed, missed_by, next}
use Rattle.scope.proofs.Laws.Tests.{clash, both}
use Rattle.scope.proofs.Laws.Picks.{Ahead}
use Rattle.scope.proofs.Laws.Rules.{best_iff, missed_iff}
use Rattle.words.specs.declared.Pattern.{Pattern}
use Rattle.circuit.specs.Answers.{missed_of}
use Rattle.search.specs.declared.best.Candidate.{Candidate}
use Rattle.search.specs.Answers.{best_of, Priced}
use Rattle.search.specs.Steps.{fails_of, Fails, Stepped}

-- ---- plans that are known to fail

pub none_fails : (t : Task) (l : List ℕ) → Fails t l None
none_fails t l = record { fail = λ n h e. clash e refl }

passes_front : (t : Task) (p : ℕ) (l : List ℕ) (q : ℕ) → passes_all t p (l ++ q ∷ []) ≡ true → (passes_all t p l ≡ true) × (t.passes p q ≡ true)
passes_front t p [] q e = (refl, (both (t.passes p q) true e).0)
passes_front t p (x ∷ l) q e =
    let (a, b) = both (t.passes p x) (passes_all t p (l ++ q ∷ [])) e in
    let (c, d) = passes_front t p l q b in
    (rw a c, d)

-- the candidate misses q, which is listed next: of the plans that are no worse, it alone passes the list so far
module _ (t : Task) (l : List ℕ) (b : Candidate) (q : ℕ) (candidate : some b.plan.0 ≡ best t l) (priced : b.cost ≡ t.cost b.plan.0) (misses : missed t b.plan.0 ≡ some q) where
  no_better : (n : ℕ) → n < t.plans → fails_of (Some b) (t.cost n) n ≡ true → passes_all t n l ≡ true → n ≡ b.plan.0
  no_better n h e f =
      let a = ((best_iff t l (some b.plan.0)).0 (sym candidate)).ahead n h f in
      go (ltb (t.cost n) b.cost) refl e a
    where
      go : (x : Bool) → ltb (t.cost n) b.cost ≡ x → (x || (eqb (t.cost n) b.cost && leb n b.plan.0)) ≡ true → Ahead t.cost b.plan.0 n → n ≡ b.plan.0
      go true d e a = absurd (omega (arith, ltb-true (t.cost n) b.cost d, priced, a.cheap))
      go false d e a =
          let (i, j) = both (eqb (t.cost n) b.cost) (leb n b.plan.0) e in
          let s = eqb-true (t.cost n) b.cost i in
          omega (arith, leb-true n b.plan.0 j, a.first (omega (arith, priced, s)))

  no_pass : (n : ℕ) → n < t.plans → fails_of (Some b) (t.cost n) n ≡ true → (x : Bool) → passes_all t n (l ++ q ∷ []) ≡ x → x ≡ false
  no_pass n h e true f =
      let (a, d) = passes_front t n l q f in
      clash d (rw (no_better n h e a) (not-true (t.passes b.plan.0 q) ((missed_iff t b.plan.0 (some q)).0 misses).good))
  no_pass n h e false f = refl

  next_fails : Fails t (l ++ q ∷ []) (Some b)
  next_fails = record { fail = λ n h e. no_pass n h e (passes_all t n (l ++ q ∷ [])) refl }

-- ---- the candidate b over l, and the pattern that is listed next
module _ (t : Task) (l : List ℕ) (b : Option Candidate) (best_is : best_of b ≡ best t l) where
  pub next_is : missed_by t (best_of b) ≡ next t l
  unfolding next
  next_is = rw best_is

  -- it fails the list that begins so and goes on with that pattern, and so does every better plan
  pub listed_fails : Priced t b → (q : ℕ) → missed_by t (best_of b) ≡ some q → Fails t (l ++ q ∷ []) b
  listed_fails = go b best_is
    where
      go : (b : Option Candidate) → best_of b ≡ best t l → Priced t b → (q : ℕ) → missed_by t (best_of b) ≡ some q → Fails t (l ++ q ∷ []) b
      go None e p q m = cc
      go (Some c) e p q m = next_fails t l c q e p m

  -- so there is a round: it ends where there is no candidate, or a sound one, and else lists what the candidate misses
  module _ (priced : Priced t b) where
    pub no_candidate : b ≡ None → Stepped t l None None
    no_candidate e = (sym next_is ∙ ap (λ b. missed_by t (best_of b)) e, ap best_of (sym e) ∙ best_is, tt)

    module _ (c : Candidate) (e : b ≡ Some c) (m : Option Pattern) (missed_is : missed_of m ≡ missed t c.plan.0) where
      misses : missed_by t (best_of b) ≡ missed_of m
      misses = ap (λ b. missed_by t (best_of b)) e ∙ sym missed_is

      pub candidate_sound : m ≡ None → Stepped t l (Some c) None
      candidate_sound f = (sym next_is ∙ misses ∙ ap missed_of f, ap best_of (sym e) ∙ best_is, rw e at priced)

      pub candidate_misses : (q : Pattern) → m ≡ Some q → Stepped t l (Some c) (Some q)
      candidate_misses q f =
          let g : missed_by t (best_of b) ≡ some q.0 = misses ∙ ap missed_of f in
          (sym next_is ∙ g, rw e at (listed_fails priced q.0 g))
