-- Literals and clauses by their codes. Assumes nothing.
use Rattle.std.specs.Prelude.{ℕ, ◌/◌, ◌%◌, Bool, cond, not, ◌||◌, List, [], ◌∷◌, ◌++◌, Option, None, get_or, ◌<◌, ◌≢◌, ◌≡◌, length}
use Rattle.std.proofs.Common.{arith, sym, ◌∙◌, append-nil, ne_eqb}
use Rattle.std.proofs.Math.Bool.{true, false, or_assoc, or-false}
use Rattle.std.proofs.Math.Path.{refl, ap}
use Rattle.std.proofs.Math.Dec.{eqb}
use Rattle.scope.specs.Sheet.{Clause, most_literals, All, Among}
use Rattle.scope.specs.Meaning.{any, literal_true, keeps}
use Rattle.scope.specs.Words.{literal_from, clause_of}
use Rattle.scope.proofs.Laws.Alls.{all_parts}
use Rattle.words.specs.Entries.{clause_from, literals_of, literals_there, clause_there}
use Rattle.words.specs.declared.literal.Literal.{Literal}

any_append : {A : Type 0} (f : A → Bool) (s t : List A) → any (s ++ t) f ≡ (any s f || any t f)
any_append f [] t = refl
any_append f (a ∷ s) t = rw (any_append f s t) (sym (or_assoc (f a) (any s f) (any t f)))

-- ---- a literal, by its code c
module _ (c : ℕ) (n : c ≢ 0) where
  one_literal_lem : literals_of c ≡ literal_from c ∷ []
  unfolding literals_of
  one_literal_lem = rw (ne_eqb c 0 n)

  pub literal_switch : (a : ℕ) → All (λ l. Among a l.size) (literals_of c) → Among a (c / 2)
  literal_switch a h = (rw one_literal_lem at h).0

  pub keeps_literal : (v : ℕ → Bool) → keeps v (literals_of c) ≡ cond (eqb (c % 2) 1) (not (v (c / 2))) (v (c / 2))
  unfolding keeps
  keeps_literal v = rw one_literal_lem (or-false (literal_true v (literal_from c)))

no_literal : (c : ℕ) → eqb c 0 ≡ true → literals_of c ≡ []
unfolding literals_of
no_literal c e = rw e

-- ---- a clause of a valid sheet has the literals of its codes, one after another: a literal of code 0 would name switch 0
abbrev pub Named : ℕ → Clause → Type 0
Named a = All (λ l. Among a l.size)

module _ (a x y z : ℕ) where
  named : (c : ℕ) → Among a (literal_from c).size → literals_of c ≡ literal_from c ∷ []
  named c h = one_literal_lem c (λ e. omega (arith, h.0))

  clause_literals : Named a (clause_of x y z) → clause_of x y z ≡ literals_of x ++ (literals_of y ++ literals_of z)
  unfolding clause_of
  clause_literals = go (eqb z 0) (eqb y 0) (eqb x 0) refl refl refl
    where
      go : (s t u : Bool) → eqb z 0 ≡ s → eqb y 0 ≡ t → eqb x 0 ≡ u → Named a (clause_of x y z) → clause_of x y z ≡ literals_of x ++ (literals_of y ++ literals_of z)
      go false t u d e f = rw d (λ w. rw (named x w.0, named y w.1.0, named z w.1.1.0))
      go true false u d e f = rw (d, e) (λ w. rw (named x w.0, named y w.1.0, no_literal z d))
      go true true false d e f = rw (d, e, f) (λ w. rw (named x w.0, no_literal y e, no_literal z d))
      go true true true d e f = rw (d, e, f) (λ w. rw (no_literal x f, no_literal y e, no_literal z d))

  module _ (w : Named a (clause_of x y z)) where
    -- so it is that of the literals that there are
    pub clause_coded : (p q r : Option Literal) → literals_there p ≡ literals_of x → literals_there q ≡ literals_of y → literals_there r ≡ literals_of z → clause_there (p ∷ q ∷ r ∷ []) ≡ clause_of x y z
    unfolding clause_there
    clause_coded p q r e f g = rw (e, f, g, append-nil) (sym (clause_literals w))

    -- they are named, code by code
    pub clause_parts : Named a (literals_of x) × Named a (literals_of y) × Named a (literals_of z)
    clause_parts =
        let (p, r) = all_parts (λ l. Among a l.size) (literals_of x) (literals_of y ++ literals_of z) (rw (clause_literals w) at w) in
        let (q, s) = all_parts (λ l. Among a l.size) (literals_of y) (literals_of z) r in
        (p, q, s)

    -- and it is kept when one of them is true
    pub keeps_clause : (v : ℕ → Bool) → keeps v (clause_of x y z) ≡ (keeps v (literals_of x) || (keeps v (literals_of y) || keeps v (literals_of z)))
    unfolding keeps
    keeps_clause v =
        ap (λ c. any c (literal_true v)) (clause_literals w) ∙ any_append (literal_true v) (literals_of x) (literals_of y ++ literals_of z)
        ∙ ap (λ b. any (literals_of x) (literal_true v) || b) (any_append (literal_true v) (literals_of y) (literals_of z))

-- literals that are each those of a code of a wish
pub clause_mapped : (a : ℕ) (w : List ℕ) (ls : List (Option Literal)) → length w ≡ most_literals → length ls ≡ most_literals → ((i : ℕ) → i < most_literals → literals_there (get_or ls i None) ≡ literals_of (get_or w i 0)) → Named a (clause_from w) → clause_there ls ≡ clause_from w
clause_mapped a (x ∷ y ∷ z ∷ []) (p ∷ q ∷ r ∷ []) n m each h = clause_coded a x y z h p q r (each 0 (omega arith)) (each 1 (omega arith)) (each 2 (omega arith))
clause_mapped a [] ls n m each h = absurd (omega arith)
clause_mapped a (x ∷ []) ls n m each h = absurd (omega arith)
clause_mapped a (x ∷ y ∷ []) ls n m each h = absurd (omega arith)
clause_mapped a (x ∷ y ∷ z ∷ u ∷ w) ls n m each h = absurd (omega arith)
clause_mapped a (x ∷ y ∷ z ∷ []) [] n m each h = absurd (omega arith)
clause_mapped a (x ∷ y ∷ z ∷ []) (p ∷ []) n m each h = absurd (omega arith)
clause_mapped a (x ∷ y ∷ z ∷ []) (p ∷ q ∷ []) n m each h = absurd (omega arith)
clause_mapped a (x ∷ y ∷ z ∷ []) (p ∷ q ∷ r ∷ s ∷ ls) n m each h = absurd (omega arith)
