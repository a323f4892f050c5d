-- Lists all of whose elements have a property. Assumes nothing.
use Rattle.std.specs.Prelude.{ℕ, zero, suc, ◌<◌, List, [], ◌∷◌, ◌++◌, map, length, get_or, take, replicate}
use Rattle.std.proofs.Common.{arith}
use Rattle.scope.specs.Sheet.{All}

-- what everything has
pub all_true : {A : Type 0} (s : List A) → All (λ a. Unit {0}) s
all_true [] = tt
all_true (a ∷ s) = (tt, all_true s)

module _ {A : Type 0} (P : A → Type 0) where
  pub all_imply : (Q : A → Type 0) → ((a : A) → P a → Q a) → (s : List A) → All P s → All Q s
  all_imply Q h [] p = tt
  all_imply Q h (a ∷ s) (p, ps) = (h a p, all_imply Q h s ps)

  -- ---- two lists, one after the other

  pub all_append : (r s : List A) → All P r → All P s → All P (r ++ s)
  all_append [] s g h = h
  all_append (a ∷ r) s (p, g) h = (p, all_append r s g h)

  pub all_parts : (r s : List A) → All P (r ++ s) → All P r × All P s
  all_parts [] s h = (tt, h)
  all_parts (a ∷ r) s (p, h) = let (g, k) = all_parts r s h in ((p, g), k)

  pub all_snoc : (s : List A) (a : A) → All P s → P a → All P (s ++ a ∷ [])
  all_snoc s a h p = all_append s (a ∷ []) h (p, tt)

  pub all_middle : (r : List A) (a : A) (s : List A) → All P (r ++ a ∷ s) → P a
  all_middle r a s h = (all_parts r (a ∷ s) h).1.0

  -- ---- the element at a place

  pub all_at : (s : List A) (d : A) (i : ℕ) → All P s → i < length s → P (get_or s i d)
  all_at [] d i h l = absurd (omega arith)
  all_at (a ∷ s) d zero h l = h.0
  all_at (a ∷ s) d (suc i) h l = all_at s d i h.1 (omega arith)

  pub at_all : (s : List A) (d : A) → ((i : ℕ) → i < length s → P (get_or s i d)) → All P s
  at_all [] d h = tt
  at_all (a ∷ s) d h = (h 0 (omega arith), at_all s d (λ i l. h (suc i) (omega arith)))

  pub all_replicate : (k : ℕ) (a : A) → P a → All P (replicate k a)
  all_replicate zero a p = tt
  all_replicate (suc k) a p = (p, all_replicate k a p)

  pub all_take : (k : ℕ) (s : List A) → All P s → All P (take k s)
  all_take zero s h = tt
  all_take (suc k) [] h = tt
  all_take (suc k) (a ∷ s) h = (h.0, all_take k s h.1)

pub all_map : {A B : Type 0} (P : B → Type 0) (Q : A → Type 0) (f : A → B) → ((a : A) → Q a → P (f a)) → (s : List A) → All Q s → All P (map f s)
all_map P Q f h [] q = tt
all_map P Q f h (a ∷ s) (p, q) = (h a p, all_map P Q f h s q)
