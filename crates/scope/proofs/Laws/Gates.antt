-- Gates that name only points before their own. Assumes nothing.
use Rattle.std.specs.Prelude.{ℕ, suc, ◌+◌, ◌≤◌, List, [], ◌∷◌, ◌++◌, ◌≡◌, refl, length}
use Rattle.std.proofs.Common.{add-zero, add-suc, suc-add, arith, subst}
use Rattle.scope.specs.Sheet.{Gate, All, Names, Ordered}

pub ordered_append : (m k : ℕ) (gs hs : List Gate) → m + length gs ≡ k → Ordered m gs → Ordered k hs → Ordered m (gs ++ hs)
ordered_append m k [] hs e g h = subst (λ j. Ordered j hs) (omega arith) h
ordered_append m k (x ∷ gs) hs e (p, g) h = (p, ordered_append (suc m) k gs hs (omega arith) g h)

pub ordered_snoc : (m : ℕ) (gs : List Gate) (g : Gate) → Ordered m gs → Names (m + length gs) g → Ordered m (gs ++ g ∷ [])
ordered_snoc m gs g h p = ordered_append m (m + length gs) gs (g ∷ []) refl h (p, tt)

pub ordered_at : (m : ℕ) (gs : List Gate) (g : Gate) (hs : List Gate) → Ordered m (gs ++ g ∷ hs) → Names (m + length gs) g
ordered_at m [] g hs h = rw add-zero h.0
ordered_at m (x ∷ gs) g hs h = rw (add-suc, ← suc-add) (ordered_at (suc m) gs g hs h.1)

more_names : (m j : ℕ) (g : Gate) → m ≤ j → Names m g → Names j g
more_names m j (Gate.not p) h (a, b) = (a, omega arith)
more_names m j (Gate.and p q) h ((a, b), (c, d)) = ((a, omega arith), (c, omega arith))
more_names m j (Gate.or p q) h ((a, b), (c, d)) = ((a, omega arith), (c, omega arith))

-- so all of them name points up to the last
pub ordered_names : (m j : ℕ) (gs : List Gate) → m + length gs ≤ j → Ordered m gs → All (Names j) gs
ordered_names m j [] h o = tt
ordered_names m j (g ∷ gs) h (p, o) = (more_names m j g (omega arith) p, ordered_names (suc m) j gs (omega arith) o)
