-- What `pick` gives: the test passed, and none below the bound ahead of it. Assumes nothing.
use Prim.Native.Nat.{ℕ, zero, suc, ◌+◌, ◌≤◌, ◌<◌}
use Rattle.std.proofs.Common.{eq-or-lt_of_le, arith, inl, inr, ap, ltb-true, ltb-false}
use Rattle.std.proofs.Math.Numerals.{add-one}
use Rattle.std.specs.Prelude.{Bool, true, false, cond, ◌⊎◌, ◌≢◌, ◌↔◌, ◌≡◌, ltb}
use Rattle.std.proofs.Math.Option.{Option, none, some}
use Rattle.std.proofs.Math.Path.{refl}
use Rattle.scope.specs.Pick.{Better, keep, pick}
use Rattle.scope.proofs.Laws.Tests.{clash, up_to_lem}

-- a comes no later than b: it costs no more, and at equal cost its number is no larger
pub record Ahead (cost : ℕ → ℕ) (a b : ℕ) : Type 0 where
  pub cheap : cost a ≤ cost b
  pub first : cost b ≤ cost a → a ≤ b

pub ahead_antisym : {cost : ℕ → ℕ} {a b : ℕ} → Ahead cost a b → Ahead cost b a → a ≡ b
ahead_antisym h g = omega (arith, h.first (omega arith), g.first (omega arith))

pub better : {cost : ℕ → ℕ} {a b : ℕ} → Ahead cost a b → a ≢ b → Better cost a b
better {cost} {a} {b} h n = go (eq-or-lt_of_le h.cheap)
  where
    go : (cost a ≡ cost b) ⊎ (cost a < cost b) → Better cost a b
    go (inl e) = inr (e, omega (arith, h.first (omega arith)))
    go (inr l) = inl l

module _ (cost : ℕ → ℕ) (ok : ℕ → Bool) where
  pub record Best (n r : ℕ) : Type 0 where
    pub below : r < n
    pub good : ok r ≡ true
    pub ahead : (k : ℕ) → k < n → ok k ≡ true → Ahead cost r k

  abbrev pub Picked : ℕ → Option ℕ → Type 0
  Picked n none = (k : ℕ) → k < n → ok k ≡ false
  Picked n (some r) = Best n r

module _ (cost : ℕ → ℕ) (ok : ℕ → Bool) where
  -- one number more takes over only if it costs less, so that at equal cost the smaller one stays
  keep_right : (n : ℕ) (t : Bool) (o : Option ℕ) → ok n ≡ t → Picked cost ok n o → Picked cost ok (suc n) (keep cost t n o)
  keep_right n false none e p = up_to_lem n p e
  keep_right n false (some m) e p = record { below = omega arith; good = p.good; ahead = up_to_lem n p.ahead (λ g. clash g e) }
  keep_right n true none e p = record { below = omega arith; good = e; ahead = up_to_lem n (λ k h g. clash g (p k h)) (λ g. omega arith) }
  keep_right n true (some m) e p = go (ltb (cost n) (cost m)) refl
    where
      go : (t : Bool) → ltb (cost n) (cost m) ≡ t → Best cost ok (suc n) (cond t n m)
      go true l = record { below = omega arith; good = e; ahead = up_to_lem n (λ k h g. omega (arith, ltb-true, p.ahead k h g)) (λ g. omega arith) }
      go false l = record { below = omega arith; good = p.good; ahead = up_to_lem n p.ahead (λ g. omega (arith, ltb-false)) }

  pub pick_right : (n : ℕ) → Picked cost ok n (pick cost ok n)
  unfolding pick
  pick_right zero = λ k h. absurd (omega arith)
  pick_right (suc n) = keep_right n (ok n) (pick cost ok n) refl (pick_right n)

  -- one more, as a loop's counter has it
  pub pick_next : (n : ℕ) → pick cost ok (n + 1) ≡ keep cost (ok n) n (pick cost ok n)
  unfolding pick
  pick_next n = rw add-one

  -- only one answer is right, so `pick` gives o exactly if o is right
  picked_same : (n : ℕ) (a b : Option ℕ) → Picked cost ok n a → Picked cost ok n b → a ≡ b
  picked_same n none none p q = refl
  picked_same n none (some r) p q = clash q.good (p r q.below)
  picked_same n (some r) none p q = clash p.good (q r p.below)
  picked_same n (some r) (some s) p q = ap some (ahead_antisym (p.ahead s q.below q.good) (q.ahead r p.below p.good))

  pub pick_iff : (n : ℕ) (o : Option ℕ) → (pick cost ok n ≡ o) ↔ Picked cost ok n o
  pick_iff n o = (λ e. rw e at (pick_right n), picked_same n (pick cost ok n) o (pick_right n))
