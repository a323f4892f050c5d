-- Tests, and what follows from them. Assumes nothing.
use Rattle.std.specs.Prelude.{ℕ, suc, ◌<◌, Bool, true, false, ◌&&◌, ◌⊎◌, ◌≡◌, refl}
use Rattle.std.proofs.Common.{eq-or-lt_of_le, le_of_suc-le-suc, true≢false, inl, inr, sym, subst, ◌∙◌}
use Rattle.std.proofs.Math.Option.{Option, none, some}

-- a test that both passes and fails
pub clash {ℓ} : {A : Type ℓ} {t : Bool} → t ≡ true → t ≡ false → A
clash p q = absurd (true≢false (sym p ∙ q))

pub both : (a b : Bool) → (a && b) ≡ true → (a ≡ true) × (b ≡ true)
both true b e = (refl, e)
both false b e = clash e refl

-- options with the same values are equal
pub same_some : {A : Type 0} (o q : Option A) → ((a : A) → o ≡ some a → q ≡ some a) → ((a : A) → q ≡ some a → o ≡ some a) → o ≡ q
same_some none none f g = refl
same_some none (some a) f g = g a refl
same_some (some a) q f g = sym (f a refl)

-- what holds below k and at k holds below suc k
pub up_to_lem : {C : ℕ → Type 0} (k : ℕ) → ((j : ℕ) → j < k → C j) → C k → (j : ℕ) → j < suc k → C j
up_to_lem {C} k below at j h = go (eq-or-lt_of_le (le_of_suc-le-suc h))
  where
    go : (j ≡ k) ⊎ (j < k) → C j
    go (inl e) = subst C (sym e) at
    go (inr l) = below j l
