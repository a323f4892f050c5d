-- Entries held at a stride: how many there are, and each of them. Assumes nothing.
use Prim.Native.Nat.{ℕ, zero, suc, ◌<◌}
use Rattle.std.proofs.Common.{arith, ◌∙◌}
use mathlib.Core.List.{[], ◌∷◌}
use Rattle.std.specs.Prelude.{◌≡◌, length, get_or}
use Rattle.std.proofs.Math.Path.{refl, ap}
use Rattle.std.proofs.Math.ListN.{get_or-append}
use Rattle.std.proofs.lemmas.List.{get_or_at}
use Rattle.scope.specs.Sheet.{All}
use Rattle.scope.specs.Words.{entries}
use Rattle.scope.proofs.Laws.Tests.{up_to_lem}
use Rattle.scope.proofs.Laws.Lists.{length_snoc}
use Rattle.scope.proofs.Laws.Alls.{all_snoc}

module _ {A : Type 0} (f : ℕ → A) where
  pub length_entries : (k : ℕ) → length (entries f k) ≡ k
  unfolding entries
  length_entries zero = refl
  length_entries (suc k) = length_snoc (entries f k) (f k) ∙ ap suc (length_entries k)

  pub entry_at : (d : A) (k i : ℕ) → i < k → get_or (entries f k) i d ≡ f i
  unfolding entries
  entry_at d zero i h = absurd (omega arith)
  entry_at d (suc k) i h = up_to_lem k (λ j l. get_or-append (entries f k) (f k ∷ []) d j (omega (arith, length_entries k)) ∙ entry_at d k j l) (get_or_at (entries f k) (f k) [] d k (length_entries k)) i h

  pub all_entries : (P : A → Type 0) → ((i : ℕ) → P (f i)) → (k : ℕ) → All P (entries f k)
  unfolding entries
  all_entries P h zero = tt
  all_entries P h (suc k) = all_snoc P (entries f k) (f k) (all_entries P h k) (h k)
