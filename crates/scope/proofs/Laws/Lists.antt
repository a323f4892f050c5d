-- One list after another, and parts of a list. Assumes nothing.
use Rattle.std.specs.Prelude.{ℕ, suc, ◌+◌, ◌≤◌, ◌<◌, List, [], ◌∷◌, ◌++◌, ◌⊎◌, ◌≡◌, refl, length, take, drop}
use Rattle.std.proofs.Common.{arith, append_assoc, inl, inr, sym, ap, ap₂, length-append, length-take, length-drop}

module _ {A : Type 0} where
  pub length_snoc : (s : List A) (a : A) → length (s ++ a ∷ []) ≡ suc (length s)
  length_snoc s a = omega (arith, length-append s (a ∷ []))

  pub part_length : (s : List A) (at n : ℕ) → at + n ≤ length s → length (take n (drop at s)) ≡ n
  part_length s at n h = omega (arith, length-take n (drop at s), length-drop at s)

  pub shorter : (r : List A) (a : A) (s : List A) → length r < length (r ++ a ∷ s)
  shorter r a s = omega (arith, length-append r (a ∷ s))

  pub to_right : (p q r s : List A) → p ++ q ++ r ++ s ≡ p ++ (q ++ (r ++ s))
  to_right p q r s = simp append_assoc

  -- a beginning of s and a: all of it, or a beginning of s
  pub begins_snoc : (r t s : List A) (a : A) → s ++ a ∷ [] ≡ r ++ t → (r ≡ s ++ a ∷ []) ⊎ ((u : List A) × (s ≡ r ++ u))
  begins_snoc [] t s a e = inr (s, refl)
  begins_snoc (b ∷ []) t [] a e = let h : a ≡ b = cc in inl (rw h)
  begins_snoc (b ∷ c ∷ r) t [] a e = absurd (omega (arith, ap length e))
  begins_snoc (b ∷ r) t (d ∷ s) a e = go (begins_snoc r t s a cc)
    where
      h : d ≡ b
      h = cc

      go : (r ≡ s ++ a ∷ []) ⊎ ((u : List A) × (s ≡ r ++ u)) → (b ∷ r ≡ d ∷ s ++ a ∷ []) ⊎ ((u : List A) × (d ∷ s ≡ b ∷ r ++ u))
      go (inl f) = inl (ap₂ (λ x y. x ∷ y) (sym h) f)
      go (inr (u, f)) = inr (u, ap₂ (λ x y. x ∷ y) h f)
