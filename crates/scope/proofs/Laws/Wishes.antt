-- Which wishes are kept, and what a plan costs. Assumes nothing.
use Prim.Native.Nat.{ℕ, suc, ◌+◌, ◌*◌, ◌≤◌}
use Rattle.std.proofs.Math.Nat.{ℕ_set}
use native.Mathlib.Omega.{arith}
use Rattle.std.specs.Prelude.{Bool, ◌↔◌, ◌≡◌}
use Rattle.std.proofs.Math.Bool.{true, false, cond, or-true}
use mathlib.Core.List.{List, [], ◌∷◌, ◌++◌, Memᴰ, Perm, Permᴰ}
use Rattle.std.proofs.Math.Logic.{∥∥₁_elim}
use Rattle.std.proofs.Math.Path.{refl}
use Rattle.std.proofs.Common.{sym, ap, ◌∙◌}
use Rattle.std.proofs.Math.ListN.{length}
use Rattle.scope.specs.Sheet.{Number, number, Clause, Gate, Wish, Sheet, sheet, most_wishes, most_weight, All, Allowed, Valid}
use Rattle.scope.specs.Meaning.{literal_true, keeps, broken, switch_on, kept, cost, costs}
use Rattle.scope.proofs.Laws.Tests.{clash}

-- ---- kept and broken

module _ (v : ℕ → Bool) where
  in_keeps : (x : Number) (w : Clause) → Memᴰ x w → literal_true v x ≡ true → keeps v w ≡ true
  unfolding keeps
  in_keeps x [] i e = elim i [ ]
  in_keeps x (y ∷ w) (Memᴰ.head h) e = rw (ap (literal_true v) (sym h) ∙ e)
  in_keeps x (y ∷ w) (Memᴰ.tail i) e = rw (in_keeps x w i e) (or-true (literal_true v y))

  keeps_in : (w : Clause) → keeps v w ≡ true → (x : Number) × Memᴰ x w × (literal_true v x ≡ true)
  unfolding keeps
  keeps_in [] e = clash e refl
  keeps_in (y ∷ w) e = go (literal_true v y) refl (keeps_in w)
    where
      go : (b : Bool) → literal_true v y ≡ b → (keeps v w ≡ true → (x : Number) × Memᴰ x w × (literal_true v x ≡ true)) → (x : Number) × Memᴰ x (y ∷ w) × (literal_true v x ≡ true)
      go true h later = (y, Memᴰ.head refl, h)
      go false h later = let (x, i, f) = later (rw h at e) in (x, Memᴰ.tail i, f)

  -- a wish is kept exactly if one of its own literals is true
  pub keeps_iff : (w : Clause) → (keeps v w ≡ true) ↔ ((x : Number) × Memᴰ x w × (literal_true v x ≡ true))
  keeps_iff w = (keeps_in w, λ (x, i, e). in_keeps x w i e)

  -- one that holds k and -k is never broken, and one with no literal always
  pub both_kept : (k : ℕ) (w : Clause) → Memᴰ (number false k) w → Memᴰ (number true k) w → keeps v w ≡ true
  both_kept k w a b = go (v k) refl
    where
      go : (t : Bool) → v k ≡ t → keeps v w ≡ true
      go true e = in_keeps (number false k) w a e
      go false e = in_keeps (number true k) w b (rw e)

  pub none_kept : keeps v [] ≡ false
  unfolding keeps
  none_kept = refl

-- ---- broken wishes

module _ (v : ℕ → Bool) where
  -- at most the largest weight each
  broken_most : (a : ℕ) (ws : List Wish) → All (Allowed a) ws → broken v ws ≤ length ws * most_weight
  unfolding broken
  broken_most a [] h = omega arith
  broken_most a (w ∷ ws) (b, h) = go (keeps v w.clause) b.weight.1 (broken_most a ws h)
    where
      go : (t : Bool) → w.weight ≤ most_weight → broken v ws ≤ length ws * most_weight → cond t 0 w.weight + broken v ws ≤ suc (length ws) * most_weight
      go true l h = omega arith
      go false l h = omega arith

  broken_together : (us ws : List Wish) → broken v (us ++ ws) ≡ broken v us + broken v ws
  unfolding broken
  broken_together [] ws = omega arith
  broken_together (u ∷ us) ws = omega (arith, broken_together us ws)

  -- each wish counts by itself, so neighbours may change places
  broken_order : {ws us : List Wish} → Permᴰ ws us → broken v ws ≡ broken v us
  broken_order Permᴰ.nil = refl
  broken_order (Permᴰ.cons {a = w} {b = u} {l₁ = ws} {l₂ = us} e p) =
      let d : broken v (w ∷ []) ≡ broken v (u ∷ []) = ap (λ x. broken v (x ∷ [])) e in
      omega (arith, d, broken_together (w ∷ []) ws, broken_together (u ∷ []) us, broken_order p)
  broken_order (Permᴰ.swap {a = u} {b = w} {a' = w'} {b' = u'} {l = ws} e f) =
      let d : broken v (u ∷ []) ≡ broken v (u' ∷ []) = ap (λ x. broken v (x ∷ [])) e in
      let g : broken v (w ∷ []) ≡ broken v (w' ∷ []) = ap (λ x. broken v (x ∷ [])) f in
      omega (arith, d, g, broken_together (u ∷ []) (w ∷ ws), broken_together (w ∷ []) ws, broken_together (w' ∷ []) (u' ∷ ws), broken_together (u' ∷ []) ws)
  broken_order (Permᴰ.trans p q) = broken_order p ∙ broken_order q

-- ---- cost

-- the cost of a valid sheet's plan: 64 wishes of 999, which five columns have room for
abbrev pub most_cost : ℕ
most_cost = most_wishes * most_weight

pub cost_small : (t : Sheet) → Valid t → (plan : ℕ) → cost t plan ≤ most_cost
unfolding cost
cost_small t v plan = omega (arith, broken_most (switch_on t plan) t.switches t.wishes v.wishes, v.few_wishes)

module _ (a f : ℕ) (gs : List Gate) (rs : List ℕ) (plan : ℕ) where
  pub cost_one : (w : Wish) → costs a f gs rs plan (w ∷ []) ≡ cond (kept (sheet a f gs rs []) plan w.clause) 0 w.weight
  unfolding cost broken kept switch_on
  cost_one w = omega arith

  pub cost_together : (us ws : List Wish) → costs a f gs rs plan (us ++ ws) ≡ costs a f gs rs plan us + costs a f gs rs plan ws
  unfolding cost switch_on
  cost_together us ws = broken_together (switch_on (sheet a f gs rs []) plan) us ws

  pub cost_order : (ws us : List Wish) → Perm ws us → costs a f gs rs plan ws ≡ costs a f gs rs plan us
  unfolding cost switch_on
  cost_order ws us p = ∥∥₁_elim p (ℕ_set (costs a f gs rs plan ws) (costs a f gs rs plan us)) (broken_order (switch_on (sheet a f gs rs []) plan))
