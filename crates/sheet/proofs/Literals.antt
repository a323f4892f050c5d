-- The literals of a wish whose fields are right. Assumes nothing.
use Rattle.std.specs.Prelude.{ℕ, zero, suc, ◌≤◌, ◌<◌, Bool, true, false, cond, ◌&&◌, List, [], ◌∷◌, ◌≡◌, refl, leb, ltb, get_or, take}
use Rattle.std.proofs.Common.{arith, sym, ap, ◌∙◌, leb-true}
use Rattle.scope.specs.Sheet.{Number, plus, wish, most_literals}
use Rattle.scope.specs.Causes.{is, literal, zeros, literals, clause, at}
use Rattle.scope.proofs.Laws.Tests.{both}
use Rattle.scope.proofs.Laws.Steps.{is_plus}
use Rattle.scope.specs.Words.{literal_code, literal_at, wish_words}
use Rattle.field.specs.Columns.{number_from}
use Rattle.line.specs.Lines.{numbers_from}
use Rattle.line.specs.Laws.Numbers.{at_numbers}
use Rattle.sheet.specs.Steps.{AreLiterals}
use Rattle.field.specs.declared.Number as made

zeros-at : (xs : List Number) (i : ℕ) → zeros xs ≡ true → plus 0 ≡ at xs i
unfolding zeros
zeros-at [] i e = refl
zeros-at (x ∷ xs) zero e = sym (is_plus 0 x (both (is 0 x) (zeros xs) e).0)
zeros-at (x ∷ xs) (suc i) e = zeros-at xs i (both (is 0 x) (zeros xs) e).1

-- by whether the first field is 0
module _ (a : ℕ) (x : Number) (xs : List Number) (P : Bool → Type 0) where
  by_zero : literals a (x ∷ xs) ≡ true → (is 0 x ≡ true → zeros xs ≡ true → P true) → (literal a x ≡ true → literals a xs ≡ true → P false) → P (is 0 x)
  unfolding literals
  by_zero e f g = go (is 0 x) refl e
    where
      go : (t : Bool) → is 0 x ≡ t → cond t (zeros xs) (literal a x && literals a xs) ≡ true → P t
      go true z e = f z e
      go false z e = let (p, q) = both (literal a x) (literals a xs) e in g p q

clause-at : (a : ℕ) (xs : List Number) (i : ℕ) → literals a xs ≡ true → get_or (clause xs) i (plus 0) ≡ at xs i
unfolding clause
clause-at a [] i e = refl
clause-at a (x ∷ xs) zero e = by_zero a x xs (λ t. get_or (cond t [] (x ∷ clause xs)) 0 (plus 0) ≡ x) e (λ z _. sym (is_plus 0 x z)) (λ _ _. refl)
clause-at a (x ∷ xs) (suc i) e = by_zero a x xs (λ t. get_or (cond t [] (x ∷ clause xs)) (suc i) (plus 0) ≡ at xs i) e (λ _ z. zeros-at xs i z) (λ _ l. clause-at a xs i l)

literals-small : (a : ℕ) (xs : List Number) (i : ℕ) → literals a xs ≡ true → (at xs i).size ≤ a
literals-small a [] i e = omega arith
literals-small a (x ∷ xs) zero e = by_zero a x xs (λ t. x.size ≤ a) e (λ z _. omega (arith, ap (λ y. y.size) (is_plus 0 x z))) (λ l _. leb-true x.size a (both (leb x.size a) (ltb 0 x.size) l).0)
literals-small a (x ∷ xs) (suc i) e = by_zero a x xs (λ t. (at xs i).size ≤ a) e (λ _ z. omega (arith, ap (λ y. y.size) (zeros-at xs i z))) (λ _ l. literals-small a xs i l)

abbrev field_at : List made.Number → ℕ → made.Number
field_at ys i = get_or ys i (record { minus = false; size = 0 })

-- field i of the first three
module _ (ys : List made.Number) (l : AreLiterals (take most_literals (numbers_from ys))) (i : ℕ) (h : i < most_literals) where
  abbrev xs : List Number
  xs = take most_literals (numbers_from ys)

  abbrev y : made.Number
  y = field_at ys i

  field_is : at xs i ≡ number_from y
  field_is = sym (at_numbers most_literals i ys h)

  pub code_fits : y.size ≤ 99
  code_fits = omega (arith, literals-small l.switches xs i l.right, l.few, ap (λ z. z.size) field_is)

  code_is : (r : ℕ) → r ≡ literal_code (number_from y) → r ≡ literal_at i (clause xs)
  code_is r c = c ∙ ap literal_code (sym field_is ∙ sym (clause-at l.switches xs i l.right))

-- the words of the wish that has these literals and weighs n
module _ (ys : List made.Number) (l : AreLiterals (take most_literals (numbers_from ys))) where
  pub words_are : {a b c : ℕ} (n : ℕ) → a ≡ literal_code (number_from (field_at ys 0)) → b ≡ literal_code (number_from (field_at ys 1)) → c ≡ literal_code (number_from (field_at ys 2))
      → a ∷ b ∷ c ∷ n ∷ [] ≡ wish_words (wish (clause (take most_literals (numbers_from ys))) n)
  words_are n e f g = rw (code_is ys l 0 (omega arith) _ e, code_is ys l 1 (omega arith) _ f, code_is ys l 2 (omega arith) _ g)
