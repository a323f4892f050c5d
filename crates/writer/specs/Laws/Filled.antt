-- A line's numbers filled up with zeros: a zero at the end changes nothing. The weight of a wish takes the place of one. Assumes nothing.
use Rattle.std.specs.Prelude.{ℕ, zero, suc, ◌-◌, ◌≤◌, ◌<◌, Bool, true, false, cond, List, [], ◌∷◌, ◌++◌, ◌≡◌, eqb, length, replicate, set, refl}
use Rattle.std.proofs.Common.{arith, append_assoc, append-nil, sym, ap, ◌∙◌, eqb-true, ap₂}
use Rattle.std.proofs.lemmas.List.{map-set}
use Rattle.scope.specs.Sheet.{Number, plus, field_count, filled, wish_line}
use Rattle.scope.specs.Causes.{line_size}
use Rattle.scope.specs.Words.{word, literal_from, clause_of}
use Rattle.scope.proofs.Laws.Lists.{length_snoc}
use Rattle.field.specs.Columns.{number_from}
use Rattle.field.specs.declared.Number as made
use Rattle.line.specs.Lines.{layout_of, numbers_from}
use Rattle.words.specs.Entries.{wish_of_words}
use Rattle.writer.specs.Tested.{literals_of}

module _ (n : ℕ) where
  pub zero_filled : (xs : List Number) → length xs < n → filled n (xs ++ plus 0 ∷ []) ≡ filled n xs
  zero_filled xs h =
      let e : n - length xs ≡ suc (n - suc (length xs)) = omega arith in
      rw (length_snoc, e, append_assoc)

  -- a word 0 stands for no literal, and its number is 0
  pub literals_filled : 3 ≤ n → (x y z : ℕ) → filled n (literal_from x ∷ literal_from y ∷ literal_from z ∷ []) ≡ filled n (clause_of x y z)
  unfolding clause_of
  literals_filled wide x y z = go (eqb x 0) (eqb y 0) (eqb z 0) refl refl refl
    where
      two : filled n (literal_from x ∷ literal_from y ∷ plus 0 ∷ []) ≡ filled n (literal_from x ∷ literal_from y ∷ [])
      two = zero_filled (literal_from x ∷ literal_from y ∷ []) (omega arith)

      one : filled n (literal_from x ∷ plus 0 ∷ []) ≡ filled n (literal_from x ∷ [])
      one = zero_filled (literal_from x ∷ []) (omega arith)

      go : (p q r : Bool) → eqb x 0 ≡ p → eqb y 0 ≡ q → eqb z 0 ≡ r → filled n (literal_from x ∷ literal_from y ∷ literal_from z ∷ []) ≡ filled n (cond r (cond q (cond p [] (literal_from x ∷ [])) (literal_from x ∷ literal_from y ∷ [])) (literal_from x ∷ literal_from y ∷ literal_from z ∷ []))
      go p q false d e f = refl
      go p false true d e f = rw (eqb-true z 0 f) two
      go false true true d e f = rw (eqb-true z 0 f) (two ∙ rw (eqb-true y 0 e) one)
      go true true true d e f = rw (eqb-true z 0 f) (two ∙ rw (eqb-true y 0 e) (one ∙ rw (eqb-true x 0 d) (zero_filled [] (omega arith))))

-- numbers put at the beginning of as many zeros as a line has fields
zeros_from : (k : ℕ) (o : made.Number) → number_from o ≡ plus 0 → numbers_from (replicate k o) ≡ replicate k (plus 0)
zeros_from zero o z = refl
zeros_from (suc k) o z = ap₂ (λ x xs. x ∷ xs) z (zeros_from k o z)

pub three_filled : (n : ℕ) → 3 ≤ n → (x y z o : made.Number) → number_from o ≡ plus 0 → numbers_from (set (set (set (replicate n o) 0 x) 1 y) 2 z) ≡ filled n (number_from x ∷ number_from y ∷ number_from z ∷ [])
three_filled zero h x y z o e = absurd (omega arith)
three_filled (suc zero) h x y z o e = absurd (omega arith)
three_filled (suc (suc zero)) h x y z o e = absurd (omega arith)
three_filled (suc (suc (suc k))) h x y z o e = let m : suc (suc (suc k)) - 3 ≡ k = omega arith in rw (m, zeros_from k o e) refl

-- so many zeros as there is no number for
pub one_filled : (n : ℕ) → 2 ≤ n → (p : Number) → filled n (p ∷ plus 0 ∷ []) ≡ filled n (p ∷ [])
one_filled n h p = zero_filled n (p ∷ []) (omega arith)

pub two_filled : (n : ℕ) → 3 ≤ n → (p q : Number) → filled n (p ∷ q ∷ plus 0 ∷ []) ≡ filled n (p ∷ q ∷ [])
two_filled n h p q = zero_filled n (p ∷ q ∷ []) (omega arith)

-- ---- by the layout

-- lines of three numbers are plain, and those of four have weights
three_or_four : (P : ℕ → Type 0) → P 3 → P 4 → (n : ℕ) → 3 ≤ n → n ≤ 4 → P n
three_or_four P p q (suc (suc (suc zero))) h i = p
three_or_four P p q (suc (suc (suc (suc zero)))) h i = q
three_or_four P p q zero h i = absurd (omega arith)
three_or_four P p q (suc zero) h i = absurd (omega arith)
three_or_four P p q (suc (suc zero)) h i = absurd (omega arith)
three_or_four P p q (suc (suc (suc (suc (suc n))))) h i = absurd (omega arith)

-- so their layout has as many numbers, and as many bytes
pub counted : (n : ℕ) → 3 ≤ n → n ≤ 4 → field_count (layout_of n) ≡ n
counted = three_or_four (λ n. field_count (layout_of n) ≡ n) refl refl

pub sized : {n size : ℕ} → (3 ≤ n) × (n ≤ 4) → size ≡ line_size n → size ≡ line_size (field_count (layout_of n))
sized {n} (h, i) e = e ∙ ap line_size (sym (counted n h i))

-- the fields of a wish: its literals, and the weight where there are four
module _ (w : List ℕ) where
  abbrev Fields : ℕ → List Number → Type 0
  Fields n xs = xs ≡ (wish_line (layout_of n) (wish_of_words w)).fields

  abbrev three : List Number
  three = literals_of w

  three_literals : filled 3 three ≡ filled 3 (wish_of_words w).clause
  three_literals = literals_filled 3 (omega arith) (word w 0) (word w 1) (word w 2)

  pub plain_fields : (n : ℕ) → 3 ≤ n → n ≤ 4 → n ≤ 3 → Fields n (filled n three)
  plain_fields = three_or_four (λ n. n ≤ 3 → Fields n (filled n three)) (λ h. three_literals ∙ sym (append-nil _)) (λ h. absurd (omega arith))

  pub weighted_fields : (xs : List made.Number) (x : made.Number) → number_from x ≡ plus (word w 3) → (n : ℕ) → 3 ≤ n → n ≤ 4 → 3 < n → numbers_from xs ≡ filled n three → Fields n (numbers_from (set xs 3 x))
  weighted_fields xs x e = three_or_four (λ n. 3 < n → numbers_from xs ≡ filled n three → Fields n (numbers_from (set xs 3 x))) (λ h. absurd (omega arith)) (λ h p. map-set number_from xs 3 x ∙ rw (p, e) (ap (λ ys. ys ++ plus (word w 3) ∷ []) three_literals))
