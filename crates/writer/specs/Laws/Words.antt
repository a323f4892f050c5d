-- Whether words stand for a gate that names points, or for a clause, by tests of the words. Assumes nothing.
-- A theorem that was given stays, though nothing cites it: `kind_fits`, and those of a gate and of a clause by their words.
use Rattle.std.specs.Prelude.{ℕ, ◌/◌, ◌%◌, ◌<◌, Bool, cond, not, ◌&&◌, List, [], ◌∷◌, length, get_or, ◌≢◌, ◌≡◌, eqb, leb, true, false, refl}
use Prim.Native.Char.{code}
use Rattle.std.proofs.Common.{arith, ◌∙◌, sym, eqb-true, eq-eqb, ne_eqb}
use Rattle.std.proofs.Math.Bool.{and-true, and-false, and_assoc}
use Rattle.std.proofs.lemmas.Bool.{eqb-false}
use Rattle.scope.specs.Sheet.{plus, Gate}
use Rattle.scope.specs.Causes.{is, point, literal, zeros, literals}
use Rattle.scope.specs.Words.{word, no_gate, gate_of, gate_words, literal_from}
use Rattle.words.specs.Entries.{gate_of_words}
use Rattle.field.specs.Columns.{number_from}
use Rattle.field.specs.declared.Number.{Number}
use Rattle.line.specs.Lines.{numbers_from}
use Rattle.writer.specs.Tested.{named, literals_of}

-- ---- gates

pub gate_by_words : (m : ℕ) (w : List ℕ)
    → named m (gate_of_words w) ≡ cond (eqb (word w 0) (code "N")) (point m (plus (word w 1)) && eqb (word w 2) 0) (cond (eqb (word w 0) (code "A")) (point m (plus (word w 1)) && point m (plus (word w 2))) (cond (eqb (word w 0) (code "O")) (point m (plus (word w 1)) && point m (plus (word w 2))) false))
unfolding named gate_of
gate_by_words m w = go (eqb (word w 0) (code "N")) (eqb (word w 0) (code "A")) (eqb (word w 0) (code "O")) (eqb (word w 2) 0)
  where
    p : ℕ
    p = word w 1

    q : ℕ
    q = word w 2

    go : (n a o z : Bool) → named m (cond n (cond z (Gate.not p) no_gate) (cond a (Gate.and p q) (cond o (Gate.or p q) no_gate))) ≡ cond n (point m (plus p) && z) (cond a (point m (plus p) && point m (plus q)) (cond o (point m (plus p) && point m (plus q)) false))
    go true a o true = sym (and-true (point m (plus p)))
    go true a o false = and-false (leb 0 m) ∙ sym (and-false (point m (plus p)))
    go false true o z = refl
    go false false true z = refl
    go false false false z = and-false (leb 0 m)

-- so by its kind
module _ (m p q : ℕ) where
  pub not_named : named m (gate_of (code "N") p q) ≡ (point m (plus p) && eqb q 0)
  not_named = gate_by_words m (code "N" ∷ p ∷ q ∷ [])

  pub and_named : named m (gate_of (code "A") p q) ≡ (point m (plus p) && point m (plus q))
  and_named = gate_by_words m (code "A" ∷ p ∷ q ∷ [])

  pub or_named : named m (gate_of (code "O") p q) ≡ (point m (plus p) && point m (plus q))
  or_named = gate_by_words m (code "O" ∷ p ∷ q ∷ [])

  pub none_named : (k : ℕ) → k ≢ code "N" → k ≢ code "A" → k ≢ code "O" → named m (gate_of k p q) ≡ false
  none_named k a b c = gate_by_words m (k ∷ p ∷ q ∷ []) ∙ rw (ne_eqb k (code "N") a, ne_eqb k (code "A") b, ne_eqb k (code "O") c) refl

-- words that are no gate's are held as one that names no point
pub nothing_named : (m : ℕ) → named m no_gate ≡ false
unfolding named
nothing_named m = and-false (leb 0 m)

-- the kind is a letter
pub kind_fits : (v : Gate) {k p q : ℕ} → gate_words v ≡ k ∷ p ∷ q ∷ [] → k < 256
kind_fits (Gate.not a) {k} e = let f : code "N" ≡ k = cc in omega arith
kind_fits (Gate.and a b) {k} e = let f : code "A" ≡ k = cc in omega arith
kind_fits (Gate.or a b) {k} e = let f : code "O" ≡ k = cc in omega arith

-- ---- clauses

-- the number of a word is 0 exactly if the word is
zero_literal : (c : ℕ) → is 0 (literal_from c) ≡ eqb c 0
zero_literal c = go (eqb (c % 2) 1) (eqb (c / 2) 0) (eqb c 0) refl refl refl
  where
    go : (odd half none : Bool) → eqb (c % 2) 1 ≡ odd → eqb (c / 2) 0 ≡ half → eqb c 0 ≡ none → (not odd && half) ≡ none
    go true h false e f g = refl
    go true h true e f g = absurd (omega (arith, eqb-true (c % 2) 1 e, eqb-true c 0 g))
    go false true true e f g = refl
    go false true false e f g = absurd (eqb-false c 0 g (let o : c % 2 ≢ 1 = eqb-false (c % 2) 1 e in omega (arith, eqb-true (c / 2) 0 f)))
    go false false false e f g = refl
    go false false true e f g = absurd (eqb-false (c / 2) 0 f (omega (arith, eqb-true c 0 g)))

pub clause_by_words : (a : ℕ) (w : List ℕ)
    → literals a (literals_of w) ≡ cond (eqb (word w 0) 0) (eqb (word w 1) 0 && eqb (word w 2) 0) (literal a (literal_from (word w 0)) && cond (eqb (word w 1) 0) (eqb (word w 2) 0) (literal a (literal_from (word w 1)) && cond (eqb (word w 2) 0) true (literal a (literal_from (word w 2)))))
unfolding literals zeros
clause_by_words a w = rw (zero_literal (word w 0), zero_literal (word w 1), zero_literal (word w 2), and-true (eqb (word w 2) 0), and-true (literal a (literal_from (word w 2))))

-- so by how many literals there are
module _ (a x y z : ℕ) where
  abbrev three : Bool
  three = literals a (literals_of (x ∷ y ∷ z ∷ []))

  by_words : three ≡ cond (eqb x 0) (eqb y 0 && eqb z 0) (literal a (literal_from x) && cond (eqb y 0) (eqb z 0) (literal a (literal_from y) && cond (eqb z 0) true (literal a (literal_from z))))
  by_words = clause_by_words a (x ∷ y ∷ z ∷ [])

  pub no_literal : x ≡ 0 → three ≡ (eqb y 0 && eqb z 0)
  no_literal e = by_words ∙ rw (eq-eqb x 0 e) refl

  pub one_literal_lem : x ≢ 0 → y ≡ 0 → three ≡ (literal a (literal_from x) && eqb z 0)
  one_literal_lem d e = by_words ∙ rw (ne_eqb x 0 d, eq-eqb y 0 e) refl

  pub two_literals : x ≢ 0 → y ≢ 0 → z ≡ 0 → three ≡ (literal a (literal_from x) && literal a (literal_from y))
  two_literals d e f = by_words ∙ rw (ne_eqb x 0 d, ne_eqb y 0 e, eq-eqb z 0 f, and-true) refl

  pub three_literals : x ≢ 0 → y ≢ 0 → z ≢ 0 → three ≡ (literal a (literal_from x) && literal a (literal_from y) && literal a (literal_from z))
  three_literals d e f = by_words ∙ rw (ne_eqb x 0 d, ne_eqb y 0 e, ne_eqb z 0 f) (sym (and_assoc (literal a (literal_from x)) (literal a (literal_from y)) (literal a (literal_from z))))

-- numbers that are each that of a word
pub numbers_mapped : (w : List ℕ) (xs : List Number) (d : Number) → length xs ≡ 3 → ((i : ℕ) → i < 3 → number_from (get_or xs i d) ≡ literal_from (word w i)) → numbers_from xs ≡ literals_of w
numbers_mapped w (x ∷ y ∷ z ∷ []) d n each = rw (each 0 (omega arith), each 1 (omega arith), each 2 (omega arith)) refl
numbers_mapped w [] d n each = absurd (omega arith)
numbers_mapped w (x ∷ []) d n each = absurd (omega arith)
numbers_mapped w (x ∷ y ∷ []) d n each = absurd (omega arith)
numbers_mapped w (x ∷ y ∷ z ∷ u ∷ xs) d n each = absurd (omega arith)
