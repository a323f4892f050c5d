-- Each entry of the sheet that words hold, by its words; of a valid one the words are again those of the entry. Assumes nothing.
use Rattle.std.specs.Prelude.{ℕ, Bool, true, false, eqb, refl, ◌+◌, ◌*◌, ◌<◌, List, [], ◌∷◌, ◌≢◌, ◌≡◌, length, get_or}
use Rattle.std.proofs.Common.{arith, sym, ap, ap₂, ◌∙◌, eqb-true, get_or-take, get_or-drop}
use Prim.Native.Char.{code}
use Rattle.scope.specs.Sheet.{Among, Allowed, Valid, points}
use Rattle.scope.specs.Sheet as scope
use Rattle.scope.specs.Words.{gate_size, wish_size, gates_from, wishes_from, word, no_gate, no_wish, gate_words, wish_words, gate_at, rule_at, wish_at, held, gate_of, Used}
use Rattle.scope.proofs.Laws.Alls.{all_at}
use Rattle.scope.proofs.Laws.Entries.{length_entries}
use Rattle.scope.proofs.Laws.Entries as entries
use Rattle.scope.proofs.Laws.Words.{gate_sized, wish_sized, gate_back, gate_word, wish_word, words_kept}
use Rattle.words.specs.Tables.{entry_at}
use Rattle.words.specs.Entries.{gate_of_words, wish_of_words, counts_at, gate_words_at, wish_words_at}

pub three_words : (l : List ℕ) → length l ≡ 3 → {x y z : ℕ} → word l 0 ≡ x → word l 1 ≡ y → word l 2 ≡ z → l ≡ x ∷ y ∷ z ∷ []
three_words [] n p q r = absurd (omega arith)
three_words (a ∷ []) n p q r = absurd (omega arith)
three_words (a ∷ b ∷ []) n p q r = absurd (omega arith)
three_words (a ∷ b ∷ c ∷ []) n p q r = cc
three_words (a ∷ b ∷ c ∷ d ∷ l) n p q r = absurd (omega arith)

four_words : (l : List ℕ) → length l ≡ 4 → {x y z v : ℕ} → word l 0 ≡ x → word l 1 ≡ y → word l 2 ≡ z → word l 3 ≡ v → l ≡ x ∷ y ∷ z ∷ v ∷ []
four_words [] n p q r t = absurd (omega arith)
four_words (a ∷ l) n p q r t = ap₂ (λ b m. b ∷ m) p (three_words l (omega arith) q r t)

-- word j of entry i
word_entry : (from n : ℕ) (s : List ℕ) (i j : ℕ) → j < n → word (entry_at from n s i) j ≡ word s (from + i * n + j)
word_entry from n s i j h = get_or-take n _ j 0 h ∙ get_or-drop (from + i * n) s j 0

module _ (s : List ℕ) where
  gate_word_at : (i j : ℕ) → j < gate_size → word (gate_words_at s i) j ≡ word s (i * gate_size + (gates_from + j))
  gate_word_at i j h = let e : gates_from + i * gate_size + j ≡ i * gate_size + (gates_from + j) = omega arith in word_entry gates_from gate_size s i j h ∙ ap (word s) e

  wish_word_at : (i j : ℕ) → j < wish_size → word (wish_words_at s i) j ≡ word s (i * wish_size + (wishes_from + j))
  wish_word_at i j h = let e : wishes_from + i * wish_size + j ≡ i * wish_size + (wishes_from + j) = omega arith in word_entry wishes_from wish_size s i j h ∙ ap (word s) e

  gate_by_words : (i : ℕ) → gate_at s i ≡ gate_of_words (gate_words_at s i)
  gate_by_words i = rw (gate_word_at i 0 (omega arith), gate_word_at i 1 (omega arith), gate_word_at i 2 (omega arith))

  wish_by_words : (i : ℕ) → wish_at s i ≡ wish_of_words (wish_words_at s i)
  wish_by_words i = rw (wish_word_at i 0 (omega arith), wish_word_at i 1 (omega arith), wish_word_at i 2 (omega arith), wish_word_at i 3 (omega arith))

  -- ---- how many there are, and each of them

  pub held_gates : length (held s).gates ≡ (counts_at s).gates
  held_gates = length_entries (gate_at s) (word s 2)

  pub held_rules : length (held s).rules ≡ (counts_at s).rules
  held_rules = length_entries (rule_at s) (word s 3)

  pub held_wishes : length (held s).wishes ≡ (counts_at s).wishes
  held_wishes = length_entries (wish_at s) (word s 4)

  pub held_gate : (i : ℕ) → i < (counts_at s).gates → get_or (held s).gates i no_gate ≡ gate_of_words (gate_words_at s i)
  held_gate i h = entries.entry_at (gate_at s) no_gate (word s 2) i h ∙ gate_by_words i

  pub held_rule : (i : ℕ) → i < (counts_at s).rules → get_or (held s).rules i 0 ≡ rule_at s i
  held_rule i h = entries.entry_at (rule_at s) 0 (word s 3) i h

  pub held_wish : (i : ℕ) → i < (counts_at s).wishes → get_or (held s).wishes i no_wish ≡ wish_of_words (wish_words_at s i)
  held_wish i h = entries.entry_at (wish_at s) no_wish (word s 4) i h ∙ wish_by_words i

  -- ---- of a valid one
  module _ (v : Valid (held s)) (i : ℕ) where
    pub rule_among : i < (counts_at s).rules → Among (points (held s)) (rule_at s i)
    rule_among h = rw (held_rule i h) at (all_at (Among (points (held s))) (held s).rules 0 i v.rules (omega (arith, held_rules)))

    pub wish_allowed : i < (counts_at s).wishes → Allowed (counts_at s).switches (wish_of_words (wish_words_at s i))
    wish_allowed h = rw (held_wish i h) at (all_at (Allowed (counts_at s).switches) (held s).wishes no_wish i v.wishes (omega (arith, held_wishes)))

    -- the words stand for an entry, whose words they are

    pub gate_kept : i < (counts_at s).gates → let w : List ℕ = gate_words_at s i in gate_words (gate_of_words w) ≡ word w 0 ∷ word w 1 ∷ word w 2 ∷ []
    gate_kept h =
        let g : scope.Gate = gate_of_words (gate_words_at s i) in
        let at : (j : ℕ) → j < gate_size → word (gate_words g) j ≡ word (gate_words_at s i) j = λ j b. sym (gate_word (held s) v i j (omega (arith, held_gates)) b ∙ ap (λ x. word (gate_words x) j) (held_gate i h)) ∙ words_kept s v (Used.gate h b) ∙ sym (gate_word_at i j b) in
        three_words (gate_words g) (gate_sized g) (at 0 (omega arith)) (at 1 (omega arith)) (at 2 (omega arith))

    pub wish_kept : i < (counts_at s).wishes → let w : List ℕ = wish_words_at s i in wish_words (wish_of_words w) ≡ word w 0 ∷ word w 1 ∷ word w 2 ∷ word w 3 ∷ []
    wish_kept h =
        let w : scope.Wish = wish_of_words (wish_words_at s i) in
        let at : (j : ℕ) → j < wish_size → word (wish_words w) j ≡ word (wish_words_at s i) j = λ j b. sym (wish_word (held s) v i j (omega (arith, held_wishes)) b ∙ ap (λ x. word (wish_words x) j) (held_wish i h)) ∙ words_kept s v (Used.wish h b) ∙ sym (wish_word_at i j b) in
        four_words (wish_words w) (wish_sized w) (at 0 (omega arith)) (at 1 (omega arith)) (at 2 (omega arith)) (at 3 (omega arith))

-- ---- a gate and its words

pub gate_is : (g : scope.Gate) (w : List ℕ) → gate_words g ≡ w → g ≡ gate_of_words w
gate_is g w e = sym (gate_back g) ∙ ap gate_of_words e

-- words that are no gate's
pub gate_none : (w : List ℕ) → length w ≡ gate_size → ((g : scope.Gate) → gate_words g ≢ w) → gate_of_words w ≡ no_gate
unfolding gate_of
gate_none w n h = go (eqb (word w 0) (code "N")) (eqb (word w 2) 0) (eqb (word w 0) (code "A")) (eqb (word w 0) (code "O")) refl refl refl refl
  where
    same : {k p q : ℕ} → word w 0 ≡ k → word w 1 ≡ p → word w 2 ≡ q → k ∷ p ∷ q ∷ [] ≡ w
    same e f g = sym (three_words w n e f g)

    go : (s t u v : Bool) → eqb (word w 0) (code "N") ≡ s → eqb (word w 2) 0 ≡ t → eqb (word w 0) (code "A") ≡ u → eqb (word w 0) (code "O") ≡ v → gate_of_words w ≡ no_gate
    go true true u v d e f g = absurd (h (scope.not (word w 1)) (same (eqb-true _ _ d) refl (eqb-true _ _ e)))
    go true false u v d e f g = rw (d, e)
    go false t true v d e f g = absurd (h (scope.and (word w 1) (word w 2)) (same (eqb-true _ _ f) refl refl))
    go false t false true d e f g = absurd (h (scope.or (word w 1) (word w 2)) (same (eqb-true _ _ g) refl refl))
    go false t false false d e f g = rw (d, f, g)
