-- A sheet as an array of words: five counts, then room for 400 gates of three words, 64 rules of one and 64 wishes of four. Assumes nothing.
use Rattle.std.specs.Prelude.{ℕ, zero, suc, ◌+◌, ◌-◌, ◌*◌, ◌/◌, ◌%◌, ◌<◌, cond, List, [], ◌∷◌, ◌++◌, eqb, length, get_or, replicate}
use Prim.Native.Char.{code}
use Rattle.scope.specs.Sheet.{Number, number, plus, Clause, Gate, Wish, wish as wishOf, Sheet, sheet, most_gates, most_rules, most_wishes}

-- ---- where the words stand

abbrev pub gate_size : ℕ
gate_size = 3

abbrev pub wish_size : ℕ
wish_size = 4

-- the counts are those of switches, faults, gates, rules and wishes
abbrev pub gates_from : ℕ
gates_from = 5

abbrev pub rules_from : ℕ
rules_from = gates_from + most_gates * gate_size

abbrev pub wishes_from : ℕ
wishes_from = rules_from + most_rules

abbrev pub word_count : ℕ
word_count = wishes_from + most_wishes * wish_size

abbrev pub word : List ℕ → ℕ → ℕ
word s i = get_or s i 0

-- ---- a gate: the letter of its kind, and the points that it names, the second 0 for N

abbrev pub gate_words : Gate → List ℕ
gate_words (Gate.not p) = code "N" ∷ p ∷ 0 ∷ []
gate_words (Gate.and p q) = code "A" ∷ p ∷ q ∷ []
gate_words (Gate.or p q) = code "O" ∷ p ∷ q ∷ []

-- words that stand for no gate are held as one that names 0, which is no point
abbrev pub no_gate : Gate
no_gate = Gate.not 0

unfoldable pub gate_of : (kind left right : ℕ) → Gate
gate_of k p q = cond (eqb k (code "N")) (cond (eqb q 0) (Gate.not p) no_gate) (cond (eqb k (code "A")) (Gate.and p q) (cond (eqb k (code "O")) (Gate.or p q) no_gate))

-- ---- a rule: its point

abbrev pub rule_words : ℕ → List ℕ
rule_words p = p ∷ []

-- ---- a wish: its literals, zeros up to three, and its weight; a literal k is 2k, and -k is 2k + 1

abbrev pub literal_code : Number → ℕ
literal_code x = cond x.minus (x.size * 2 + 1) (x.size * 2)

abbrev pub literal_at : ℕ → Clause → ℕ
literal_at i w = literal_code (get_or w i (plus 0))

abbrev pub wish_words : Wish → List ℕ
wish_words w = literal_at 0 w.clause ∷ literal_at 1 w.clause ∷ literal_at 2 w.clause ∷ w.weight ∷ []

-- what stands where there is no wish
abbrev pub no_wish : Wish
no_wish = wishOf [] 0

-- and the clause back, up to the last word that is not 0
abbrev pub literal_from : ℕ → Number
literal_from c = number (eqb (c % 2) 1) (c / 2)

unfoldable pub clause_of : (x y z : ℕ) → Clause
clause_of x y z = cond (eqb z 0) (cond (eqb y 0) (cond (eqb x 0) [] (literal_from x ∷ [])) (literal_from x ∷ literal_from y ∷ [])) (literal_from x ∷ literal_from y ∷ literal_from z ∷ [])

-- ---- the sheet that words hold; what stands beyond the counts is ignored

-- f of 0, 1 and so on, k of them
unfoldable pub entries : {A : Type 0} → (ℕ → A) → ℕ → List A
entries f zero = []
entries f (suc k) = entries f k ++ f k ∷ []

module _ (s : List ℕ) where
  -- gate, rule and wish i, counted from 0
  abbrev pub gate_at : ℕ → Gate
  gate_at i = gate_of (word s (i * gate_size + gates_from)) (word s (i * gate_size + (gates_from + 1))) (word s (i * gate_size + (gates_from + 2)))

  abbrev pub rule_at : ℕ → ℕ
  rule_at i = word s (i + rules_from)

  abbrev pub wish_at : ℕ → Wish
  wish_at i = wishOf (clause_of (word s (i * wish_size + wishes_from)) (word s (i * wish_size + (wishes_from + 1))) (word s (i * wish_size + (wishes_from + 2)))) (word s (i * wish_size + (wishes_from + 3)))

  abbrev pub held : Sheet
  held = sheet (word s 0) (word s 1) (entries gate_at (word s 2)) (entries rule_at (word s 3)) (entries wish_at (word s 4))

-- ---- the words of a sheet, as a reader leaves them: zeros beyond the counts

unfoldable pub flat : {A : Type 0} → (A → List ℕ) → List A → List ℕ
flat f [] = []
flat f (a ∷ l) = f a ++ flat f l

-- room for n entries of k words
unfoldable pub room : {A : Type 0} → (A → List ℕ) → (n k : ℕ) → List A → List ℕ
room f n k l = flat f l ++ replicate ((n - length l) * k) 0

unfoldable pub words_of : Sheet → List ℕ
words_of t = t.switches ∷ t.faults ∷ length t.gates ∷ length t.rules ∷ length t.wishes ∷ room gate_words most_gates gate_size t.gates ++ (room rule_words most_rules 1 t.rules ++ room wish_words most_wishes wish_size t.wishes)

-- ---- which words of s count: those of its counts, and of as many entries as these say

pub data Used (s : List ℕ) : (at : ℕ) → Type 0 where
  count : {i : ℕ} → i < gates_from → Used s i
  gate : {i j : ℕ} → i < word s 2 → j < gate_size → Used s (i * gate_size + (gates_from + j))
  rule : {i : ℕ} → i < word s 3 → Used s (i + rules_from)
  wish : {i j : ℕ} → i < word s 4 → j < wish_size → Used s (i * wish_size + (wishes_from + j))
