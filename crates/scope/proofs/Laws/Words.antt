-- The words of a sheet are as many as there is room for, and hold that sheet again. Assumes nothing.
use Prim.Native.Nat.{ℕ, zero, suc, ◌+◌, ◌-◌, ◌*◌, ◌/◌, ◌%◌, ◌≤◌, ◌<◌}
use Prim.Native.Char.{code}
use Rattle.std.proofs.Common.{add-zero, sym, ◌∙◌, ext_get_or}
use Rattle.std.proofs.Math.Nat.{suc-mul, add-mul}
use native.Mathlib.Omega.{arith}
use Rattle.std.specs.Prelude.{Bool, cond, ◌≢◌, ◌≡◌, eqb, leb, get_or, replicate}
use Rattle.std.proofs.Math.Bool.{true, false}
use mathlib.Core.List.{List, [], ◌∷◌, ◌++◌, append_assoc, append-nil}
use Rattle.std.proofs.Math.Path.{refl, ap, ap₂}
use Rattle.std.proofs.Math.Dec.{ltb}
use Rattle.std.proofs.Math.ListN.{length, length-append, length-replicate, get_or-append}
use Rattle.std.proofs.lemmas.List.{get_or-replicate}
use Rattle.std.proofs.Math.Seq.{get_or-append-add}
use borrow.Author.Tests.{eqb-true, eqb-false, eq-eqb, ne_eqb, ltb-true, ltb-false, leb-true, leb-false}
use Rattle.scope.specs.Sheet.{Number, number, Clause, Gate, Wish, wish, Sheet, points, most_gates, most_rules, most_wishes, most_literals, All, Among, Names, Allowed, Valid}
use Rattle.scope.specs.Words.{gate_size, wish_size, gates_from, rules_from, wishes_from, word_count, word, gate_words, no_gate, no_wish, gate_of, rule_words, literal_code, literal_at, wish_words, literal_from, clause_of, entries, gate_at, rule_at, wish_at, held, flat, room, words_of, Used, count, gate, rule}
use Rattle.scope.specs.Words as words
use Rattle.scope.proofs.Laws.Alls.{all_at}
use Rattle.scope.proofs.Laws.Gates.{ordered_names}
use Rattle.scope.proofs.Laws.Entries.{length_entries, entry_at}

-- ---- a literal: 2k as k, 2k + 1 as -k, and back

pub code_from : (c : ℕ) → literal_code (literal_from c) ≡ c
code_from c = go (eqb (c % 2) 1) refl
  where
    go : (t : Bool) → eqb (c % 2) 1 ≡ t → cond t (c / 2 * 2 + 1) (c / 2 * 2) ≡ c
    go true e = omega (arith, eqb-true (c % 2) 1 e)
    go false e = let h : c % 2 ≢ 1 = eqb-false (c % 2) 1 e in omega arith

pub from_code : (x : Number) → literal_from (literal_code x) ≡ x
from_code x = go x.minus x.size
  where
    go : (m : Bool) (k : ℕ) → literal_from (literal_code (number m k)) ≡ number m k
    go true k = let e : (k * 2 + 1) % 2 ≡ 1 = omega arith in ap₂ number (eq-eqb ((k * 2 + 1) % 2) 1 e) (omega arith)
    go false k = let e : (k * 2) % 2 ≡ 0 = omega arith in ap₂ number (ne_eqb ((k * 2) % 2) 1 (λ h. omega arith)) (omega arith)

-- a literal of some switch has no 0 for its code
pub code_there : (x : Number) → 1 ≤ x.size → eqb (literal_code x) 0 ≡ false
code_there x h = go x.minus x.size h
  where
    go : (m : Bool) (k : ℕ) → 1 ≤ k → eqb (literal_code (number m k)) 0 ≡ false
    go true k h = ne_eqb (k * 2 + 1) 0 (λ e. omega arith)
    go false k h = ne_eqb (k * 2) 0 (λ e. omega arith)

-- ---- an entry: how many words it takes, and what they stand for

pub gate_sized : (g : Gate) → length (gate_words g) ≡ gate_size
gate_sized (Gate.not p) = refl
gate_sized (Gate.and p q) = refl
gate_sized (Gate.or p q) = refl

pub rule_sized : (p : ℕ) → length (rule_words p) ≡ 1
rule_sized p = refl

pub wish_sized : (w : Wish) → length (wish_words w) ≡ wish_size
wish_sized w = refl

pub gate_back : (g : Gate) → gate_of (word (gate_words g) 0) (word (gate_words g) 1) (word (gate_words g) 2) ≡ g
unfolding gate_of
gate_back (Gate.not p) = refl
gate_back (Gate.and p q) = refl
gate_back (Gate.or p q) = refl

clause_back : (a : ℕ) (w : Clause) → length w ≤ most_literals → All (λ x. Among a x.size) w → clause_of (literal_at 0 w) (literal_at 1 w) (literal_at 2 w) ≡ w
unfolding clause_of
clause_back a [] l h = refl
clause_back a (x ∷ []) l (h, hs) = rw (code_there x h.0, from_code)
clause_back a (x ∷ y ∷ []) l (h, (i, hs)) = rw (code_there y i.0, from_code x, from_code y)
clause_back a (x ∷ y ∷ z ∷ []) l (h, (i, (j, hs))) = rw (code_there z j.0, from_code x, from_code y, from_code z)
clause_back a (x ∷ y ∷ z ∷ v ∷ w) l h = absurd (omega arith)

pub wish_back : (a : ℕ) (w : Wish) → Allowed a w → wish (clause_of (literal_at 0 w.clause) (literal_at 1 w.clause) (literal_at 2 w.clause)) w.weight ≡ w
wish_back a w h = ap (λ c. wish c w.weight) (clause_back a w.clause h.few h.literals)

-- ---- a room of n entries, each of k words

module _ {A : Type 0} (f : A → List ℕ) (k : ℕ) (sized : (a : A) → length (f a) ≡ k) where
  pub length_flat : (l : List A) → length (flat f l) ≡ length l * k
  unfolding flat
  length_flat [] = omega arith
  length_flat (a ∷ l) = omega (arith, length-append (f a) (flat f l), sized a, length_flat l, suc-mul (length l) k)

  pub length_room : (n : ℕ) (l : List A) → length l ≤ n → length (room f n k l) ≡ n * k
  unfolding room
  length_room n l h =
      let whole : length l + (n - length l) ≡ n = omega arith in
      simp (length-append, length-replicate) (omega (arith, length_flat l, add-mul (length l) (n - length l) k, ap (λ m. m * k) whole))

  -- word j of entry i
  flat_at : (l : List A) (d : A) (rest : List ℕ) (i j : ℕ) → i < length l → j < k → word (flat f l ++ rest) (i * k + j) ≡ word (f (get_or l i d)) j
  unfolding flat
  flat_at [] d rest i j h b = absurd (omega arith)
  flat_at (a ∷ l) d rest zero j h b =
      let z : 0 * k + j ≡ j = omega arith in
      ap₂ word (append_assoc (f a) (flat f l) rest) z ∙ get_or-append (f a) (flat f l ++ rest) 0 j (omega (arith, sized a))
  flat_at (a ∷ l) d rest (suc i) j h b =
      let z : suc i * k + j ≡ length (f a) + (i * k + j) = omega (arith, suc-mul i k, sized a) in
      ap₂ word (append_assoc (f a) (flat f l) rest) z ∙ get_or-append-add (f a) (flat f l ++ rest) (i * k + j) 0 ∙ flat_at l d rest i j (omega arith) b

  -- the room stands between other words
  room_at : (n : ℕ) (l : List A) (d : A) (before after : List ℕ) (from : ℕ) → length before ≡ from → (i j at : ℕ) → i < length l → j < k → at ≡ i * k + (from + j) → word (before ++ (room f n k l ++ after)) at ≡ word (f (get_or l i d)) j
  unfolding room
  room_at n l d before after from e i j at h b z =
      let y : at ≡ length before + (i * k + j) = omega arith in
      rw (append_assoc, y, get_or-append-add) (flat_at l d _ i j h b)

  -- what stands in the room after its entries is 0
  room_blank : (n : ℕ) (l : List A) (before after : List ℕ) (from : ℕ) → length before ≡ from → length l ≤ n → (at : ℕ) → from + length l * k ≤ at → at < from + n * k → word (before ++ (room f n k l ++ after)) at ≡ 0
  unfolding room
  room_blank n l before after from e h at i b =
      let x : ℕ = at - (from + length l * k) in
      let whole : length l + (n - length l) ≡ n = omega arith in
      let few : x < (n - length l) * k = omega (arith, add-mul (length l) (n - length l) k, ap (λ m. m * k) whole) in
      let y : at ≡ length before + (length (flat f l) + x) = omega (arith, length_flat l) in
      rw (append_assoc, y, get_or-append-add, get_or-append-add, get_or-append (replicate ((n - length l) * k) 0) after 0 x (omega (arith, length-replicate {A = ℕ} ((n - length l) * k) 0))) (get_or-replicate ((n - length l) * k) x 0 0 few)

-- ---- the words of a sheet

module _ (t : Sheet) where
  abbrev pub counts : List ℕ
  counts = t.switches ∷ t.faults ∷ length t.gates ∷ length t.rules ∷ length t.wishes ∷ []

  abbrev pub gates_room : List ℕ
  gates_room = room gate_words most_gates gate_size t.gates

  abbrev pub rules_room : List ℕ
  rules_room = room rule_words most_rules 1 t.rules

  abbrev pub wishes_room : List ℕ
  wishes_room = room wish_words most_wishes wish_size t.wishes

  module _ (few_gates : length t.gates ≤ most_gates) (few_rules : length t.rules ≤ most_rules) where
    pub gates_size : length gates_room ≡ most_gates * gate_size
    gates_size = length_room gate_words gate_size gate_sized most_gates t.gates few_gates

    pub rules_size : length rules_room ≡ most_rules
    rules_size = length_room rule_words 1 rule_sized most_rules t.rules few_rules

    pub length_words : length t.wishes ≤ most_wishes → length (words_of t) ≡ word_count
    unfolding words_of
    length_words h = omega (arith, length-append gates_room (rules_room ++ wishes_room), length-append rules_room wishes_room, gates_size, rules_size, length_room wish_words wish_size wish_sized most_wishes t.wishes h)

beyond : (n at : ℕ) → ¬ (at < n) → n ≤ at
beyond n at h = go (leb n at) refl
  where
    go : (b : Bool) → leb n at ≡ b → n ≤ at
    go true e = leb-true n at e
    go false e = absurd (h (leb-false n at e))

-- entries are a list that has the same length and the same elements
same_entries : {A : Type 0} (f : ℕ → A) (d : A) (l : List A) → ((i : ℕ) → i < length l → f i ≡ get_or l i d) → entries f (length l) ≡ l
same_entries f d l h = ext_get_or d (entries f (length l)) l (length_entries f (length l)) (λ i b. let c : i < length l = omega (arith, length_entries f (length l)) in entry_at f d (length l) i c ∙ h i c)

module _ (t : Sheet) (v : Valid t) where
  pub gate_word : (i j : ℕ) → i < length t.gates → j < gate_size → word (words_of t) (i * gate_size + (gates_from + j)) ≡ word (gate_words (get_or t.gates i no_gate)) j
  unfolding words_of
  gate_word i j h b = room_at gate_words gate_size gate_sized most_gates t.gates no_gate (counts t) (rules_room t ++ wishes_room t) gates_from refl i j (i * gate_size + (gates_from + j)) h b refl

  before_rules : length (counts t ++ gates_room t) ≡ rules_from
  before_rules = omega (arith, length-append (counts t) (gates_room t), gates_size t v.few_gates v.few_rules)

  before_wishes : length (counts t ++ gates_room t ++ rules_room t) ≡ wishes_from
  before_wishes = omega (arith, length-append (counts t ++ gates_room t) (rules_room t), before_rules, rules_size t v.few_gates v.few_rules)

  wishes_last : words_of t ≡ (counts t ++ gates_room t ++ rules_room t) ++ (wishes_room t ++ [])
  unfolding words_of
  wishes_last = ap (λ r. counts t ++ r) (sym (append_assoc (gates_room t) (rules_room t) (wishes_room t))) ∙ ap (λ r. (counts t ++ gates_room t ++ rules_room t) ++ r) (sym (append-nil (wishes_room t)))

  pub rule_word : (i : ℕ) → i < length t.rules → word (words_of t) (i + rules_from) ≡ get_or t.rules i 0
  unfolding words_of
  rule_word i h = room_at rule_words 1 rule_sized most_rules t.rules 0 (counts t ++ gates_room t) (wishes_room t) rules_from before_rules i 0 (i + rules_from) h (omega arith) (omega arith)

  pub wish_word : (i j : ℕ) → i < length t.wishes → j < wish_size → word (words_of t) (i * wish_size + (wishes_from + j)) ≡ word (wish_words (get_or t.wishes i no_wish)) j
  wish_word i j h b = ap (λ s. word s (i * wish_size + (wishes_from + j))) wishes_last ∙ room_at wish_words wish_size wish_sized most_wishes t.wishes no_wish (counts t ++ gates_room t ++ rules_room t) [] wishes_from before_wishes i j (i * wish_size + (wishes_from + j)) h b refl

  gates_held : entries (gate_at (words_of t)) (length t.gates) ≡ t.gates
  gates_held = same_entries (gate_at (words_of t)) no_gate t.gates (λ i h. rw (gate_word i 0 h (omega arith), gate_word i 1 h (omega arith), gate_word i 2 h (omega arith)) (gate_back (get_or t.gates i no_gate)))

  rules_held : entries (rule_at (words_of t)) (length t.rules) ≡ t.rules
  rules_held = same_entries (rule_at (words_of t)) 0 t.rules rule_word

  wishes_held : entries (wish_at (words_of t)) (length t.wishes) ≡ t.wishes
  wishes_held = same_entries (wish_at (words_of t)) no_wish t.wishes (λ i h. rw (wish_word i 0 h (omega arith), wish_word i 1 h (omega arith), wish_word i 2 h (omega arith), wish_word i 3 h (omega arith)) (wish_back t.switches (get_or t.wishes i no_wish) (all_at (Allowed t.switches) t.wishes no_wish i v.wishes h)))

  pub held_words : held (words_of t) ≡ t
  unfolding words_of
  held_words = rw (gates_held, rules_held, wishes_held)

  -- a word that does not count stands after the entries of its room
  module _ (at : ℕ) (inside : at < word_count) (unused : ¬ Used (words_of t) at) where
    after_gates : gates_from ≤ at → gates_from + length t.gates * gate_size ≤ at
    unfolding words_of
    after_gates l = beyond _ at λ h.
        let same : (at - gates_from) / gate_size * gate_size + (gates_from + (at - gates_from) % gate_size) ≡ at = omega arith in
        let counts : Used (words_of t) ((at - gates_from) / gate_size * gate_size + (gates_from + (at - gates_from) % gate_size)) = gate (omega arith) (omega arith) in
        unused (rw same at counts)

    after_rules : rules_from ≤ at → rules_from + length t.rules * 1 ≤ at
    unfolding words_of
    after_rules l = beyond _ at λ h.
        let same : at - rules_from + rules_from ≡ at = omega arith in
        let counts : Used (words_of t) (at - rules_from + rules_from) = rule (omega arith) in
        unused (rw same at counts)

    after_wishes : wishes_from ≤ at → wishes_from + length t.wishes * wish_size ≤ at
    unfolding words_of
    after_wishes l = beyond _ at λ h.
        let same : (at - wishes_from) / wish_size * wish_size + (wishes_from + (at - wishes_from) % wish_size) ≡ at = omega arith in
        let counts : Used (words_of t) ((at - wishes_from) / wish_size * wish_size + (wishes_from + (at - wishes_from) % wish_size)) = words.wish (omega arith) (omega arith) in
        unused (rw same at counts)

    pub words_blank : word (words_of t) at ≡ 0
    unfolding words_of
    words_blank = go (ltb at gates_from) (ltb at rules_from) (ltb at wishes_from) refl refl refl
      where
        go : (counts-there gates-there rules-there : Bool) → ltb at gates_from ≡ counts-there → ltb at rules_from ≡ gates-there → ltb at wishes_from ≡ rules-there → word (words_of t) at ≡ 0
        go true g r d e f = absurd (unused (count (ltb-true _ _ d)))
        go false true r d e f = room_blank gate_words gate_size gate_sized most_gates t.gates (counts t) (rules_room t ++ wishes_room t) gates_from refl v.few_gates at (after_gates (ltb-false _ _ d)) (omega (arith, ltb-true at rules_from e))
        go false false true d e f = room_blank rule_words 1 rule_sized most_rules t.rules (counts t ++ gates_room t) (wishes_room t) rules_from before_rules v.few_rules at (after_rules (ltb-false _ _ e)) (omega (arith, ltb-true at wishes_from f))
        go false false false d e f = ap (λ s. word s at) wishes_last ∙ room_blank wish_words wish_size wish_sized most_wishes t.wishes (counts t ++ gates_room t ++ rules_room t) [] wishes_from before_wishes v.few_wishes at (after_wishes (ltb-false _ _ f)) (omega arith)

-- ---- and the words of a valid sheet that words hold are those, up to their counts

gate_kept : (n k p q : ℕ) → Names n (gate_of k p q) → gate_words (gate_of k p q) ≡ k ∷ p ∷ q ∷ []
unfolding gate_of
gate_kept n k p q = go (eqb k (code "N")) (eqb k (code "A")) (eqb k (code "O")) (eqb q 0) refl refl refl refl
  where
    go : (not and or none : Bool) → eqb k (code "N") ≡ not → eqb k (code "A") ≡ and → eqb k (code "O") ≡ or → eqb q 0 ≡ none
        → Names n (cond not (cond none (Gate.not p) no_gate) (cond and (Gate.and p q) (cond or (Gate.or p q) no_gate))) → gate_words (cond not (cond none (Gate.not p) no_gate) (cond and (Gate.and p q) (cond or (Gate.or p q) no_gate))) ≡ k ∷ p ∷ q ∷ []
    go true y z true d e f g h = rw (eqb-true k (code "N") d, eqb-true q 0 g)
    go true y z false d e f g (l, h) = absurd (omega arith)
    go false true z w d e f g h = rw (eqb-true k (code "A") e)
    go false false true w d e f g h = rw (eqb-true k (code "O") f)
    go false false false w d e f g (l, h) = absurd (omega arith)

wish_kept : (x y z n : ℕ) → wish_words (wish (clause_of x y z) n) ≡ x ∷ y ∷ z ∷ n ∷ []
unfolding clause_of
wish_kept x y z n = go (eqb x 0) (eqb y 0) (eqb z 0) refl refl refl
  where
    go : (p q r : Bool) → eqb x 0 ≡ p → eqb y 0 ≡ q → eqb z 0 ≡ r → wish_words (wish (cond r (cond q (cond p [] (literal_from x ∷ [])) (literal_from x ∷ literal_from y ∷ [])) (literal_from x ∷ literal_from y ∷ literal_from z ∷ [])) n) ≡ x ∷ y ∷ z ∷ n ∷ []
    go p q false d e f = rw (code_from x, code_from y, code_from z)
    go p false true d e f = rw (code_from x, code_from y, eqb-true z 0 f)
    go false true true d e f = rw (code_from x, eqb-true y 0 e, eqb-true z 0 f)
    go true true true d e f = rw (eqb-true x 0 d, eqb-true y 0 e, eqb-true z 0 f)

-- word j of three, and of four
triple_at : (u : List ℕ) (at from j : ℕ) → j < 3 → word (word u (at + from) ∷ word u (at + (from + 1)) ∷ word u (at + (from + 2)) ∷ []) j ≡ word u (at + (from + j))
triple_at u at from zero h = rw add-zero
triple_at u at from (suc zero) h = refl
triple_at u at from (suc (suc zero)) h = refl
triple_at u at from (suc (suc (suc j))) h = absurd (omega arith)

quad_at : (u : List ℕ) (at from j : ℕ) → j < 4 → word (word u (at + from) ∷ word u (at + (from + 1)) ∷ word u (at + (from + 2)) ∷ word u (at + (from + 3)) ∷ []) j ≡ word u (at + (from + j))
quad_at u at from zero h = rw add-zero
quad_at u at from (suc zero) h = refl
quad_at u at from (suc (suc zero)) h = refl
quad_at u at from (suc (suc (suc zero))) h = refl
quad_at u at from (suc (suc (suc (suc j)))) h = absurd (omega arith)

module _ (u : List ℕ) (v : Valid (held u)) where
  count_kept : (i : ℕ) → i < gates_from → word (words_of (held u)) i ≡ word u i
  unfolding words_of
  count_kept zero h = refl
  count_kept (suc zero) h = refl
  count_kept (suc (suc zero)) h = length_entries (gate_at u) (word u 2)
  count_kept (suc (suc (suc zero))) h = length_entries (rule_at u) (word u 3)
  count_kept (suc (suc (suc (suc zero)))) h = length_entries (wish_at u) (word u 4)
  count_kept (suc (suc (suc (suc (suc i))))) h = absurd (omega arith)

  gate_names : (i : ℕ) → i < word u 2 → Names (points (held u)) (gate_at u i)
  gate_names i h = rw (entry_at (gate_at u) no_gate (word u 2) i h) at (all_at (Names (points (held u))) (held u).gates no_gate i (ordered_names (word u 0 + word u 1) (points (held u)) (held u).gates (omega arith) v.gates) (omega (arith, length_entries (gate_at u) (word u 2))))

  pub words_kept : {i : ℕ} → Used u i → word (words_of (held u)) i ≡ word u i
  words_kept (count {i} h) = count_kept i h
  words_kept (gate {i} {j} h b) =
      gate_word (held u) v i j (omega (arith, length_entries (gate_at u) (word u 2))) b
      ∙ ap (λ g. word (gate_words g) j) (entry_at (gate_at u) no_gate (word u 2) i h)
      ∙ ap (λ s. word s j) (gate_kept (points (held u)) (word u (i * gate_size + gates_from)) (word u (i * gate_size + (gates_from + 1))) (word u (i * gate_size + (gates_from + 2))) (gate_names i h))
      ∙ triple_at u (i * gate_size) gates_from j b
  words_kept (rule {i} h) = rule_word (held u) v i (omega (arith, length_entries (rule_at u) (word u 3))) ∙ entry_at (rule_at u) 0 (word u 3) i h
  words_kept (words.wish {i} {j} h b) =
      wish_word (held u) v i j (omega (arith, length_entries (wish_at u) (word u 4))) b
      ∙ ap (λ w. word (wish_words w) j) (entry_at (wish_at u) no_wish (word u 4) i h)
      ∙ ap (λ s. word s j) (wish_kept (word u (i * wish_size + wishes_from)) (word u (i * wish_size + (wishes_from + 1))) (word u (i * wish_size + (wishes_from + 2))) (word u (i * wish_size + (wishes_from + 3))))
      ∙ quad_at u (i * wish_size) wishes_from j b
