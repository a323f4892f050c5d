-- The words of a sheet with one more entry: the entry's words go into its room, and its count goes up by one. Assumes nothing.
use Rattle.std.specs.Prelude.{ℕ, ◌+◌, ◌*◌, ◌≤◌, ◌<◌, List, [], ◌∷◌, ◌++◌, ◌≡◌, refl, length, set}
use Rattle.std.proofs.Common.{arith, ap, add-one, lt-ltb, append_assoc, append-nil, length-append}
use Rattle.std.proofs.lemmas.List.Edits.{sets}
use Rattle.scope.specs.Sheet.{Sheet, sheet, most_gates, most_rules, most_wishes}
use Rattle.scope.specs.Sheet as scope
use Rattle.scope.specs.Causes.{add_gate, add_rule, add_wish}
use Rattle.scope.specs.Words.{gate_size, wish_size, gates_from, rules_from, wishes_from, word, gate_words, rule_words, wish_words, room, words_of}
use Rattle.scope.proofs.Laws.Lists.{length_snoc}
use Rattle.scope.proofs.Laws.Words.{gate_sized, rule_sized, wish_sized, length_room}
use Rattle.words.specs.Tables.{pushed}
use Rattle.words.specs.Entries.{Within, Kept, HeadPut, GatePut, RulePut, WishPut}
use Rattle.words.specs.Laws.Rooms.{room_put}

-- ---- the parts of the words

abbrev gates_room : Sheet → List ℕ
gates_room t = room gate_words most_gates gate_size t.gates

abbrev rules_room : Sheet → List ℕ
rules_room t = room rule_words most_rules 1 t.rules

abbrev wishes_room : Sheet → List ℕ
wishes_room t = room wish_words most_wishes wish_size t.wishes

abbrev counts : Sheet → List ℕ
counts t = t.switches ∷ t.faults ∷ length t.gates ∷ length t.rules ∷ length t.wishes ∷ []

gates_length : (t : Sheet) → Within t → length (gates_room t) ≡ most_gates * gate_size
gates_length t w = length_room gate_words gate_size gate_sized most_gates t.gates w.gates

rules_length : (t : Sheet) → Within t → length (rules_room t) ≡ most_rules
rules_length t w = length_room rule_words 1 rule_sized most_rules t.rules w.rules

-- ---- the words with one entry more

-- vs are the words of the entry
module _ (t : Sheet) (vs : List ℕ) where
  gate_more : (g : scope.Gate) → vs ≡ gate_words g → length t.gates < most_gates → set (sets (words_of t) (gates_from + length t.gates * gate_size) vs) 2 (length t.gates + 1) ≡ words_of (add_gate t g)
  unfolding words_of
  gate_more g e h =
      let at : ℕ = gates_from + length t.gates * gate_size in
      let put : sets (words_of t) at vs ≡ counts t ++ (gates_room (add_gate t g) ++ (rules_room t ++ wishes_room t)) = rw e (room_put gate_words gate_size gate_sized most_gates t.gates h g (counts t) (rules_room t ++ wishes_room t) at (omega arith)) in
      rw (put, add-one, length_snoc)

  rule_more : (p : ℕ) → vs ≡ rule_words p → Within t → length t.rules < most_rules → set (sets (words_of t) (rules_from + length t.rules * 1) vs) 3 (length t.rules + 1) ≡ words_of (add_rule t p)
  unfolding words_of
  rule_more p e w h =
      let at : ℕ = rules_from + length t.rules * 1 in
      let before : List ℕ = counts t ++ gates_room t in
      let size : length before ≡ rules_from = omega (arith, gates_length t w) in
      let put : sets (words_of t) at vs ≡ before ++ (rules_room (add_rule t p) ++ wishes_room t) = rw e (room_put rule_words 1 rule_sized most_rules t.rules h p before (wishes_room t) at (omega arith)) in
      rw (put, add-one, length_snoc)

  wish_more : (x : scope.Wish) → vs ≡ wish_words x → Within t → length t.wishes < most_wishes → set (sets (words_of t) (wishes_from + length t.wishes * wish_size) vs) 4 (length t.wishes + 1) ≡ words_of (add_wish t x)
  unfolding words_of
  wish_more x e w h =
      let at : ℕ = wishes_from + length t.wishes * wish_size in
      let before : List ℕ = counts t ++ (gates_room t ++ rules_room t) in
      let size : length before ≡ wishes_from = omega (arith, length-append (gates_room t) (rules_room t), gates_length t w, rules_length t w) in
      let put : sets (words_of t) at vs ≡ counts t ++ (gates_room t ++ (rules_room t ++ wishes_room (add_wish t x))) = rw e (simp (append_assoc, append-nil) at (room_put wish_words wish_size wish_sized most_wishes t.wishes h x before [] at (omega arith))) in
      rw (put, add-one, length_snoc)

-- ---- what a put gives

-- before the put there was room for one more: at `place` stands a count below `most`
record Before (t : Sheet) (s : List ℕ) (place count most : ℕ) : Type 0 where
  within : Within t
  space : count < most
  words : s ≡ words_of t
  counted : word s place ≡ count

gate_before : (t : Sheet) (s : List ℕ) (g : scope.Gate) → Kept t s → Within (add_gate t g) → Before t s 2 (length t.gates) most_gates
unfolding words_of
gate_before t s g k w =
    let h : length t.gates < most_gates = omega (arith, length_snoc t.gates g, w.gates) in
    let i : Within t = record { gates = omega arith; rules = w.rules; wishes = w.wishes } in
    record { within = i; space = h; words = k i; counted = ap (λ u. word u 2) (k i) }

rule_before : (t : Sheet) (s : List ℕ) (p : ℕ) → Kept t s → Within (add_rule t p) → Before t s 3 (length t.rules) most_rules
unfolding words_of
rule_before t s p k w =
    let h : length t.rules < most_rules = omega (arith, length_snoc t.rules p, w.rules) in
    let i : Within t = record { gates = w.gates; rules = omega arith; wishes = w.wishes } in
    record { within = i; space = h; words = k i; counted = ap (λ u. word u 3) (k i) }

wish_before : (t : Sheet) (s : List ℕ) (x : scope.Wish) → Kept t s → Within (add_wish t x) → Before t s 4 (length t.wishes) most_wishes
unfolding words_of
wish_before t s x k w =
    let h : length t.wishes < most_wishes = omega (arith, length_snoc t.wishes x, w.wishes) in
    let i : Within t = record { gates = w.gates; rules = w.rules; wishes = omega arith } in
    record { within = i; space = h; words = k i; counted = ap (λ u. word u 4) (k i) }

module _ (s : List ℕ) where
  pub gate_full : (g : scope.Gate) → most_gates ≤ word s 2 → GatePut g s s
  gate_full g full t k w = let b : Before t s 2 (length t.gates) most_gates = gate_before t s g k w in absurd (omega arith)

  pub gate_put : (g : scope.Gate) → GatePut g s (pushed 2 gates_from most_gates gate_size (gate_words g) s)
  gate_put g t k w =
      let b : Before t s 2 (length t.gates) most_gates = gate_before t s g k w in
      rw (b.counted, lt-ltb _ _ b.space, b.words) (gate_more t (gate_words g) g refl b.space)

  pub rule_full : (p : ℕ) → most_rules ≤ word s 3 → RulePut p s s
  rule_full p full t k w = let b : Before t s 3 (length t.rules) most_rules = rule_before t s p k w in absurd (omega arith)

  pub rule_put : (p : ℕ) → RulePut p s (pushed 3 rules_from most_rules 1 (rule_words p) s)
  rule_put p t k w =
      let b : Before t s 3 (length t.rules) most_rules = rule_before t s p k w in
      rw (b.counted, lt-ltb _ _ b.space, b.words) (rule_more t (rule_words p) p refl b.within b.space)

  pub wish_full : (v : List ℕ) → most_wishes ≤ word s 4 → WishPut v s s
  wish_full v full t x e k w = let b : Before t s 4 (length t.wishes) most_wishes = wish_before t s x k w in absurd (omega arith)

  pub wish_put : (v : List ℕ) → WishPut v s (pushed 4 wishes_from most_wishes wish_size v s)
  wish_put v t x e k w =
      let b : Before t s 4 (length t.wishes) most_wishes = wish_before t s x k w in
      rw (b.counted, lt-ltb _ _ b.space, b.words) (wish_more t v x e b.within b.space)

-- ---- other counts of switches and faults

pub head_put : (a f : ℕ) (s : List ℕ) → HeadPut a f s (set (set s 0 a) 1 f)
unfolding words_of
head_put a f s t k w = let i : Within t = record { gates = w.gates; rules = w.rules; wishes = w.wishes } in rw (k i)
