-- A legal text is walked to its end and gives its value, so it has one value only, and its beginnings are walked whole. Assumes nothing.
use Rattle.std.specs.Prelude.{ℕ, zero, suc, ◌+◌, ◌*◌, ◌/◌, ◌%◌, ◌^◌, ◌≤◌, ◌<◌, Bool, true, false, cond, List, [], ◌∷◌, ◌++◌, ◌≡◌, refl, eqb, ltb, length}
use Prim.Native.Char.{code}
use Rattle.std.proofs.Common.{pow-suc, arith, append_assoc, append-nil, sym, ap, ◌∙◌, length-append, lt-ltb, le-leb, ne_eqb}
use Rattle.std.proofs.Math.Option.{Option, none, some}
use Rattle.scope.specs.Text.{bytes}
use Rattle.scope.specs.Sheet.{Number, number, Clause, Wish, wish as wishOf, digit, decimal, All, Among, most_literals}
use Rattle.scope.specs.Typed.{Formula, Typed, typed, most_number, numeral, Gap, Level, ors, ands, factor, most_nested, Written, RuleLines, literal_bytes, literals_bytes, Writable, Weight, WishLines, Legal}
use Rattle.scope.specs.Typed as grammar
use Rattle.scope.specs.Texts.{Starts}
use Rattle.scope.specs.Parsing.{Around, line, bracket, first, bar, head, amp, bang, nested, Slot, State, word, digits, further, rule_line, wish_line, spaced, operand, after, sign, wish, ended, another, add_rule, add_wish, operand_done, number_done, joined_or, outside, is_digit, digit_of, zero_ok, room, grown, nested_more, move, step, legal, stuck, at_end, go_on, walk, start}
use Rattle.scope.proofs.Laws.Lists.{length_snoc}
use Rattle.scope.proofs.Laws.Fields.{by_digits}
use Rattle.scope.proofs.Laws.Reached.{room_between}

-- ---- a byte

-- what comes after a number
abbrev NoDigit : List ℕ → Type 0
NoDigit [] = Unit {0}
NoDigit (b ∷ t) = is_digit b ≡ false

step_walk : (st : State) {next : State} (b : ℕ) (t : List ℕ) → step st b ≡ some next → walk st (b ∷ t) ≡ walk next t
unfolding walk
step_walk st b t e = rw e

-- ---- a number

-- a state that waits for no further digit, and in which no text ends
abbrev pub Plain : State → Type 0
Plain st = ((b : ℕ) → step st b ≡ move st b) × (at_end st ≡ stuck 0)

operand_plain : (k : Around factor) (x : Formula) → Plain (operand_done k x)
unfolding operand_done step at_end
operand_plain (head a) x = (λ b. refl, refl)
operand_plain (amp y a) x = (λ b. refl, refl)
operand_plain (bang k) x = operand_plain k (Formula.not x)

pub number_plain : (slot : Slot) (n : ℕ) → Plain (number_done slot n)
unfolding number_done step at_end
number_plain Slot.switches n = (λ b. refl, refl)
number_plain (Slot.faults a) n = (λ b. refl, refl)
number_plain (Slot.switch k) n = operand_plain k (Formula.switch n)
number_plain (Slot.fault k) n = operand_plain k (Formula.fault n)
number_plain (Slot.literal v w m) n = (λ b. refl, refl)
number_plain (Slot.weight v w) n = (λ b. refl, refl)

further_left : (slot : Slot) (n : ℕ) (t : List ℕ) → NoDigit t → walk (further slot n) t ≡ walk (number_done slot n) t
unfolding walk step at_end
further_left slot n [] h = sym (number_plain slot n).1
further_left slot n (b ∷ t) h = rw (h, (number_plain slot n).0 b)

-- whether or not one more digit may come
grown_left : (slot : Slot) (n : ℕ) (t : List ℕ) → NoDigit t → walk (grown slot n) t ≡ walk (number_done slot n) t
unfolding grown
grown_left slot n t h = go (ltb n (room slot))
  where
    go : (b : Bool) → walk (cond b (further slot n) (number_done slot n)) t ≡ walk (number_done slot n) t
    go true = further_left slot n t h
    go false = refl

pub grown_further : (slot : Slot) (n : ℕ) → n < room slot → grown slot n ≡ further slot n
unfolding grown
grown_further slot n h = rw (lt-ltb n (room slot) h)

module _ (d : ℕ) (l : d < 10) where
  digit_is : is_digit (digit d) ≡ true
  digit_is = rw (le-leb (code "0") (digit d) (omega arith), le-leb (digit d) (code "9") (omega arith))

  digit_value : digit_of (digit d) ≡ d
  digit_value = omega arith

  first_digit : (slot : Slot) (t : List ℕ) → 0 < d → walk (digits slot) (digit d ∷ t) ≡ walk (further slot d) t
  unfolding step move
  first_digit slot t p = step_walk (digits slot) (digit d) t (rw (ne_eqb (digit d) (code "0") (λ e. omega arith), digit_is, digit_value))

  further_digit : (slot : Slot) (n : ℕ) (t : List ℕ) → walk (further slot n) (digit d ∷ t) ≡ walk (grown slot (n * 10 + d)) t
  unfolding step
  further_digit slot n t = step_walk (further slot n) (digit d) t (rw (digit_is, digit_value))

zero_digit : (slot : Slot) (t : List ℕ) → zero_ok slot ≡ true → walk (digits slot) (digit 0 ∷ t) ≡ walk (number_done slot 0) t
unfolding step move
zero_digit slot t z = step_walk (digits slot) (digit 0) t (rw z)

-- by the last digit and those before it, which make a number that may have one more
digits_walk : (k : ℕ) (slot : Slot) (n : ℕ) (t : List ℕ) → 0 < n → n < 10 ^ k → n < room slot * 10 → walk (digits slot) (decimal k n ++ t) ≡ walk (grown slot n) t
digits_walk zero slot n t p h r = absurd (omega arith)
digits_walk (suc k) slot n t p h r =
    let i : n / 10 * 10 + n % 10 ≡ n = omega arith in
    by_digits (λ s. walk (digits slot) (s ++ t) ≡ walk (grown slot n) t) k n
    (λ l. rw (grown_further slot n (omega (arith, room_between slot))) (first_digit n l slot t p))
    (λ l. rw append_assoc (digits_walk k slot (n / 10) (digit (n % 10) ∷ t) (omega arith) (omega (arith, pow-suc 10 k)) (omega arith) ∙ rw (grown_further slot (n / 10) (omega arith)) (further_digit (n % 10) (omega arith) slot (n / 10) t) ∙ ap (λ m. walk (grown slot m) t) i))

numeral_walks : (slot : Slot) (n : ℕ) (t : List ℕ) → n < room slot * 10 → (n ≡ 0 → zero_ok slot ≡ true) → NoDigit t → walk (digits slot) (numeral n ++ t) ≡ walk (number_done slot n) t
unfolding decimal
numeral_walks slot zero t h z e = zero_digit slot t (z refl)
numeral_walks slot (suc n) t h z e = digits_walk 4 slot (suc n) t (omega arith) (omega (arith, room_between slot)) h ∙ grown_left slot (suc n) t e

-- ---- a formula

-- a text that begins, and with no space: one before it is then the gap's
abbrev Opens : List ℕ → Type 0
Opens [] = ⊥
Opens (b ∷ s) = eqb b (code " ") ≡ false

written_opens : {l : Level} {d : ℕ} {x : Formula} {s : List ℕ} → Written l d x s → (t : List ℕ) → Opens (s ++ t)
written_opens (grammar.switch h) t = refl
written_opens (grammar.fault h) t = refl
written_opens (grammar.not g w) t = refl
written_opens (grammar.bracket g w h) t = refl
written_opens (grammar.alone w) t = written_opens w t
written_opens (grammar.and {g} {h} {t = u} w i j z) t = simp append_assoc (written_opens w (g ++ (code "&" ∷ h ++ (u ++ t))))
written_opens (grammar.single w) t = written_opens w t
written_opens (grammar.or {g} {h} {t = u} w i j z) t = simp append_assoc (written_opens w (g ++ (code "|" ∷ h ++ (u ++ t))))

spaced_walks : {g : List ℕ} → Gap g → (k : Around factor) (s : List ℕ) → Opens s → walk (spaced k) (g ++ s) ≡ walk (operand k) s
unfolding walk step move
spaced_walks grammar.none k [] h = absurd h
spaced_walks grammar.none k (b ∷ s) h = rw h
spaced_walks grammar.space k s h = refl

-- a sign, which is no space and no line feed
sign_walks : {g : List ℕ} → Gap g → (a : Around ands) (x : Formula) (b : ℕ) (t : List ℕ) → eqb b (code " ") ≡ false → eqb b (code "\n") ≡ false → walk (after a x) (g ++ b ∷ t) ≡ walk (sign a x) (b ∷ t)
unfolding walk step move
sign_walks grammar.none a x b t e f = rw (e, f)
sign_walks grammar.space a x b t e f = refl

gap_no_digit : {g : List ℕ} → Gap g → (b : ℕ) (t : List ℕ) → is_digit b ≡ false → NoDigit (g ++ b ∷ t)
gap_no_digit grammar.none b t e = e
gap_no_digit grammar.space b t e = refl

-- a formula is walked: `last` is its part after the last `|`, and `inner` has the parts to the left of it
record Joined (o : Around ors) (x : Formula) (s t : List ℕ) : Type 0 where
  inner : Around ands
  last : Formula
  around : outside inner ≡ o
  whole : joined_or inner last ≡ x
  walked : walk (operand (head (first o))) (s ++ t) ≡ walk (after inner last) t

-- what a formula is a part of leaves room for d more brackets and nots, and no digit comes after it
abbrev Walks : Level → ℕ → Formula → List ℕ → Type 0
Walks factor d x s = (k : Around factor) (t : List ℕ) → nested k + d ≤ most_nested → NoDigit t → walk (operand k) (s ++ t) ≡ walk (operand_done k x) t
Walks ands d x s = (a : Around ands) (t : List ℕ) → nested a + d ≤ most_nested → NoDigit t → walk (operand (head a)) (s ++ t) ≡ walk (after a x) t
Walks ors d x s = (o : Around ors) (t : List ℕ) → nested o + d ≤ most_nested → NoDigit t → Joined o x s t

bracket_walks : {k : Around factor} {x : Formula} {s h : List ℕ} → Gap h → (t : List ℕ) → Joined (bracket k) x s (h ++ code ")" ∷ t) → walk (operand (head (first (bracket k)))) (s ++ (h ++ code ")" ∷ t)) ≡ walk (operand_done k x) t
unfolding step move
bracket_walks h t j = j.walked ∙ sign_walks h j.inner j.last (code ")") t refl refl ∙ step_walk (sign j.inner j.last) (code ")") t (rw (j.around, j.whole))

bar_walks : {o : Around ors} {x : Formula} {s g : List ℕ} → Gap g → (t : List ℕ) → Joined o x s (g ++ code "|" ∷ t) → walk (operand (head (first o))) (s ++ (g ++ code "|" ∷ t)) ≡ walk (spaced (head (bar x o))) t
unfolding step move
bar_walks i t j = j.walked ∙ sign_walks i j.inner j.last (code "|") t refl refl ∙ step_walk (sign j.inner j.last) (code "|") t (rw (j.around, j.whole))

-- by how the formula is written, whatever it is a part of and whatever follows
walks : {l : Level} {d : ℕ} {x : Formula} {s : List ℕ} → Written l d x s → Walks l d x s
unfolding step move nested_more nested operand_done number_done
walks (grammar.switch {k = n} (p, q)) = λ k t h e. step_walk (operand k) (code "s") (numeral n ++ t) refl ∙ numeral_walks (Slot.switch k) n t (omega arith) (λ z. absurd (omega arith)) e
walks (grammar.fault {k = n} (p, q)) = λ k t h e. step_walk (operand k) (code "f") (numeral n ++ t) refl ∙ numeral_walks (Slot.fault k) n t (omega arith) (λ z. absurd (omega arith)) e
walks (grammar.not {g} {s} i w) = λ k t h e. simp append_assoc (step_walk (operand k) (code "!") (g ++ (s ++ t)) (rw (lt-ltb (nested k) most_nested (omega arith))) ∙ spaced_walks i (bang k) (s ++ t) (written_opens w t) ∙ walks w (bang k) t (omega arith) e)
walks (grammar.bracket {g} {s} {h = f} i w j) = λ k t h e.
    let u : List ℕ = f ++ code ")" ∷ t in
    simp append_assoc (step_walk (operand k) (code "(") (g ++ (s ++ u)) (rw (lt-ltb (nested k) most_nested (omega arith))) ∙ spaced_walks i (head (first (bracket k))) (s ++ u) (written_opens w u) ∙ bracket_walks j t (walks w (bracket k) u (omega arith) (gap_no_digit j (code ")") t refl)))
walks (grammar.alone w) = λ a t h e. walks w (head a) t h e
walks (grammar.and {x} {s} {g} {h = f} {t = r} w i j z) = λ a t h e.
    let u : List ℕ = f ++ (r ++ t) in
    simp append_assoc (walks w a (g ++ code "&" ∷ u) h (gap_no_digit i (code "&") u refl) ∙ sign_walks i a x (code "&") u refl refl ∙ step_walk (sign a x) (code "&") u refl ∙ spaced_walks j (amp x a) (r ++ t) (written_opens z t) ∙ walks z (amp x a) t h e)
walks (grammar.single {x} w) = λ o t h e. record { inner = first o; last = x; around = refl; whole = refl; walked = walks w (first o) t h e }
walks (grammar.or {x} {y} {s} {g} {h = f} {t = r} w i j z) = λ o t h e.
    let u : List ℕ = f ++ (r ++ t) in
    record {
      inner = bar x o;
      last = y;
      around = refl;
      whole = refl;
      walked = simp append_assoc (bar_walks i u (walks w o (g ++ code "|" ∷ u) h (gap_no_digit i (code "|") u refl)) ∙ spaced_walks j (head (bar x o)) (r ++ t) (written_opens z t) ∙ walks z (bar x o) t h e);
    }

-- ---- rules

fed_walks : {v : Typed} {x : Formula} {s : List ℕ} (t : List ℕ) → Joined (line v) x s (code "\n" ∷ t) → walk (operand (head (first (line v)))) (s ++ code "\n" ∷ t) ≡ walk (rule_line (add_rule v x)) t
unfolding step move
fed_walks t j = j.walked ∙ step_walk (after j.inner j.last) (code "\n") t (rw (j.around, j.whole))

rule_walks : {x : Formula} {s : List ℕ} → Written ors most_nested x s → (v : Typed) (t : List ℕ) → walk (rule_line v) (bytes "rule " ++ (s ++ code "\n" ∷ t)) ≡ walk (rule_line (add_rule v x)) t
unfolding walk step move nested
rule_walks w v t = fed_walks t (walks w (line v) (code "\n" ∷ t) (omega arith) refl)

abbrev with_rules : Typed → List Formula → Typed
with_rules v xs = typed v.switches v.faults (v.rules ++ xs) v.wishes

rules_walk : {xs : List Formula} {s : List ℕ} → RuleLines xs s → (v : Typed) (t : List ℕ) → walk (rule_line v) (s ++ t) ≡ walk (rule_line (with_rules v xs)) t
rules_walk grammar.none v t = rw append-nil
rules_walk (grammar.next {x} {xs} {s} {t = r} w ws) v t = simp append_assoc (rule_walks w v (r ++ t) ∙ rules_walk ws (add_rule v x) t ∙ ap (λ l. walk (rule_line (typed v.switches v.faults l v.wishes)) t) (append_assoc v.rules (x ∷ []) xs))

-- ---- wishes

literal_walks : (v : Typed) (w : Clause) (x : Number) (t : List ℕ) → Among most_number x.size → NoDigit t → walk (wish v w) (literal_bytes x ++ t) ≡ walk (ended v (w ++ x ∷ [])) t
unfolding walk step move number_done
literal_walks v w x t (p, q) e = go x.minus
  where
    go : (m : Bool) → walk (wish v w) (literal_bytes (number m x.size) ++ t) ≡ walk (ended v (w ++ number m x.size ∷ [])) t
    go true = numeral_walks (Slot.literal v w true) x.size t (omega arith) (λ z. absurd (omega arith)) e
    go false = numeral_walks (Slot.literal v w false) x.size t (omega arith) (λ z. absurd (omega arith)) e

-- it begins with no `w`, so a weight that might have come does not count
another_literal : (v : Typed) (w : Clause) (x : Number) (t : List ℕ) → length w < most_literals → walk (another v w) (literal_bytes x ++ t) ≡ walk (wish v w) (literal_bytes x ++ t)
unfolding walk step move
another_literal v w x t l = go x.minus
  where
    go : (m : Bool) → walk (another v w) (literal_bytes (number m x.size) ++ t) ≡ walk (wish v w) (literal_bytes (number m x.size) ++ t)
    go true = rw (lt-ltb (length w) most_literals l)
    go false = rw (lt-ltb (length w) most_literals l)

literals_no_digit : (xs : Clause) (t : List ℕ) → NoDigit t → NoDigit (literals_bytes xs ++ t)
unfolding literals_bytes
literals_no_digit [] t e = e
literals_no_digit (x ∷ xs) t e = refl

-- the literals w stand before
literals_walk : (v : Typed) (w xs : Clause) (t : List ℕ) → length w + length xs ≤ most_literals → All (λ x. Among most_number x.size) xs → NoDigit t → walk (ended v w) (literals_bytes xs ++ t) ≡ walk (ended v (w ++ xs)) t
unfolding literals_bytes step move
literals_walk v w [] t l h e = rw append-nil
literals_walk v w (x ∷ xs) t l (h, hs) e =
    let u : List ℕ = literals_bytes xs ++ t in
    simp append_assoc (step_walk (ended v w) (code " ") (literal_bytes x ++ u) refl ∙ another_literal v w x u (omega arith) ∙ literal_walks v w x u h (literals_no_digit xs t e) ∙ literals_walk v (w ++ x ∷ []) xs t (omega (arith, length_snoc w x)) hs e ∙ ap (λ l. walk (ended v l) t) (append_assoc w (x ∷ []) xs))

weight_no_digit : {n : ℕ} {s : List ℕ} → Weight n s → (t : List ℕ) → NoDigit (s ++ code "\n" ∷ t)
weight_no_digit grammar.missing t = refl
weight_no_digit (grammar.stated h) t = refl

weight_word : (v : Typed) (w : Clause) (t : List ℕ) → walk (ended v w) (bytes " weight " ++ t) ≡ walk (digits (Slot.weight v w)) t
unfolding walk step move
weight_word v w t = refl

weight_walks : {n : ℕ} {s : List ℕ} → Weight n s → (v : Typed) (w : Clause) (t : List ℕ) → walk (ended v w) (s ++ code "\n" ∷ t) ≡ walk (wish_line (add_wish v (wishOf w n))) t
unfolding step move number_done
weight_walks grammar.missing v w t = step_walk (ended v w) (code "\n") t refl
weight_walks (grammar.stated {n} h) v w t = weight_word v w (numeral n ++ code "\n" ∷ t) ∙ numeral_walks (Slot.weight v w) n (code "\n" ∷ t) (omega arith) (λ z. refl) refl ∙ step_walk (number_done (Slot.weight v w) n) (code "\n") t refl

wish_word : (v : Typed) (t : List ℕ) → walk (wish_line v) (bytes "wish " ++ t) ≡ walk (wish v []) t
unfolding walk step move
wish_word v t = refl

wish_walks : (v : Typed) (w : Clause) {n : ℕ} {s : List ℕ} (t : List ℕ) → Writable w → Weight n s → walk (wish_line v) (bytes "wish" ++ (literals_bytes w ++ (s ++ code "\n" ∷ t))) ≡ walk (wish_line (add_wish v (wishOf w n))) t
unfolding literals_bytes
wish_walks v [] t (a, b, c) h = absurd (omega arith)
wish_walks v (x ∷ xs) {s = s} t (a, b, (i, is)) h =
    let e : NoDigit (s ++ code "\n" ∷ t) = weight_no_digit h t in
    let u : List ℕ = literals_bytes xs ++ (s ++ code "\n" ∷ t) in
    simp append_assoc (wish_word v (literal_bytes x ++ u) ∙ literal_walks v [] x u i (literals_no_digit xs (s ++ code "\n" ∷ t) e) ∙ literals_walk v (x ∷ []) xs (s ++ code "\n" ∷ t) (omega arith) is e ∙ weight_walks h v (x ∷ xs) t)

abbrev with_wishes : Typed → List Wish → Typed
with_wishes v ws = typed v.switches v.faults v.rules (v.wishes ++ ws)

wish_end : (v : Typed) → walk (wish_line v) [] ≡ legal v
unfolding walk at_end
wish_end v = refl

wishes_walk : {ws : List Wish} {s : List ℕ} → WishLines ws s → (v : Typed) → walk (wish_line v) s ≡ legal (with_wishes v ws)
wishes_walk grammar.none v = rw append-nil (wish_end v)
wishes_walk (grammar.next {w} {ws} {t = t} h i r) v = simp append_assoc (wish_walks v w.clause t h i ∙ wishes_walk r (add_wish v w) ∙ ap (λ l. legal (typed v.switches v.faults v.rules l)) (append_assoc v.wishes (w ∷ []) ws))

-- where no rule is left, it does not count that one might have come
no_rule_left : {ws : List Wish} {s : List ℕ} → WishLines ws s → (v : Typed) → walk (rule_line v) s ≡ walk (wish_line v) s
unfolding walk step move at_end
no_rule_left grammar.none v = refl
no_rule_left (grammar.next h i r) v = refl

-- ---- the whole

switches_word : (t : List ℕ) → walk start (bytes "switches " ++ t) ≡ walk (digits Slot.switches) t
unfolding walk step move
switches_word t = refl

faults_word : (a : ℕ) (t : List ℕ) → walk (number_done Slot.switches a) (bytes "\nfaults " ++ t) ≡ walk (digits (Slot.faults a)) t
unfolding walk step move number_done
faults_word a t = refl

rules_word : (a f : ℕ) (t : List ℕ) → walk (number_done (Slot.faults a) f) (code "\n" ∷ t) ≡ walk (rule_line (typed a f [] [])) t
unfolding walk step move number_done
rules_word a f t = refl

pub legal_walks : (v : Typed) (s : List ℕ) → Legal v s → walk start s ≡ legal v
legal_walks v s h =
    let a : ℕ = v.switches in
    let f : ℕ = v.faults in
    let t : List ℕ = h.rules ++ h.wishes in
    let u : List ℕ = numeral f ++ code "\n" ∷ t in
    rw h.text (simp append_assoc (switches_word (numeral a ++ (bytes "\nfaults " ++ u)) ∙ numeral_walks Slot.switches a (bytes "\nfaults " ++ u) (omega (arith, h.switches)) (λ z. refl) refl ∙ faults_word a u ∙ numeral_walks (Slot.faults a) f (code "\n" ∷ t) (omega (arith, h.faults)) (λ z. refl) refl ∙ rules_word a f t ∙ rules_walk h.written (typed a f [] []) h.wishes ∙ no_rule_left h.wished (typed a f v.rules []) ∙ wishes_walk h.wished (typed a f v.rules [])))

pub legal_once : (v w : Typed) (s : List ℕ) → Legal v s → Legal w s → v ≡ w
legal_once v w s a b = let e : legal v ≡ legal w = sym (legal_walks v s a) ∙ legal_walks w s b in cc

-- ---- where a text is stuck

end_stuck : (st : State) {n : ℕ} → at_end st ≡ stuck n → n ≡ 0
unfolding at_end
end_stuck (word s st) e = cc
end_stuck (digits slot) e = cc
end_stuck (further slot n) e = cc
end_stuck (rule_line v) e = cc
end_stuck (wish_line v) e = cc
end_stuck (spaced k) e = cc
end_stuck (operand k) e = cc
end_stuck (after a x) e = cc
end_stuck (sign a x) e = cc
end_stuck (wish v w) e = cc
end_stuck (ended v w) e = cc
end_stuck (another v w) e = cc

-- no byte more helps where one is left
stuck_append : (st : State) (p q : List ℕ) {n : ℕ} → walk st p ≡ stuck (suc n) → walk st (p ++ q) ≡ stuck (suc n + length q)
unfolding walk
stuck_append st [] q e = absurd (omega (arith, end_stuck st e))
stuck_append st (b ∷ p) q {n} e = go (step st b) e (λ next. stuck_append next p q)
  where
    go : (o : Option State) → go_on o (suc (length p)) (λ st. walk st p) ≡ stuck (suc n) → ((next : State) → walk next p ≡ stuck (suc n) → walk next (p ++ q) ≡ stuck (suc n + length q)) → go_on o (suc (length (p ++ q))) (λ st. walk st (p ++ q)) ≡ stuck (suc n + length q)
    go none e more = let i : suc (length p) ≡ suc n = cc in ap stuck (omega (arith, length-append p q))
    go (some next) e more = more next e

left_within : (st : State) (s : List ℕ) {n : ℕ} → walk st s ≡ stuck n → n ≤ length s
unfolding walk
left_within st [] e = omega (arith, end_stuck st e)
left_within st (b ∷ s) {n} e = go (step st b) e (λ next. left_within next s)
  where
    go : (o : Option State) → go_on o (suc (length s)) (λ st. walk st s) ≡ stuck n → ((next : State) → walk next s ≡ stuck n → n ≤ length s) → n ≤ suc (length s)
    go none e more = let i : suc (length s) ≡ n = cc in omega arith
    go (some next) e more = omega (arith, more next e)

-- and the bytes after it have no part in it
pub stuck_front : (st : State) (p q : List ℕ) {n : ℕ} → walk st (p ++ q) ≡ stuck (suc n + length q) → walk st p ≡ stuck (suc n)
unfolding walk
stuck_front st [] q e = absurd (omega (arith, left_within st q e))
stuck_front st (b ∷ p) q {n} e = go (step st b) e (λ next. stuck_front next p q)
  where
    go : (o : Option State) → go_on o (suc (length (p ++ q))) (λ st. walk st (p ++ q)) ≡ stuck (suc n + length q) → ((next : State) → walk next (p ++ q) ≡ stuck (suc n + length q) → walk next p ≡ stuck (suc n)) → go_on o (suc (length p)) (λ st. walk st p) ≡ stuck (suc n)
    go none e more = let i : suc (length (p ++ q)) ≡ suc n + length q = cc in ap stuck (omega (arith, length-append p q))
    go (some next) e more = more next e

pub starts_walk : (p : List ℕ) → Starts p → (n : ℕ) → walk start p ≡ stuck n → n ≡ 0
starts_walk p (s, v, (q, e), h) zero f = refl
starts_walk p (s, v, (q, e), h) (suc n) f = let g : legal v ≡ stuck (suc n + length q) = sym (legal_walks v s h) ∙ ap (walk start) (sym e) ∙ stuck_append start p q f in cc
