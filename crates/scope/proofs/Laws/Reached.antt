-- What stands before each place of a typed text that is read byte by byte. Assumes nothing.
use Rattle.std.specs.Prelude.{ℕ, zero, suc, ◌+◌, ◌*◌, ◌≤◌, ◌<◌, Bool, true, false, cond, List, [], ◌∷◌, ◌++◌, ◌≢◌, ◌≡◌, refl, eqb, leb, ltb, length}
use Prim.Native.Char.{code}
use Rattle.std.proofs.Common.{arith, append_assoc, append-nil, sym, ap, subst, ◌∙◌, eqb-true, leb-true, ltb-true, lt-ltb}
use Rattle.std.proofs.Math.Option.{Option, none, some}
use Rattle.std.proofs.Math.Seq.{append_snoc}
use Rattle.std.proofs.lemmas.Bool.{eqb-false}
use Rattle.scope.specs.Text.{bytes}
use Rattle.scope.specs.Sheet.{Number, number, Clause, Wish, wish as wishOf, digit, decimal, All, Among, most_literals}
use Rattle.scope.specs.Reading.{when}
use Rattle.scope.specs.Typed.{Formula, Typed, typed, Gap, Level, ors, ands, factor, Written, RuleLines, Writable, Weight, WishLines, Legal, most_nested, most_number, numeral, literal_bytes, literals_bytes}
use Rattle.scope.specs.Parsing.{Around, nested, Slot, State, feed, add_rule, add_wish, operand_done, number_done, joined_or, outside, closed, fed, is_digit, digit_of, zero_ok, room, grown, Arm, on, nested_more, operand_arms, sign_arms, literal_arms, move, step, start}
use Rattle.scope.proofs.Laws.Tests.{clash, both}
use Rattle.scope.proofs.Laws.Lists.{length_snoc}
use Rattle.scope.proofs.Laws.Alls.{all_snoc}
use Rattle.scope.proofs.Laws.Digits.{decimal_more}

-- ---- a text so far, and what is put behind it

rule_behind : (h t r s : List ℕ) → h ++ code "\n" ∷ t ++ [] ++ r ++ s ++ feed ≡ h ++ code "\n" ∷ (t ++ (r ++ s ++ feed)) ++ []
rule_behind h t r s = simp (append_assoc, append-nil)

wish_behind : (h t w s : List ℕ) → h ++ t ++ w ++ (s ++ feed) ≡ h ++ (t ++ (w ++ s ++ feed))
wish_behind h t w s = simp append_assoc

literal_behind : (p s t u n : List ℕ) → p ++ (s ++ t) ++ u ++ n ≡ p ++ (s ++ (t ++ (u ++ n)))
literal_behind p s t u n = simp append_assoc

-- a formula that is complete with its last part
formula_behind : (p s g u t : List ℕ) → p ++ s ++ g ++ u ++ t ≡ p ++ (s ++ g ++ u ++ t)
formula_behind p s g u t = simp append_assoc

-- ---- one more line, after the others

rules_snoc : {xs : List Formula} {x : Formula} {t s : List ℕ} → RuleLines xs t → Written ors most_nested x s → RuleLines (xs ++ x ∷ []) (t ++ (bytes "rule " ++ s ++ feed))
rules_snoc RuleLines.none w = RuleLines.next w RuleLines.none
rules_snoc {s} (RuleLines.next {s = r} {t = t} u rs) w = rw (append_assoc (bytes "rule " ++ r) (code "\n" ∷ t) (bytes "rule " ++ s ++ feed)) (RuleLines.next u (rules_snoc rs w))

literals_snoc : (w : Clause) (x : Number) → literals_bytes (w ++ x ∷ []) ≡ literals_bytes w ++ code " " ∷ literal_bytes x
unfolding literals_bytes
literals_snoc [] x = append-nil (code " " ∷ literal_bytes x)
literals_snoc (y ∷ w) x = ap (λ s. code " " ∷ literal_bytes y ++ s) (literals_snoc w x) ∙ sym (append_assoc (code " " ∷ literal_bytes y) (literals_bytes w) (code " " ∷ literal_bytes x))

wishes_snoc : {ws : List Wish} {t s : List ℕ} → WishLines ws t → (w : Wish) → Writable w.clause → Weight w.weight s → WishLines (ws ++ w ∷ []) (t ++ (bytes "wish" ++ literals_bytes w.clause ++ s ++ feed))
wishes_snoc WishLines.none w h i = WishLines.next {w = w} h i WishLines.none
wishes_snoc {s = s} (WishLines.next {w = u} {s = r} {t = t} g j ws) w h i = rw (append_assoc (bytes "wish" ++ literals_bytes u.clause ++ r) (code "\n" ∷ t) (bytes "wish" ++ literals_bytes w.clause ++ s ++ feed)) (WishLines.next {w = u} g j (wishes_snoc ws w h i))

-- ---- a number's digits

-- up to two of them, or up to four
pub room_between : (slot : Slot) → (10 ≤ room slot) × (room slot ≤ 1000)
room_between Slot.switches = omega arith
room_between (Slot.faults a) = omega arith
room_between (Slot.switch k) = omega arith
room_between (Slot.fault k) = omega arith
room_between (Slot.literal v w minus) = omega arith
room_between (Slot.weight v w) = omega arith

pub digit_byte : (b : ℕ) → is_digit b ≡ true → (code "0" ≤ b) × (b ≤ code "9")
digit_byte b e = let (p, q) = both (leb (code "0") b) (leb b (code "9")) e in (leb-true (code "0") b p, leb-true b (code "9") q)

one_digit : (b : ℕ) → code "0" ≤ b → b ≤ code "9" → numeral (digit_of b) ≡ b ∷ []
unfolding decimal
one_digit b p q =
    let d : digit (digit_of b) ≡ b = omega arith in
    rw (lt-ltb (digit_of b) 10 (omega arith), d)

more_digits : (n b : ℕ) → 1 ≤ n → n < 1000 → code "0" ≤ b → b ≤ code "9" → numeral (n * 10 + digit_of b) ≡ numeral n ++ b ∷ []
more_digits n b h i p q =
    let d : digit (digit_of b) ≡ b = omega arith in
    decimal_more 4 n (digit_of b) h (omega arith) (omega arith) ∙ ap (λ c. numeral n ++ c ∷ []) d

-- ---- what stands before a place

-- after p comes a formula at the level of the context, with brackets and nots at most d deep; a space before it is in p
pub data Before : (l : Level) → Around l → (d : ℕ) → (p : List ℕ) → Type 0 where
  line : {v : Typed} {p : List ℕ} → Legal v p → v.wishes ≡ [] → Before ors (Around.line v) most_nested (p ++ bytes "rule ")
  bracket : {k : Around factor} {d : ℕ} {p g : List ℕ} → Before factor k (suc d) p → Gap g → Before ors (Around.bracket k) d (p ++ code "(" ∷ g)
  first : {o : Around ors} {d : ℕ} {p : List ℕ} → Before ors o d p → Before ands (Around.first o) d p
  bar : {o : Around ors} {d : ℕ} {x : Formula} {p s g h : List ℕ} → Before ors o d p → Written ors d x s → Gap g → Gap h → Before ands (Around.bar x o) d (p ++ s ++ g ++ code "|" ∷ h)
  head : {a : Around ands} {d : ℕ} {p : List ℕ} → Before ands a d p → Before factor (Around.head a) d p
  amp : {a : Around ands} {d : ℕ} {x : Formula} {p s g h : List ℕ} → Before ands a d p → Written ands d x s → Gap g → Gap h → Before factor (Around.amp x a) d (p ++ s ++ g ++ code "&" ∷ h)
  bang : {k : Around factor} {d : ℕ} {p g : List ℕ} → Before factor k (suc d) p → Gap g → Before factor (Around.bang k) d (p ++ code "!" ∷ g)

-- p is the lines of v, and of one wish more these literals
pub record Wishing (v : Typed) (w : Clause) (p : List ℕ) : Type 0 where
  pub lines : List ℕ
  pub are : Legal v lines
  pub literals : All (λ x. Among most_number x.size) w
  pub text : p ≡ lines ++ (bytes "wish" ++ literals_bytes w)

-- what a literal has before its number
abbrev pub marked : Bool → List ℕ
marked minus = cond minus (bytes "!s") (bytes "s")

-- after p comes a number
pub data Asked : Slot → (p : List ℕ) → Type 0 where
  switches : Asked Slot.switches (bytes "switches ")
  faults : {a : ℕ} → a ≤ most_number → Asked (Slot.faults a) (bytes "switches " ++ numeral a ++ code "\n" ∷ bytes "faults ")
  switch : {k : Around factor} {d : ℕ} {p : List ℕ} → Before factor k d p → Asked (Slot.switch k) (p ++ bytes "s")
  fault : {k : Around factor} {d : ℕ} {p : List ℕ} → Before factor k d p → Asked (Slot.fault k) (p ++ bytes "f")
  literal : {v : Typed} {w : Clause} {p : List ℕ} (minus : Bool) → Wishing v w p → length w < most_literals → Asked (Slot.literal v w minus) (p ++ code " " ∷ marked minus)
  weight : {v : Typed} {w : Clause} {p : List ℕ} → Wishing v w p → 1 ≤ length w → length w ≤ most_literals → Asked (Slot.weight v w) (p ++ bytes " weight ")

-- p has come to the state; a word has bytes left, so that it can be completed
pub data Reached : State → (p : List ℕ) → Type 0 where
  word : {w : List ℕ} {st : State} {p : List ℕ} → 1 ≤ length w → Reached st (p ++ w) → Reached (State.word w st) p
  digits : {slot : Slot} {p : List ℕ} → Asked slot p → Reached (State.digits slot) p
  further : {slot : Slot} {n : ℕ} {p : List ℕ} → Asked slot p → 1 ≤ n → n < room slot → Reached (State.further slot n) (p ++ numeral n)
  rule_line : {v : Typed} {p : List ℕ} → Legal v p → v.wishes ≡ [] → Reached (State.rule_line v) p
  wish_line : {v : Typed} {p : List ℕ} → Legal v p → Reached (State.wish_line v) p
  spaced : {k : Around factor} {d : ℕ} {p : List ℕ} → Before factor k d p → Before factor k d (p ++ bytes " ") → Reached (State.spaced k) p
  operand : {k : Around factor} {d : ℕ} {p : List ℕ} → Before factor k d p → Reached (State.operand k) p
  after : {a : Around ands} {d : ℕ} {x : Formula} {p s : List ℕ} → Before ands a d p → Written ands d x s → Reached (State.after a x) (p ++ s)
  sign : {a : Around ands} {d : ℕ} {x : Formula} {p s : List ℕ} → Before ands a d p → Written ands d x s → Reached (State.sign a x) (p ++ s ++ bytes " ")
  wish : {v : Typed} {w : Clause} {p : List ℕ} → Wishing v w p → length w < most_literals → Reached (State.wish v w) (p ++ bytes " ")
  ended : {v : Typed} {w : Clause} {p : List ℕ} → Wishing v w p → 1 ≤ length w → length w ≤ most_literals → Reached (State.ended v w) p
  another : {v : Typed} {w : Clause} {p : List ℕ} → Wishing v w p → 1 ≤ length w → length w ≤ most_literals → Reached (State.another v w) (p ++ bytes " ")

pub start_reached : Reached start []
start_reached = word {w = bytes "switches "} (omega arith) (digits switches)

-- ---- a line is complete

head_legal : {a n : ℕ} → a ≤ most_number → n ≤ most_number → Legal (typed a n [] []) (bytes "switches " ++ numeral a ++ code "\n" ∷ bytes "faults " ++ numeral n ++ feed)
head_legal {a} {n} h i = record { switches = h; faults = i; rules = []; written = RuleLines.none; wishes = []; wished = WishLines.none; text = sym (append-nil (bytes "switches " ++ numeral a ++ code "\n" ∷ bytes "faults " ++ numeral n ++ feed)) }

-- the lines before the rules, but for a line feed
abbrev headed : Typed → List ℕ
headed v = bytes "switches " ++ numeral v.switches ++ code "\n" ∷ bytes "faults " ++ numeral v.faults

-- no wishes have no bytes
no_wishes : {s : List ℕ} → WishLines [] s → s ≡ []
no_wishes WishLines.none = refl

rule_added : {v : Typed} {p : List ℕ} → Legal v p → (x : Formula) (s : List ℕ) → v.wishes ≡ [] → Written ors most_nested x s → Legal (add_rule v x) (p ++ bytes "rule " ++ s ++ feed)
rule_added {v} l x s e w = record {
  switches = l.switches;
  faults = l.faults;
  rules = l.rules ++ (bytes "rule " ++ s ++ feed);
  written = rules_snoc l.written w;
  wishes = [];
  wished = rw e WishLines.none;
  text = ap (λ q. q ++ bytes "rule " ++ s ++ feed) (l.text ∙ ap (λ ws. headed v ++ code "\n" ∷ l.rules ++ ws) (no_wishes (rw e at l.wished))) ∙ rule_behind (headed v) l.rules (bytes "rule ") s;
}

wish_added : {v : Typed} {w : Clause} {n : ℕ} {p s : List ℕ} → Wishing v w p → 1 ≤ length w → length w ≤ most_literals → Weight n s → Legal (add_wish v (wishOf w n)) (p ++ (s ++ feed))
wish_added {v} {w} {n} {s = s} u h i k = let l : Legal v u.lines = u.are in record {
  switches = l.switches;
  faults = l.faults;
  rules = l.rules;
  written = l.written;
  wishes = l.wishes ++ (bytes "wish" ++ literals_bytes w ++ s ++ feed);
  wished = wishes_snoc l.wished (wishOf w n) (h, i, u.literals) k;
  text = ap (λ q. q ++ (s ++ feed)) (u.text ∙ ap (λ q. q ++ (bytes "wish" ++ literals_bytes w)) l.text) ∙ wish_behind (headed v ++ code "\n" ∷ l.rules) l.wishes (bytes "wish" ++ literals_bytes w) s;
}

-- ---- an operand is complete

operand_done_lem : {k : Around factor} {d : ℕ} {x : Formula} {p s : List ℕ} → Before factor k d p → Written factor d x s → Reached (operand_done k x) (p ++ s)
unfolding operand_done
operand_done_lem (head b) w = after b (Written.alone w)
operand_done_lem {s} (amp {p = p} {s = r} {g = g} {h = h} b y i j) w = rw (formula_behind p r g (code "&" ∷ h) s) (after b (Written.and y i j w))
operand_done_lem {s} (bang {p = p} {g = g} b i) w = rw (append_assoc p (code "!" ∷ g) s) (operand_done_lem b (Written.not i w))

-- ---- a number is complete

mark_bytes : (minus : Bool) (n : ℕ) → literal_bytes (number minus n) ≡ marked minus ++ numeral n
mark_bytes true n = refl
mark_bytes false n = refl

literal_added : {v : Typed} {w : Clause} {p : List ℕ} (minus : Bool) (n : ℕ) → Wishing v w p → Among most_number n → Wishing v (w ++ number minus n ∷ []) (p ++ code " " ∷ marked minus ++ numeral n)
literal_added {w} {p} minus n h i = record {
  lines = h.lines;
  are = h.are;
  literals = all_snoc (λ x. Among most_number x.size) w (number minus n) h.literals i;
  text = ap (λ q. q ++ code " " ∷ marked minus ++ numeral n) h.text
      ∙ literal_behind h.lines (bytes "wish") (literals_bytes w) (code " " ∷ marked minus) (numeral n)
      ∙ ap (λ s. h.lines ++ (bytes "wish" ++ s)) (sym (literals_snoc w (number minus n) ∙ ap (λ s. literals_bytes w ++ code " " ∷ s) (mark_bytes minus n)));
}

-- only a number of switches or faults and a weight may be 0
number_done_lem : {slot : Slot} {p : List ℕ} (n : ℕ) → Asked slot p → (zero_ok slot ≡ false → 1 ≤ n) → n < room slot * 10 → Reached (number_done slot n) (p ++ numeral n)
unfolding number_done
number_done_lem n switches h i = let l : n ≤ most_number = omega arith in word {w = feed ++ bytes "faults "} (omega arith) (digits (faults l))
number_done_lem n (faults j) h i = let l : n ≤ most_number = omega arith in word {w = feed} (omega arith) (rule_line (head_legal j l) refl)
number_done_lem n (switch {p = p} b) h i = rw (append_assoc p (bytes "s") (numeral n)) (operand_done_lem b (Written.switch (h refl, omega arith)))
number_done_lem n (fault {p = p} b) h i = rw (append_assoc p (bytes "f") (numeral n)) (operand_done_lem b (Written.fault (h refl, omega arith)))
number_done_lem n (literal {w = w} minus u j) h i = ended (literal_added minus n u (h refl, omega arith)) (omega (arith, length_snoc w (number minus n))) (omega (arith, length_snoc w (number minus n)))
number_done_lem n (weight {v = v} {w = w} {p = p} u j k) h i =
    let l : Legal (add_wish v (wishOf w n)) (p ++ bytes " weight " ++ numeral n ++ feed) = rw (append_assoc (p ++ bytes " weight ") (numeral n) feed, append_assoc p (bytes " weight ") (numeral n ++ feed)) (wish_added u j k (Weight.stated {n = n} (omega arith))) in
    word {w = feed} (omega arith) (wish_line l)

-- or may have one more digit
grown_reached : {slot : Slot} {p : List ℕ} (n : ℕ) → Asked slot p → 1 ≤ n → n < room slot * 10 → Reached (grown slot n) (p ++ numeral n)
unfolding grown
grown_reached {slot} {p} n h i l = go (ltb n (room slot)) refl
  where
    go : (t : Bool) → ltb n (room slot) ≡ t → Reached (cond t (State.further slot n) (number_done slot n)) (p ++ numeral n)
    go true e = further h i (ltb-true n (room slot) e)
    go false e = number_done_lem n h (λ z. i) l

-- ---- one more byte

-- q has come to the state, if there is one
abbrev pub Next : (q : List ℕ) → Option State → Type 0
Next q none = Unit {0}
Next q (some st) = Reached st q

next_when : (q : List ℕ) (t : Bool) (st : State) → (t ≡ true → Reached st q) → Next q (when t st)
next_when q true st h = h refl
next_when q false st h = tt

next_cond : (q : List ℕ) (t : Bool) (o r : Option State) → (t ≡ true → Next q o) → (t ≡ false → Next q r) → Next q (cond t o r)
next_cond q true o r f g = f refl
next_cond q false o r f g = g refl

-- each arm leads on from p, by its own byte
abbrev Arms : (p : List ℕ) → List Arm → Type 0
Arms p rs = All (λ r. Next (p ++ r.0 ∷ []) r.1) rs

arms_on : (p : List ℕ) (b : ℕ) (rs : List Arm) → Arms p rs → Next (p ++ b ∷ []) (on b rs)
arms_on p b [] h = tt
arms_on p b (r ∷ rs) h = next_cond (p ++ b ∷ []) (eqb b r.0) r.1 (on b rs)
    (λ e. subst (λ c. Next (p ++ c ∷ []) r.1) (sym (eqb-true b r.0 e)) h.0)
    (λ e. arms_on p b rs h.1)

-- ---- an operand

-- so what is open around it, and how deep it may go on, make up the most
before_nested : {l : Level} {k : Around l} {d : ℕ} {p : List ℕ} → Before l k d p → nested k + d ≡ most_nested
unfolding nested
before_nested (line l e) = refl
before_nested (bracket b g) = omega (arith, before_nested b)
before_nested (first b) = before_nested b
before_nested (bar b w g h) = before_nested b
before_nested (head b) = before_nested b
before_nested (amp b w g h) = before_nested b
before_nested (bang b g) = omega (arith, before_nested b)

-- one more bracket or not, if d leaves room for it
next_nested : (q : List ℕ) (k : Around factor) (st : State) (d : ℕ) (p : List ℕ) → Before factor k d p → ((e : ℕ) → Before factor k (suc e) p → Reached st q) → Next q (nested_more k st)
unfolding nested_more
next_nested q k st zero p b f = next_when q (ltb (nested k) most_nested) st (λ e. absurd (omega (arith, ltb-true (nested k) most_nested e, before_nested b)))
next_nested q k st (suc d) p b f = next_when q (ltb (nested k) most_nested) st (λ e. f d b)

operand_arms_lem : (k : Around factor) (d : ℕ) (p : List ℕ) → Before factor k d p → Arms p (operand_arms k)
operand_arms_lem k d p b = (digits (switch b), (digits (fault b), (negated, (bracketed, tt))))
  where
    negated : Next (p ++ bytes "!") (nested_more k (State.spaced (Around.bang k)))
    negated = next_nested (p ++ bytes "!") k (State.spaced (Around.bang k)) d p b (λ e c. spaced (bang c Gap.none) (rw append_snoc (bang c Gap.space)))

    bracketed : Next (p ++ bytes "(") (nested_more k (State.spaced (Around.head (Around.first (Around.bracket k)))))
    bracketed = next_nested (p ++ bytes "(") k (State.spaced (Around.head (Around.first (Around.bracket k)))) d p b (λ e c. spaced (head (first (bracket c Gap.none))) (rw append_snoc (head (first (bracket c Gap.space)))))

-- ---- a sign after an operand

-- q ends in a formula at the level of `|`, with those to its left
data Joined (o : Around ors) (d : ℕ) (x : Formula) : (q : List ℕ) → Type 0 where
  joined : {p s : List ℕ} → Before ors o d p → Written ors d x s → Joined o d x (p ++ s)

join : {a : Around ands} {d : ℕ} {x : Formula} {p s : List ℕ} → Before ands a d p → Written ands d x s → Joined (outside a) d (joined_or a x) (p ++ s)
join (first b) w = joined b (Written.single w)
join {s} (bar {p = p} {s = r} {g = g} {h = h} b y i j) w = rw (formula_behind p r g (code "|" ∷ h) s) (joined b (Written.or y i j w))

fed_reached : {o : Around ors} {d : ℕ} {x : Formula} {q : List ℕ} → Joined o d x q → Next (q ++ feed) (fed o x)
fed_reached {x} (joined {s = s} (line l e) w) = rule_line (rule_added l x s e w) e
fed_reached (joined (bracket b g) w) = tt

closed_reached : {o : Around ors} {d : ℕ} {x : Formula} {q g : List ℕ} → Joined o d x q → Gap g → Next (q ++ g ++ bytes ")") (closed o x)
closed_reached (joined (line l e) w) i = tt
closed_reached {g} (joined {s = s} (bracket {p = p} {g = h} b j) w) i = rw (formula_behind p (code "(" ∷ h) s g (bytes ")")) (operand_done_lem b (Written.bracket j w i))

bar_reached : {o : Around ors} {d : ℕ} {x : Formula} {q g : List ℕ} → Joined o d x q → Gap g → Reached (State.spaced (Around.head (Around.bar x o))) (q ++ g ++ bytes "|")
bar_reached (joined b w) i = spaced (head (bar b w i Gap.none)) (rw append_snoc (head (bar b w i Gap.space)))

sign_arms_lem : {a : Around ands} {d : ℕ} {x : Formula} {p s g : List ℕ} → Before ands a d p → Written ands d x s → Gap g → Arms (p ++ s ++ g) (sign_arms a x)
sign_arms_lem b w i = (spaced (amp b w i Gap.none) (rw append_snoc (amp b w i Gap.space)), (bar_reached (join b w) i, (closed_reached (join b w) i, tt)))

-- ---- any state

wish_begun : {v : Typed} {p : List ℕ} → Legal v p → Reached (State.word (bytes "ish ") (State.wish v [])) (p ++ bytes "w")
unfolding literals_bytes
wish_begun {v} {p} l =
    let e : p ++ bytes "wish" ++ bytes " " ≡ p ++ bytes "w" ++ bytes "ish " = simp append_assoc in
    word {w = bytes "ish "} (omega arith) (subst (Reached (State.wish v [])) e (wish record { lines = p; are = l; literals = tt; text = refl } (omega arith)))

word_moves : (b : ℕ) (w : List ℕ) (st : State) (p : List ℕ) → Reached st (p ++ w) → Next (p ++ b ∷ []) (move (State.word w st) b)
unfolding move
word_moves b [] st p r = tt
word_moves b (c ∷ []) st p r = arms_on p b ((c, some st) ∷ []) (r, tt)
word_moves b (c ∷ d ∷ w) st p r = arms_on p b ((c, some (State.word (d ∷ w) st)) ∷ []) (word (omega arith) (rw append_snoc r), tt)

digit_reached : (b : ℕ) (slot : Slot) (p : List ℕ) → Asked slot p → b ≢ code "0" → is_digit b ≡ true → Reached (State.further slot (digit_of b)) (p ++ b ∷ [])
digit_reached b slot p h ne e =
    let (i, j) = digit_byte b e in
    subst (λ s. Reached (State.further slot (digit_of b)) (p ++ s)) (one_digit b i j) (further h (omega arith) (omega (arith, room_between slot)))

-- a 0 is all of its number
digit_moves : (b : ℕ) (slot : Slot) (p : List ℕ) → Asked slot p → Next (p ++ b ∷ []) (move (State.digits slot) b)
unfolding move decimal
digit_moves b slot p h = next_cond (p ++ b ∷ []) (eqb b (code "0")) (when (zero_ok slot) (number_done slot 0)) (when (is_digit b) (State.further slot (digit_of b)))
    (λ e. next_when (p ++ b ∷ []) (zero_ok slot) (number_done slot 0) (λ z. rw (eqb-true b (code "0") e) (number_done_lem 0 h (λ f. clash z f) (omega (arith, room_between slot)))))
    (λ e. next_when (p ++ b ∷ []) (is_digit b) (State.further slot (digit_of b)) (digit_reached b slot p h (eqb-false b (code "0") e)))

-- a literal after a space
literal_arms_lem : {v : Typed} {w : Clause} {p : List ℕ} → Wishing v w p → length w < most_literals → Arms (p ++ bytes " ") (literal_arms v w)
literal_arms_lem {v} {w} {p} h i =
    let plain : Asked (Slot.literal v w false) (p ++ bytes " " ++ bytes "s") = rw append_snoc (literal false h i) in
    let negated : Asked (Slot.literal v w true) (p ++ bytes " " ++ bytes "!" ++ bytes "s") = simp append_assoc (literal true h i) in
    (digits plain, (word {w = bytes "s"} (omega arith) (digits negated), tt))

-- or a weight
another_moves : (b : ℕ) {v : Typed} {w : Clause} (p : List ℕ) → Wishing v w p → 1 ≤ length w → length w ≤ most_literals → Next (p ++ bytes " " ++ b ∷ []) (move (State.another v w) b)
unfolding move
another_moves b {v} {w} p u h i = arms_on (p ++ bytes " ") b ((code "w", some (State.word (bytes "eight ") (State.digits (Slot.weight v w)))) ∷ cond (ltb (length w) most_literals) (literal_arms v w) []) (word {w = bytes "eight "} (omega arith) (digits (simp append_assoc (weight u h i))), go (ltb (length w) most_literals) refl)
  where
    go : (t : Bool) → ltb (length w) most_literals ≡ t → Arms (p ++ bytes " ") (cond t (literal_arms v w) [])
    go true e = literal_arms_lem u (ltb-true (length w) most_literals e)
    go false e = tt

-- by the state: each of its arms puts one byte behind the text, and what is said of the next state holds with it
move_reached : (b : ℕ) {st : State} {p : List ℕ} → Reached st p → Next (p ++ b ∷ []) (move st b)
unfolding move
move_reached b (word {w = w} {st = st} {p = p} h r) = word_moves b w st p r
move_reached b (digits {slot = slot} {p = p} h) = digit_moves b slot p h
move_reached b (further h i l) = tt
move_reached b (rule_line {v = v} {p = p} l e) = arms_on p b ((code "r", some (State.word (bytes "ule ") (State.operand (Around.head (Around.first (Around.line v)))))) ∷ (code "w", some (State.word (bytes "ish ") (State.wish v []))) ∷ [])
    (word {w = bytes "ule "} (omega arith) (rw append_snoc (operand (head (first (line l e))))), (wish_begun l, tt))
move_reached b (wish_line {v = v} {p = p} l) = arms_on p b ((code "w", some (State.word (bytes "ish ") (State.wish v []))) ∷ []) (wish_begun l, tt)
move_reached b (spaced {k = k} {d = d} {p = p} h i) = arms_on p b ((code " ", some (State.operand k)) ∷ operand_arms k) (operand i, operand_arms_lem k d p h)
move_reached b (operand {k = k} {d = d} {p = p} h) = arms_on p b (operand_arms k) (operand_arms_lem k d p h)
move_reached b (after {a = a} {x = x} {p = p} {s = s} h w) = arms_on (p ++ s) b ((code " ", some (State.sign a x)) ∷ (code "\n", fed (outside a) (joined_or a x)) ∷ sign_arms a x) (sign h w, (fed_reached (join h w), subst (λ q. Arms q (sign_arms a x)) (append-nil (p ++ s)) (sign_arms_lem h w Gap.none)))
move_reached b (sign {a = a} {x = x} {p = p} {s = s} h w) = arms_on (p ++ s ++ bytes " ") b (sign_arms a x) (sign_arms_lem h w Gap.space)
move_reached b (wish {v = v} {w = w} {p = p} h i) = arms_on (p ++ bytes " ") b (literal_arms v w) (literal_arms_lem h i)
move_reached b (ended {v = v} {w = w} {p = p} u h i) = arms_on p b ((code " ", some (State.another v w)) ∷ (code "\n", some (State.wish_line (add_wish v (wishOf w 1)))) ∷ []) (another u h i, (wish_line (wish_added u h i Weight.missing), tt))
move_reached b (another {v = v} {w = w} {p = p} u h i) = another_moves b p u h i

-- one more digit, or the number is complete
module _ (b : ℕ) (slot : Slot) (n : ℕ) (p : List ℕ) (h : Asked slot p) (i : 1 ≤ n) (l : n < room slot) where
  further_reached : is_digit b ≡ true → Reached (grown slot (n * 10 + digit_of b)) (p ++ numeral n ++ b ∷ [])
  further_reached e =
      let (u, v) = digit_byte b e in
      rw append_assoc (subst (λ s. Reached (grown slot (n * 10 + digit_of b)) (p ++ s)) (more_digits n b i (omega (arith, room_between slot)) u v) (grown_reached (n * 10 + digit_of b) h (omega arith) (omega arith)))

  further_steps : Next (p ++ numeral n ++ b ∷ []) (step (State.further slot n) b)
  unfolding step
  further_steps = next_cond (p ++ numeral n ++ b ∷ []) (is_digit b) (some (grown slot (n * 10 + digit_of b))) (move (number_done slot n) b)
      further_reached
      (λ e. move_reached b (number_done_lem n h (λ z. i) (omega (arith, room_between slot))))

pub step_reached : (b : ℕ) (st : State) (p : List ℕ) → Reached st p → Next (p ++ b ∷ []) (step st b)
unfolding step
step_reached b (State.further slot n) p (further {p = q} h i l) = further_steps b slot n q h i l
step_reached b (State.word w st) p r = move_reached b r
step_reached b (State.digits slot) p r = move_reached b r
step_reached b (State.rule_line v) p r = move_reached b r
step_reached b (State.wish_line v) p r = move_reached b r
step_reached b (State.spaced k) p r = move_reached b r
step_reached b (State.operand k) p r = move_reached b r
step_reached b (State.after a x) p r = move_reached b r
step_reached b (State.sign a x) p r = move_reached b r
step_reached b (State.wish v w) p r = move_reached b r
step_reached b (State.ended v w) p r = move_reached b r
step_reached b (State.another v w) p r = move_reached b r
