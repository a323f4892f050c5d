-- A typed text that is read to its end is legal; one that is not is, up to where it stops, the beginning of a legal one. Assumes nothing.
use Prim.Native.Nat.{ℕ, zero, suc, ◌+◌, ◌-◌, ◌*◌, ◌≤◌}
use Prim.Native.Char.{code}
use Rattle.std.proofs.Common.{arith, append-nil, ap, subst, eq-eqb, le-ltb}
use Rattle.std.specs.Prelude.{Bool, cond, List, [], ◌∷◌, ◌++◌, ◌≡◌, ltb, length, take}
use Rattle.std.proofs.Math.Bool.{true, false}
use Rattle.std.proofs.Math.Option.{Option, none, some}
use Rattle.std.proofs.Math.Path.{refl}
use Rattle.std.proofs.Math.Seq.{append_snoc}
use Rattle.scope.specs.Text.{bytes}
use Rattle.scope.specs.Sheet.{number, Clause, wish as wishOf}
use Rattle.scope.specs.Typed.{Formula, Typed, typed, Level, ors, ands, factor, Legal}
use Rattle.scope.specs.Texts.{Starts}
use Rattle.scope.specs.Parsing.{Around, Slot, State, feed, add_rule, add_wish, operand_done, number_done, joined_or, outside, closed, fed, room, grown, move, step, Outcome, legal, stuck, at_end, go_on, walk, start}
use Rattle.scope.proofs.Laws.Reached.{Reached, start_reached, Next, step_reached}

-- ---- all the bytes of a text

-- what is told of s, read after p: p and s are legal, or up to the last n bytes they have come to a state
abbrev Told : (p s : List ℕ) → Outcome → Type 0
Told p s (legal v) = Legal v (p ++ s)
Told p s (stuck n) = (n ≤ length s) × (st : State) × Reached st (p ++ take (length s - n) s)

stuck_told : {st : State} {p : List ℕ} → Reached st p → Told p [] (stuck 0)
stuck_told {st} r = (omega arith, st, rw append-nil r)

end_told : (st : State) (p : List ℕ) → Reached st p → Told p [] (at_end st)
unfolding at_end
end_told (State.rule_line v) p (Reached.rule_line l e) = rw append-nil l
end_told (State.wish_line v) p (Reached.wish_line l) = rw append-nil l
end_told (State.word w st) p r = stuck_told r
end_told (State.digits slot) p r = stuck_told r
end_told (State.further slot n) p r = stuck_told r
end_told (State.spaced k) p r = stuck_told r
end_told (State.operand k) p r = stuck_told r
end_told (State.after a x) p r = stuck_told r
end_told (State.sign a x) p r = stuck_told r
end_told (State.wish v w) p r = stuck_told r
end_told (State.ended v w) p r = stuck_told r
end_told (State.another v w) p r = stuck_told r

told_cons : (b : ℕ) (p s : List ℕ) (o : Outcome) → Told (p ++ b ∷ []) s o → Told p (b ∷ s) o
told_cons b p s (legal v) h = rw append_snoc at h
told_cons b p s (stuck n) (l, st, r) =
    let i : suc (length s) - n ≡ suc (length s - n) = omega arith in
    (omega arith, st, rw i (rw append_snoc at r))

walk_told : (s : List ℕ) (st : State) (p : List ℕ) → Reached st p → Told p s (walk st s)
unfolding walk
walk_told [] st p r = end_told st p r
walk_told (b ∷ s) st p r = go (step st b) (step_reached b st p r) (walk_told s)
  where
    go : (o : Option State) → Next (p ++ b ∷ []) o → ((st : State) (p : List ℕ) → Reached st p → Told p s (walk st s)) → Told p (b ∷ s) (go_on o (suc (length s)) (λ st. walk st s))
    go none h more =
        let i : suc (length s) - suc (length s) ≡ 0 = omega arith in
        (omega arith, st, rw i (rw append-nil r))
    go (some to) h more = told_cons b p s (walk to s) (more to (p ++ b ∷ []) h)

pub walk_legal : (s : List ℕ) (v : Typed) → walk start s ≡ legal v → Legal v s
walk_legal s v e = subst (Told [] s) e (walk_told s start [] start_reached)

-- ---- what comes to a state goes on to an end

-- a state from which some bytes lead to the end
abbrev Ends : State → Type 0
Ends st = (q : List ℕ) × (v : Typed) × (walk st q ≡ legal v)

ends_by : (st to : State) (b : ℕ) → step st b ≡ some to → Ends to → Ends st
unfolding walk
ends_by st to b e (q, v, h) = (b ∷ q, v, rw e h)

word_ends : (w : List ℕ) (st : State) → 1 ≤ length w → Ends st → Ends (State.word w st)
unfolding step move
word_ends [] st h m = absurd (omega arith)
word_ends (c ∷ []) st h m = ends_by (State.word (c ∷ []) st) st c (rw (eq-eqb c c refl)) m
word_ends (c ∷ d ∷ w) st h m = ends_by (State.word (c ∷ d ∷ w) st) (State.word (d ∷ w) st) c (rw (eq-eqb c c refl)) (word_ends (d ∷ w) st (omega arith) m)

-- ---- after an operand: a bracket closes each that is open, and a line feed the line

abbrev EndsIn : (l : Level) → Around l → Type 0
EndsIn ors o = (a : Around ands) (x : Formula) → outside a ≡ o → Ends (State.after a x)
EndsIn ands a = (x : Formula) → Ends (State.after a x)
EndsIn factor k = (x : Formula) → Ends (operand_done k x)

around_ends : {l : Level} (k : Around l) → EndsIn l k
unfolding step move at_end walk operand_done
around_ends (Around.line v) = λ a x e. ends_by (State.after a x) (State.rule_line (add_rule v (joined_or a x))) (code "\n") (ap (λ o. fed o (joined_or a x)) e) ([], add_rule v (joined_or a x), refl)
around_ends (Around.bracket k) = λ a x e. ends_by (State.after a x) (operand_done k (joined_or a x)) (code ")") (ap (λ o. closed o (joined_or a x)) e) (around_ends k (joined_or a x))
around_ends (Around.first o) = λ x. around_ends o (Around.first o) x refl
around_ends (Around.bar y o) = λ x. around_ends o (Around.bar y o) x refl
around_ends (Around.head a) = λ x. around_ends a x
around_ends (Around.amp y a) = λ x. around_ends a (Formula.and y x)
around_ends (Around.bang k) = λ x. around_ends k (Formula.not x)

-- ---- a number: zeros make it complete, whatever it is for

faults_end : (a n : ℕ) → Ends (number_done (Slot.faults a) n)
unfolding number_done at_end walk
faults_end a n = word_ends feed (State.rule_line (typed a n [] [])) (omega arith) ([], typed a n [] [], refl)

wish_ends : (v : Typed) (w : Clause) → Ends (State.ended v w)
unfolding step move at_end walk
wish_ends v w = let to : Typed = add_wish v (wishOf w 1) in ends_by (State.ended v w) (State.wish_line to) (code "\n") refl ([], to, refl)

weight_ends : (v : Typed) (w : Clause) (n : ℕ) → Ends (number_done (Slot.weight v w) n)
unfolding number_done at_end walk
weight_ends v w n = let to : Typed = add_wish v (wishOf w n) in word_ends feed (State.wish_line to) (omega arith) ([], to, refl)

module _ (slot : Slot) (done : (n : ℕ) → Ends (number_done slot n)) where
  -- a 0 makes it larger, until no more digit may come
  grown_ends : (k n : ℕ) → 1 ≤ n → room slot ≤ n + k → Ends (grown slot n)
  unfolding grown step
  grown_ends zero n i h = rw (le-ltb n (room slot) (omega arith)) (done n)
  grown_ends (suc k) n i h = go (ltb n (room slot)) (grown_ends k (n * 10 + 0) (omega arith) (omega arith))
    where
      go : (t : Bool) → Ends (grown slot (n * 10 + 0)) → Ends (cond t (State.further slot n) (number_done slot n))
      go true more = ends_by (State.further slot n) (grown slot (n * 10 + 0)) (code "0") refl more
      go false more = done n

  further_ends : (n : ℕ) → 1 ≤ n → Ends (State.further slot n)
  unfolding step
  further_ends n i = ends_by (State.further slot n) (grown slot (n * 10 + 0)) (code "0") refl (grown_ends (room slot) (n * 10 + 0) (omega arith) (omega arith))

  digits_end : Ends (State.digits slot)
  unfolding step move
  digits_end = ends_by (State.digits slot) (State.further slot 1) (code "1") refl (further_ends 1 (omega arith))

number_ends : (slot : Slot) (n : ℕ) → Ends (number_done slot n)
unfolding number_done
number_ends Slot.switches n = word_ends (feed ++ bytes "faults ") (State.digits (Slot.faults n)) (omega arith) (digits_end (Slot.faults n) (faults_end n))
number_ends (Slot.faults a) n = faults_end a n
number_ends (Slot.switch k) n = around_ends k (Formula.switch n)
number_ends (Slot.fault k) n = around_ends k (Formula.fault n)
number_ends (Slot.literal v w minus) n = wish_ends v (w ++ number minus n ∷ [])
number_ends (Slot.weight v w) n = weight_ends v w n

-- ---- any state

slot_ends : (slot : Slot) → Ends (State.digits slot)
slot_ends slot = digits_end slot (number_ends slot)

operand_ends : (k : Around factor) → Ends (State.spaced k)
unfolding step move
operand_ends k = ends_by (State.spaced k) (State.digits (Slot.switch k)) (code "s") refl (slot_ends (Slot.switch k))

reached_ends : {st : State} {p : List ℕ} → Reached st p → Ends st
unfolding step move at_end walk
reached_ends (Reached.word {w = w} {st = st} h r) = word_ends w st h (reached_ends r)
reached_ends (Reached.digits {slot = slot} h) = slot_ends slot
reached_ends (Reached.further {slot = slot} {n = n} h i l) = further_ends slot (number_ends slot) n i
reached_ends (Reached.rule_line {v = v} l e) = ([], v, refl)
reached_ends (Reached.wish_line {v = v} l) = ([], v, refl)
reached_ends (Reached.spaced {k = k} h i) = operand_ends k
reached_ends (Reached.operand {k = k} h) = ends_by (State.operand k) (State.digits (Slot.switch k)) (code "s") refl (slot_ends (Slot.switch k))
reached_ends (Reached.after {a = a} {x = x} h w) = around_ends a x
reached_ends (Reached.sign {a = a} {x = x} h w) = ends_by (State.sign a x) (State.spaced (Around.amp x a)) (code "&") refl (operand_ends (Around.amp x a))
reached_ends (Reached.wish {v = v} {w = w} h i) = ends_by (State.wish v w) (State.digits (Slot.literal v w false)) (code "s") refl (slot_ends (Slot.literal v w false))
reached_ends (Reached.ended {v = v} {w = w} u h i) = wish_ends v w
reached_ends (Reached.another {v = v} {w = w} u h i) = let weight : Slot = Slot.weight v w in ends_by (State.another v w) (State.word (bytes "eight ") (State.digits weight)) (code "w") refl (word_ends (bytes "eight ") (State.digits weight) (omega arith) (slot_ends weight))

-- ---- where no byte goes on

-- what leads from the state to an end makes a legal text of it
reached_starts : (st : State) (p : List ℕ) → Reached st p → Starts p
reached_starts st p r = let (q, v, e) = reached_ends r in (p ++ q, v, (q, refl), subst (Told p q) e (walk_told q st p r))

pub walk_stuck : (s : List ℕ) (n : ℕ) → walk start s ≡ stuck n → (n ≤ length s) × Starts (take (length s - n) s)
walk_stuck s n e =
    let (l, st, r) = subst (Told [] s) e (walk_told s start [] start_reached) in
    (l, reached_starts st (take (length s - n) s) r)
