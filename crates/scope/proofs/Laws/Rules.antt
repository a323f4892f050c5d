-- What the list rule gives, over any table of plans and patterns. Assumes nothing.
use Prim.Native.Nat.{ℕ, zero, suc, ◌+◌, ◌-◌, ◌≤◌, ◌<◌}
use Rattle.std.proofs.Common.{zero-add, suc-add, add-suc, add-zero, arith, sym, ap, ◌∙◌, length-append, length-take-le, take-suc, get_or-take, take-take}
use Rattle.std.proofs.Math.Decide.{dec_le}
use Rattle.std.specs.Prelude.{true, false, List, [], ◌∷◌, ◌++◌, ◌≢◌, ◌↔◌, ◌≡◌, refl, length, take, get_or}
use Rattle.std.proofs.Math.Bool.{not}
use Rattle.std.proofs.Math.Option.{Option, none, some}
use Rattle.std.proofs.Math.Path.{subst}
use Rattle.std.proofs.Math.ListN.{get_or-append}
use Rattle.std.proofs.Math.Seq.{take-length, take-append_seam, get_or-append_seam}
use Rattle.std.proofs.lemmas.List.{take-append-le}
use borrow.Author.Tests.{not-true, not-false}
use Rattle.scope.specs.Pick.{Better}
use Rattle.scope.specs.Rule.{Task, Verdict, plan, no_plan, no_room, run, verdict_of, passes_all, best, missed, short, missed_by, next, rule, whole}
use Rattle.scope.proofs.Laws.Tests.{clash, both, up_to_lem}
use Rattle.scope.proofs.Laws.Picks.{Ahead, ahead_antisym, better, Picked, pick_iff}
use Rattle.scope.proofs.Laws.Pigeon.{pigeon}

abbrev plan_of : Option ℕ → ℕ
plan_of none = 0
plan_of (some p) = p

module _ (t : Task) where
  open t use {passes, cost, plans, patterns}

  -- ---- to pass a list is to pass each of its patterns
  pub passes_at : (p : ℕ) (l : List ℕ) → passes_all t p l ≡ true → (i : ℕ) → i < length l → passes p (get_or l i 0) ≡ true
  passes_at p [] e i h = absurd (omega arith)
  passes_at p (q ∷ l) e zero h = (both (passes p q) (passes_all t p l) e).0
  passes_at p (q ∷ l) e (suc i) h = passes_at p l (both (passes p q) (passes_all t p l) e).1 i (omega arith)

  pub passes_all_lem : (p : ℕ) (l : List ℕ) → ((i : ℕ) → i < length l → passes p (get_or l i 0) ≡ true) → passes_all t p l ≡ true
  passes_all_lem p [] f = refl
  passes_all_lem p (q ∷ l) f = rw (f 0 (omega arith)) (passes_all_lem p l (λ i h. f (suc i) (omega arith)))

  -- ---- the candidate, and the smallest pattern that a plan misses
  abbrev pub Candidate : List ℕ → Option ℕ → Type 0
  Candidate l o = Picked cost (λ p. passes_all t p l) plans o

  pub best_iff : (l : List ℕ) (o : Option ℕ) → (best t l ≡ o) ↔ Candidate l o
  unfolding best
  best_iff l o = pick_iff cost (λ p. passes_all t p l) plans o

  abbrev pub Missed : ℕ → Option ℕ → Type 0
  Missed p o = Picked (λ q. 0) (λ q. not (passes p q)) patterns o

  pub missed_iff : (p : ℕ) (o : Option ℕ) → (missed t p ≡ o) ↔ Missed p o
  unfolding missed
  missed_iff p o = pick_iff (λ q. 0) (λ q. not (passes p q)) patterns o

  abbrev pub Sound : ℕ → Type 0
  Sound p = (q : ℕ) → q < patterns → passes p q ≡ true

  -- a search from below that stops at the first pattern missed
  pub first_missed : (p q : ℕ) → q < patterns → passes p q ≡ false → ((k : ℕ) → k < q → passes p k ≡ true) → missed t p ≡ some q
  first_missed p q h f below = (missed_iff p (some q)).1 record { below = h; good = rw f; ahead = λ k g m. record { cheap = omega arith; first = λ c. go k m (dec_le q k) } }
    where
      go : (k : ℕ) → not (passes p k) ≡ true → Dec (q ≤ k) → q ≤ k
      go k m (yes l) = l
      go k m (no n) = clash (below k (omega arith)) (not-true (passes p k) m)

  -- ---- a round, by what it came to
  data Turn (l : List ℕ) : Option ℕ → Type 0 where
    empty : best t l ≡ none → Turn l none
    sound : (p : ℕ) → best t l ≡ some p → missed t p ≡ none → Turn l none
    more : {q : ℕ} (p : ℕ) → best t l ≡ some p → missed t p ≡ some q → Turn l (some q)

  turn : (l : List ℕ) {o : Option ℕ} → next t l ≡ o → Turn l o
  unfolding next
  turn l e = subst (Turn l) e (look (best t l) refl)
    where
      try : (p : ℕ) → best t l ≡ some p → (o : Option ℕ) → missed t p ≡ o → Turn l o
      try p e none f = sound p e f
      try p e (some q) f = more p e f

      look : (o : Option ℕ) → best t l ≡ o → Turn l (missed_by t o)
      look none e = empty e
      look (some p) e = try p e (missed t p) refl

  -- ---- the candidate's number (0 if there is none), and what a round that appends q tells of it
  abbrev pub lead : List ℕ → ℕ
  lead l = plan_of (best t l)

  pub record Added (l : List ℕ) (q : ℕ) : Type 0 where
    pub picks : best t l ≡ some (lead l)
    pub candidate : Candidate l (some (lead l))
    pub misses : Missed (lead l) (some q)

  added : (l : List ℕ) {q : ℕ} → next t l ≡ some q → Added l q
  added l e = go (turn l e)
    where
      go : {q : ℕ} → Turn l (some q) → Added l q
      go {q} (more p e f) = record { picks = rw e; candidate = rw e ((best_iff l (some p)).0 e); misses = rw e ((missed_iff p (some q)).0 f) }

  -- ---- a list as the rule makes it: each pattern is the one that a round appends to those before it
  abbrev pub Ruled : List ℕ → Type 0
  Ruled l = (j : ℕ) → j < length l → next t (take j l) ≡ some (get_or l j 0)

  pub ruled_nil : Ruled []
  ruled_nil j h = absurd (omega arith)

  pub ruled_more : (l : List ℕ) (q : ℕ) → Ruled l → next t l ≡ some q → Ruled (l ++ q ∷ [])
  ruled_more l q r e j h = up_to_lem {C = λ i. next t (take i (l ++ q ∷ [])) ≡ some (get_or (l ++ q ∷ []) i 0)} (length l)
      (λ i k. rw (take-append-le i l (q ∷ []) (omega arith), get_or-append l (q ∷ []) 0 i k) (r i k))
      (rw (take-append_seam l (q ∷ []), get_or-append_seam l q [] 0) e)
      j (omega (arith, length-append l (q ∷ [])))

  pub ruled_take : (l : List ℕ) (k : ℕ) → k ≤ length l → Ruled l → Ruled (take k l)
  ruled_take l k h r j g =
      let d : j < k = omega (arith, length-take-le k l h) in
      rw (take-take j k l (omega arith), get_or-take k l j 0 d) (r j (omega arith))

  module _ (l : List ℕ) (r : Ruled l) where
    pub step : (j : ℕ) → j < length l → Added (take j l) (get_or l j 0)
    step j h = added (take j l) (r j h)

    pub misses_own : (j : ℕ) → j < length l → passes (lead (take j l)) (get_or l j 0) ≡ false
    misses_own j h = not-true (passes (lead (take j l)) (get_or l j 0)) (step j h).misses.good

    passes_earlier : (i j : ℕ) → i < j → j < length l → passes (lead (take j l)) (get_or l i 0) ≡ true
    passes_earlier i j h k = rw (get_or-take j l i 0 h) at (passes_at (lead (take j l)) (take j l) (step j k).candidate.good i (omega (arith, length-take-le j l (omega arith))))

    -- no pattern is listed twice, and no plan is the candidate twice
    pub words_apart : (i j : ℕ) → i < j → j < length l → get_or l i 0 ≢ get_or l j 0
    words_apart i j h k e = clash (rw e at (passes_earlier i j h k)) (misses_own j k)

    pub leads_apart : (i j : ℕ) → i < j → j < length l → lead (take i l) ≢ lead (take j l)
    leads_apart i j h k e = clash (passes_earlier i j h k) (rw e at (misses_own i (omega arith)))

    pub words_below : (j : ℕ) → j < length l → get_or l j 0 < patterns
    words_below j h = (step j h).misses.below

    pub length_patterns : length l ≤ patterns
    length_patterns = pigeon (length l) patterns (λ j. get_or l j 0) words_below words_apart

    pub length_plans : length l ≤ plans
    length_plans = pigeon (length l) plans (λ j. lead (take j l)) (λ j h. (step j h).candidate.below) leads_apart

    -- each candidate is better than those after it, the last one too: a later one passes the pattern that this one misses, and all before
    pub candidates_worse : (i j : ℕ) → i < j → j ≤ length l → (p q : ℕ) → best t (take i l) ≡ some p → best t (take j l) ≡ some q → Better cost p q
    candidates_worse i j h k p q e f = better (c.ahead q d.below (passes_all_lem q (take i l) earlier)) (λ same. clash (rw same (later i h)) (rw lead_is at (misses_own i (omega arith))))
      where
        c : Candidate (take i l) (some p)
        c = (best_iff (take i l) (some p)).0 e

        d : Candidate (take j l) (some q)
        d = (best_iff (take j l) (some q)).0 f

        lead_is : lead (take i l) ≡ p
        lead_is = ap plan_of e

        later : (m : ℕ) → m < j → passes q (get_or l m 0) ≡ true
        later m g = rw (get_or-take j l m 0 g) at (passes_at q (take j l) d.good m (omega (arith, length-take-le j l k)))

        earlier : (m : ℕ) → m < length (take i l) → passes q (get_or (take i l) m 0) ≡ true
        earlier m g =
            let x : m < i = omega (arith, length-take-le i l (omega arith)) in
            rw (get_or-take i l m 0 x) (later m (omega arith))

  -- ---- the rule's three steps; a loop's invariant is `rule t K [] ≡ rule t k l`, with l listed and room k left
  pub rule_stop : (k : ℕ) (l : List ℕ) → next t l ≡ none → rule t k l ≡ run (short t l) l
  unfolding rule
  rule_stop zero l e = rw e
  rule_stop (suc k) l e = rw e

  pub rule_full : (l : List ℕ) {q : ℕ} → next t l ≡ some q → rule t 0 l ≡ run no_room l
  unfolding rule
  rule_full l e = rw e

  pub rule_more : (k : ℕ) (l : List ℕ) {q : ℕ} → next t l ≡ some q → rule t (suc k) l ≡ rule t k (l ++ q ∷ [])
  unfolding rule
  rule_more k l e = rw e

  -- the rule comes by every list that it makes
  reach : (l : List ℕ) → Ruled l → (j k : ℕ) → j ≤ length l → rule t (j + k) [] ≡ rule t k (take j l)
  reach l r zero k h = rw zero-add
  reach l r (suc j) k h = rw (suc-add, ← add-suc, reach l r j (suc k) (omega arith), rule_more k (take j l) (r j (omega arith)), take-suc l j 0 (omega arith))

  -- a list that the rule makes and that ends it, and one that fills the room, are what the rule gives
  ended : (l : List ℕ) → Ruled l → next t l ≡ none → (K : ℕ) → length l ≤ K → rule t K [] ≡ run (short t l) l
  ended l r e K h =
      let m : length l + (K - length l) ≡ K = omega arith in
      rw (m, take-length) at (reach l r (length l) (K - length l) (omega arith)) ∙ rule_stop (K - length l) l e

  crowded : (l : List ℕ) {q : ℕ} → Ruled l → next t l ≡ some q → rule t (length l) [] ≡ run no_room l
  crowded l r e = rw (add-zero, take-length) at (reach l r (length l) 0 (omega arith)) ∙ rule_full l e

  -- ---- where the rule comes to
  pub record Settled (l : List ℕ) : Type 0 where
    pub ruled : Ruled l
    pub stops : next t l ≡ none

  -- the rule lists pattern after pattern until it stops, and it does stop, since it lists none twice
  settle : (k : ℕ) (l : List ℕ) → Ruled l → patterns < length l + k → (m : List ℕ) × Settled m
  settle zero l r h = absurd (omega (arith, length_patterns l r))
  settle (suc k) l r h = go (λ q e. settle k (l ++ q ∷ []) (ruled_more l q r e) (omega (arith, length-append l (q ∷ [])))) (next t l) refl
    where
      go : ((q : ℕ) → next t l ≡ some q → (m : List ℕ) × Settled m) → (o : Option ℕ) → next t l ≡ o → (m : List ℕ) × Settled m
      go f none e = (l, record { ruled = r; stops = e })
      go f (some q) e = f q e

  abbrev pub list : List ℕ
  list = (whole t).words

  final : (l : List ℕ) → Settled l → whole t ≡ run (short t l) l
  final l s = ended l s.ruled s.stops patterns (length_patterns l s.ruled)

  pub settled : Settled list
  settled = let (l, s) = settle (suc patterns) [] ruled_nil (omega arith) in subst (λ r. Settled r.words) (sym (final l s)) s

  -- the verdict is the short run's over the list
  pub verdict_short : (whole t).verdict ≡ short t list
  verdict_short = ap (λ r. r.verdict) (final list settled)

  pub room : (K : ℕ) → length list ≤ K → rule t K [] ≡ whole t
  room K h = ended list settled.ruled settled.stops K h ∙ sym (final list settled)

  -- the rule comes by the first K of the list, where another pattern is to follow
  pub little_room : (K : ℕ) → K < length list → rule t K [] ≡ run no_room (take K list)
  little_room K h =
      rw (length-take-le K list (omega arith)) at (crowded (take K list) (ruled_take list K (omega arith) settled.ruled) (settled.ruled K h))

  -- ---- the verdict
  pub record Answers (p : ℕ) : Type 0 where
    pub below : p < plans
    pub sound : Sound p
    pub ahead : (k : ℕ) → k < plans → Sound k → Ahead cost p k

  abbrev pub Right : Verdict → Type 0
  Right (plan p) = Answers p
  Right no_plan = (k : ℕ) → k < plans → ¬ Sound k
  Right no_room = ⊥

  sound_passes : (l : List ℕ) → Ruled l → (k : ℕ) → Sound k → passes_all t k l ≡ true
  sound_passes l r k s = passes_all_lem k l (λ i h. s (get_or l i 0) (words_below l r i h))

  -- a sound plan passes whatever is listed: so the candidate is ahead of every one, and without a candidate there is none
  stop_right : (l : List ℕ) → Ruled l → Turn l none → Right (short t l)
  unfolding short
  stop_right l r (empty e) = rw e (λ k h s. clash (sound_passes l r k s) ((best_iff l none).0 e k h))
  stop_right l r (sound p e m) =
      let b : Candidate l (some p) = (best_iff l (some p)).0 e in
      rw e record { below = b.below; sound = λ q h. not-false (passes p q) ((missed_iff p none).0 m q h); ahead = λ k h s. b.ahead k h (sound_passes l r k s) }

  pub verdict_right : Right (whole t).verdict
  verdict_right = rw verdict_short (stop_right list settled.ruled (turn list settled.stops))

  right_same : (a b : Verdict) → Right a → Right b → a ≡ b
  right_same (plan p) (plan k) r s = ap plan (ahead_antisym (r.ahead k s.below s.sound) (s.ahead p r.below r.sound))
  right_same (plan p) no_plan r s = absurd (s p r.below r.sound)
  right_same (plan p) no_room r s = absurd s
  right_same no_plan (plan k) r s = absurd (r k s.below s.sound)
  right_same no_plan no_plan r s = refl
  right_same no_plan no_room r s = absurd s
  right_same no_room b r s = absurd r

  -- the verdict is v exactly if v is right: `plan p` for the best sound plan p, `no_plan` where no plan is sound, never `no_room`
  pub verdict_iff : (v : Verdict) → ((whole t).verdict ≡ v) ↔ Right v
  verdict_iff v = (λ e. rw e at verdict_right, right_same (whole t).verdict v verdict_right)

  -- the answer is the candidate over the whole list
  pub answer_last : (p : ℕ) → ((whole t).verdict ≡ plan p) ↔ (best t (take (length list) list) ≡ some p)
  unfolding short
  answer_last p = rw (take-length, verdict_short) (go (best t list))
    where
      go : (o : Option ℕ) → (verdict_of o ≡ plan p) ↔ (o ≡ some p)
      go none = (λ e. cc, λ e. cc)
      go (some q) = (λ e. cc, λ e. cc)

  -- ---- over a shorter beginning of the list the short run ends in a plan whose first missed pattern is the one listed next
  pub record Beginning (l : List ℕ) (j : ℕ) : Type 0 where
    pub candidate : ℕ
    pub below : candidate < plans
    pub ends : short t (take j l) ≡ plan candidate
    pub missed_next : missed t candidate ≡ some (get_or l j 0)

  pub beginning : (l : List ℕ) → Ruled l → (j : ℕ) → j < length l → Beginning l j
  unfolding short
  beginning l r j h = record { candidate = lead (take j l); below = (step l r j h).candidate.below; ends = rw (step l r j h).picks; missed_next = (missed_iff (lead (take j l)) (some (get_or l j 0))).1 (step l r j h).misses }
