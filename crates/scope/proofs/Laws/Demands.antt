-- The jobs keep demands 1, 2 and 3. Assumes nothing.
use Rattle.std.specs.Prelude.{ℕ, suc, ◌≤◌, ◌<◌, Bool, true, false, List, [], ◌∷◌, ◌++◌, ◌↔◌, ◌≢◌, ◌⊎◌, ◌≡◌, refl, length, get_or, take, drop}
use Rattle.std.proofs.Math.Decide.{dec_le}
use Rattle.std.proofs.Common.{arith, append-nil, inl, inr, sym, ap, subst, ◌∙◌, drop_of_length-le, take_all, length-take-le, get_or-take, lt-ltb}
use Rattle.std.proofs.Math.Option.{Option, none, some, some-injective}
use Rattle.std.proofs.Math.Seq.{take-append_seam}
use Rattle.std.proofs.lemmas.Bool.{not-true, not-false}
use Rattle.scope.specs.Sheet.{Sheet, weighted}
use Rattle.scope.specs.Causes.{Read, accepted, refused}
use Rattle.scope.specs.Sheets.{SheetRead, SheetRefusal}
use Rattle.scope.specs.Meaning.{plans, patterns, passes, cost}
use Rattle.scope.specs.Rule.{Verdict, plan, no_plan, no_room, Run, run, verdict_of, passes_all, best, missed, short, rule, whole}
use Rattle.scope.specs.Jobs.{task, Result, refusal, found, result, Answer, answered, over, answer_of, first_high, short_of, rated, rating_of}
use Rattle.scope.specs.Demands.{Sound, Passes, Best, list, Ending, Demand1, Demand2, SameVerdict, Differ, listed, Misses, Pair, Demand3, ShortRun, Rates}
use Rattle.scope.specs.Demands as claimed
use Rattle.scope.proofs.Laws.Tests.{clash}
use Rattle.scope.proofs.Laws.Refusals.{figures_within}
use Rattle.scope.proofs.Laws.SheetReads.{refusal_number}
use Rattle.scope.proofs.Laws.Rules.{passes_at, passes_all_lem, Candidate, best_iff, Missed, missed_iff, Ruled, ruled_take, settled, words_apart, words_below, length_patterns, length_plans, room, little_room, verdict_short, Right, verdict_right, verdict_iff, Answers, Beginning, beginning}

-- ---- results tell verdicts apart

same_verdict : (t : Sheet) (v u : Verdict) (l m : ℕ) → SameVerdict (result t v l) (result t u m) → v ≡ u
same_verdict t (plan p) (plan q) l m s = ap plan s.plan
same_verdict t (plan p) no_plan l m s = absurd (omega (arith, s.number))
same_verdict t (plan p) no_room l m s = absurd (omega (arith, s.number))
same_verdict t no_plan (plan q) l m s = absurd (omega (arith, s.number))
same_verdict t no_plan no_plan l m s = refl
same_verdict t no_plan no_room l m s = absurd (omega (arith, s.number))
same_verdict t no_room (plan q) l m s = absurd (omega (arith, s.number))
same_verdict t no_room no_plan l m s = absurd (omega (arith, s.number))
same_verdict t no_room no_room l m s = refl

same_result : (t : Sheet) (v : Verdict) (l m : ℕ) → SameVerdict (result t v l) (result t v m)
same_result t (plan p) l m = record { number = refl; place = refl; column = refl; plan = refl; cost = refl }
same_result t no_plan l m = record { number = refl; place = refl; column = refl; plan = refl; cost = refl }
same_result t no_room l m = record { number = refl; place = refl; column = refl; plan = refl; cost = refl }

result_length : (t : Sheet) (v : Verdict) (l : ℕ) → (result t v l).length ≡ l
result_length t (plan p) l = refl
result_length t no_plan l = refl
result_length t no_room l = refl

number_nine : (t : Sheet) (v : Verdict) (l : ℕ) → (result t v l).number ≡ 9 → v ≡ no_room
number_nine t (plan p) l e = absurd (omega arith)
number_nine t no_plan l e = absurd (omega arith)
number_nine t no_room l e = refl

same_of : {r q : Result} → r ≡ q → SameVerdict r q
same_of e = record { number = ap (λ r. r.number) e; place = ap (λ r. r.place) e; column = ap (λ r. r.column) e; plan = ap (λ r. r.plan) e; cost = ap (λ r. r.cost) e }

-- ---- the short run over patterns of the sheet

pub none_high : (bound i : ℕ) (l : List ℕ) → ((j : ℕ) → j < length l → get_or l j 0 < bound) → first_high bound i l ≡ none
none_high bound i [] h = refl
none_high bound i (q ∷ l) h = rw (lt-ltb q bound (h 0 (omega arith))) (none_high bound (suc i) l (λ j g. h (suc j) (omega arith)))

abbrev Below : Sheet → List ℕ → Type 0
Below t l = (j : ℕ) → j < length l → get_or l j 0 < patterns t

below_take : (t : Sheet) (l : List ℕ) (j : ℕ) → j ≤ length l → Below t l → Below t (take j l)
below_take t l j h b i g =
    let d : i < j = omega (arith, length-take-le j l h) in
    rw (get_or-take j l i 0 d) (b i (omega arith))

short_below_lem : (t : Sheet) (l : List ℕ) → Below t l → short_of (accepted t) l ≡ result t (short (task t) l) 0
short_below_lem t l b = rw (none_high (patterns t) 1 l b)

-- ---- over a beginning of a list that the rule makes

module _ (t : Sheet) where
  misses : (r : Result) (p q : ℕ) → p < plans t → r ≡ found p (cost t p) 0 → Missed (task t) p (some q) → Misses t r q
  misses r p q l e m =
      let f : r.plan ≡ p = ap (λ x. x.plan) e in
      record {
        ends = e ∙ ap (λ x. found x (cost t x) 0) (sym f);
        plan = rw f l;
        pattern = m.below;
        fails = rw f (not-true (passes t p q) m.good);
        first = λ k h. rw f (earlier k h (passes t p k) refl);
      }
    where
      earlier : (k : ℕ) → k < q → (b : Bool) → passes t p k ≡ b → b ≡ true
      earlier k h true e = refl
      earlier k h false e = absurd (omega (arith, (m.ahead k (omega (arith, m.below)) (rw e)).first (omega arith)))

  short_misses : (l : List ℕ) → Ruled (task t) l → (j : ℕ) → j < length l → Misses t (short_of (accepted t) (take j l)) (get_or l j 0)
  short_misses l r j h =
      let b : Beginning (task t) l j = beginning (task t) l r j h in
      let e : short_of (accepted t) (take j l) ≡ found b.candidate (cost t b.candidate) 0 = short_below_lem t (take j l) (below_take t l j (omega arith) (words_below (task t) l r)) ∙ rw b.ends in
      misses (short_of (accepted t) (take j l)) b.candidate (get_or l j 0) b.below e ((missed_iff (task t) b.candidate (some (get_or l j 0))).0 b.missed_next)

  -- ---- a plan that misses a pattern is no sound one, and 0 is neither 8 nor 9

  abbrev SoundPlan : Verdict → Type 0
  SoundPlan (plan p) = (q : ℕ) → q < patterns t → passes t p q ≡ true
  SoundPlan no_plan = Unit {0}
  SoundPlan no_room = Unit {0}

  differ : (v : Verdict) (l : ℕ) (r : Result) (q : ℕ) → SoundPlan v → Misses t r q → Differ (result t v l) r
  differ (plan p) l r q s m = inr (λ e. clash (s q m.pattern) (rw e m.fails))
  differ no_plan l r q s m = inl (λ e. omega (arith, ap (λ x. x.number) m.ends))
  differ no_room l r q s m = inl (λ e. omega (arith, ap (λ x. x.number) m.ends))

  right_sound : (v : Verdict) → Right (task t) v → SoundPlan v
  right_sound (plan p) a = a.sound
  right_sound no_plan a = tt
  right_sound no_room a = tt

  whole_ruled : Ruled (task t) (list t)
  whole_ruled = (settled (task t)).ruled

  -- ---- demand 3 for an accepted sheet
  module _ (lent : List ℕ) where
    abbrev full : Answer
    full = answer_of (accepted t) lent

    listed_words : listed full ≡ (rule (task t) (length lent) []).words
    listed_words =
        let r : Run = rule (task t) (length lent) [] in
        rw (result_length t r.verdict (length r.words)) (take-append_seam r.words (drop (length r.words) lent))

    -- what is listed is as the rule makes it, and no longer than the list lent
    pub listed_ruled : Ruled (task t) (listed full)
    listed_ruled = rw listed_words (go (dec_le (length (list t)) (length lent)))
      where
        go : Dec (length (list t) ≤ length lent) → Ruled (task t) (rule (task t) (length lent) []).words
        go (yes h) = rw (room (task t) (length lent) h) whole_ruled
        go (no n) = rw (little_room (task t) (length lent) (omega arith)) (ruled_take (task t) (list t) (length lent) (omega arith) whole_ruled)

    pub listed_most : length (listed full) ≤ length lent
    listed_most = rw listed_words (go (dec_le (length (list t)) (length lent)))
      where
        go : Dec (length (list t) ≤ length lent) → length (rule (task t) (length lent) []).words ≤ length lent
        go (yes h) = rw (room (task t) (length lent) h) h
        go (no n) = rw (little_room (task t) (length lent) (omega arith)) (omega (arith, length-take-le (length lent) (list t) (omega arith)))

    -- over the first j words
    abbrev front : ℕ → Result
    front j = short_of (accepted t) (take j (listed full))

    abbrev short_full : Result
    short_full = short_of (accepted t) (listed full)

    list_apart : (i k : ℕ) → i < k → k < length (list t) → get_or (list t) i 0 ≢ get_or (list t) k 0
    list_apart = words_apart (task t) (list t) whole_ruled

    list_few : (length (list t) ≤ plans t) × (length (list t) ≤ patterns t)
    list_few = (length_plans (task t) (list t) whole_ruled, length_patterns (task t) (list t) whole_ruled)

    needed : (j : ℕ) → j < length (listed full) → Misses t (front j) (get_or (listed full) j 0)
    needed = short_misses (listed full) listed_ruled

    -- with room for the list
    enough_pair : (j : ℕ) → length (list t) ≤ length lent → Pair t lent j full short_full (front j)
    enough_pair j h =
        let e : rule (task t) (length lent) [] ≡ whole (task t) = room (task t) (length lent) h in
        let nine : full.result.number ≢ 9 = λ n. (verdict_iff (task t) no_room).0 (number_nine t (whole (task t)).verdict (length (list t)) (rw e at n)) in
        record {
          whole = λ n. listed_words ∙ ap (λ r. r.words) e;
          begun = λ n. absurd (nine n);
          apart = list_apart;
          few = list_few;
          needed = needed j;
          differs = λ g. subst (λ r. Differ (result t r.verdict (length r.words)) (front j)) (sym e) (differ (whole (task t)).verdict (length (list t)) (front j) (get_or (listed full) j 0) (right_sound (whole (task t)).verdict (verdict_right (task t))) (needed j g));
          unfinished = λ n. absurd (nine n);
        }

    -- with less
    crowded_pair : (j : ℕ) → length lent < length (list t) → Pair t lent j full short_full (front j)
    crowded_pair j h =
        let e : rule (task t) (length lent) [] ≡ run no_room (take (length lent) (list t)) = little_room (task t) (length lent) h in
        let w : listed full ≡ take (length lent) (list t) = listed_words ∙ ap (λ r. r.words) e in
        let nine : full.result.number ≡ 9 = rw e in
        let m : Misses t short_full (get_or (list t) (length lent) 0) = rw w (short_misses (list t) whole_ruled (length lent) h) in
        let d : (r : Result) (q : ℕ) → Misses t r q → Differ full.result r = λ r q x. subst (λ y. Differ (result t y.verdict (length y.words)) r) (sym e) (differ no_room (length (take (length lent) (list t))) r q tt x) in
        record {
          whole = λ n. absurd (n nine);
          begun = λ n. (w, h);
          apart = list_apart;
          few = list_few;
          needed = needed j;
          differs = λ g. d (front j) (get_or (listed full) j 0) (needed j g);
          unfinished = λ n. (m, d short_full (get_or (list t) (length lent) 0) m);
        }

    pair : (j : ℕ) → Pair t lent j full short_full (front j)
    pair j = go (dec_le (length (list t)) (length lent))
      where
        go : Dec (length (list t) ≤ length lent) → Pair t lent j full short_full (front j)
        go (yes h) = enough_pair j h
        go (no n) = crowded_pair j (omega arith)

    agrees : full.result.number ≢ 9 → SameVerdict full.result (short_of (accepted t) (listed full))
    agrees n = go (dec_le (length (list t)) (length lent))
      where
        go : Dec (length (list t) ≤ length lent) → SameVerdict full.result (short_of (accepted t) (listed full))
        go (yes h) =
            let e : rule (task t) (length lent) [] ≡ whole (task t) = room (task t) (length lent) h in
            let s : short_of (accepted t) (listed full) ≡ result t (whole (task t)).verdict 0 =
            ap (short_of (accepted t)) (listed_words ∙ ap (λ r. r.words) e) ∙ short_below_lem t (list t) (words_below (task t) (list t) whole_ruled) ∙ ap (λ v. result t v 0) (sym (verdict_short (task t))) in
            subst (SameVerdict full.result) (sym s) (rw e (same_result t (whole (task t)).verdict (length (list t)) 0))
        go (no m) = absurd (n (ap (λ r. (result t r.verdict (length r.words)).number) (little_room (task t) (length lent) (omega arith))))

-- ---- the length returned and the words listed

module _ (lent : List ℕ) where
  pub listed_of : (o : Read) → ((t : Sheet) → o ≡ accepted t → patterns t ≤ 65536) → ((answer_of o lent).result.length ≤ length lent) × ((i : ℕ) → i < length (listed (answer_of o lent)) → get_or (listed (answer_of o lent)) i 0 < 65536)
  listed_of (accepted t) most = (
    rw (result_length t (rule (task t) (length lent) []).verdict (length (rule (task t) (length lent) []).words), ← listed_words t lent) (listed_most t lent),
    λ i h. omega (arith, words_below (task t) (listed (answer_of (accepted t) lent)) (listed_ruled t lent) i h, most t refl),
  )
  listed_of (refused c place column) most = (omega arith, λ i h. absurd (omega arith))

-- ---- demand 3, over every reading and every lent list

agrees_of : (r : Read) (lent : List ℕ) → (answer_of r lent).result.number ≢ 9 → SameVerdict (answer_of r lent).result (short_of r (listed (answer_of r lent)))
agrees_of (accepted t) lent n = agrees t lent n
agrees_of (refused c place column) lent n = record { number = refl; place = refl; column = refl; plan = refl; cost = refl }

-- a sheet that is turned down is so by the short run over any list
refused_same : (c place column : ℕ) (l : List ℕ) → SameVerdict (refusal c place column 0) (short_of (refused c place column) l)
refused_same c place column l = record { number = refl; place = refl; column = refl; plan = refl; cost = refl }

pub demand3 : (r : Read) (lent : List ℕ) (j : ℕ) → Demand3 r lent j (answer_of r lent) (short_of r (listed (answer_of r lent))) (short_of r (take j (listed (answer_of r lent))))
demand3 r lent j = record {
  agrees = agrees_of r lent;
  turned_down = λ c place column e. subst (λ r. (listed (answer_of r lent) ≡ []) × ((answer_of r lent).list ≡ lent) × SameVerdict (answer_of r lent).result (short_of r (take j (listed (answer_of r lent))))) (sym e) (refl, refl, refused_same c place column (take j []));
  lists = λ t e. subst (λ r. Pair t lent j (answer_of r lent) (short_of r (listed (answer_of r lent))) (short_of r (take j (listed (answer_of r lent))))) (sym e) (pair t lent j);
}

-- ---- demand 2

best_answers : (t : Sheet) (p : ℕ) → Answers (task t) p ↔ Best t (Sound t) p
best_answers t p = (
  λ a. record { is_ok = record { plan = a.below; passes = a.sound }; cheapest = λ k s. (a.ahead k s.plan s.passes).cheap; smallest = λ k s. (a.ahead k s.plan s.passes).first },
  λ b. record { below = b.is_ok.plan; sound = b.is_ok.passes; ahead = λ k h s. record { cheap = b.cheapest k (record { plan = h; passes = s }); first = b.smallest k (record { plan = h; passes = s }) } },
)

enough : (t : Sheet) (lent : List ℕ) → length (list t) ≤ length lent → Demand2 t lent (answered (result t (whole (task t)).verdict (length (list t))) (over (list t) lent))
enough t lent h = record {
  plan = λ p. (λ e. (h, (best_answers t p).0 ((verdict_iff (task t) (plan p)).0 (is (plan p) e))), λ (g, b). rw ((verdict_iff (task t) (plan p)).1 ((best_answers t p).1 b)));
  no_plan = (λ e. (h, λ p s. (verdict_iff (task t) no_plan).0 (is no_plan e) p s.plan s.passes), λ (g, n). rw ((verdict_iff (task t) no_plan).1 (λ k i s. n k (record { plan = i; passes = s }))));
  no_room = (λ e. absurd ((verdict_iff (task t) no_room).0 (same_verdict t v no_room L (length lent) (same_of e))), λ g. absurd (omega arith));
  words = rw (take_all (length lent) (list t) h);
}
  where
    v : Verdict
    v = (whole (task t)).verdict

    L : ℕ
    L = length (list t)

    is : (u : Verdict) → result t v L ≡ result t u L → v ≡ u
    is u e = same_verdict t v u L L (same_of e)

crowded : (t : Sheet) (lent : List ℕ) → length lent < length (list t) → Demand2 t lent (answered (refusal 9 0 0 (length (take (length lent) (list t)))) (over (take (length lent) (list t)) lent))
crowded t lent h = record {
  plan = λ p. (λ e. absurd (omega (arith, (same_of e).number)), λ (g, b). absurd (omega arith));
  no_plan = (λ e. absurd (omega (arith, (same_of e).number)), λ (g, b). absurd (omega arith));
  no_room = (λ e. h, λ g. rw (length-take-le (length lent) (list t) (omega arith)));
  words = refl;
}

pub demand2 : (r : Read) (lent : List ℕ) (t : Sheet) → r ≡ accepted t → Demand2 t lent (answer_of r lent)
demand2 r lent t e = rw e (go (dec_le (length (list t)) (length lent)))
  where
    go : Dec (length (list t) ≤ length lent) → Demand2 t lent (answer_of (accepted t) lent)
    go (yes h) = rw (room (task t) (length lent) h) (enough t lent h)
    go (no n) = rw (little_room (task t) (length lent) (omega arith)) (crowded t lent (omega arith))

-- ---- demand 1

-- by the verdict, which is right
enough_ending : (R : Read → Type 0) (t : Sheet) (lent : List ℕ) → R (accepted t) → length (list t) ≤ length lent → (v : Verdict) → Right (task t) v → Ending R lent (answered (result t v (length (list t))) (over (list t) lent))
enough_ending R t lent i h (plan p) a = claimed.plan i h ((best_answers t p).0 a)
enough_ending R t lent i h no_plan a = claimed.no_plan i h (λ p s. a p s.plan s.passes)
enough_ending R t lent i h no_room a = absurd a

-- the words fill the list
crowded_ending : (R : Read → Type 0) (t : Sheet) (lent : List ℕ) → R (accepted t) → length lent < length (list t) → Ending R lent (answered (refusal 9 0 0 (length (take (length lent) (list t)))) (over (take (length lent) (list t)) lent))
crowded_ending R t lent i h =
    let n : length (take (length lent) (list t)) ≡ length lent = length-take-le (length lent) (list t) (omega arith) in
    let e : over (take (length lent) (list t)) lent ≡ take (length lent) (list t) = ap (λ k. take (length lent) (list t) ++ drop k lent) n ∙ ap (λ m. take (length lent) (list t) ++ m) (drop_of_length-le lent {i = length lent} (omega arith)) ∙ append-nil (take (length lent) (list t)) in
    rw (e, n) (claimed.no_room i h)

pub ending_of : (R : Read → Type 0) (lent : List ℕ) (r : Read) → R r → Ending R lent (answer_of r lent)
ending_of R lent (refused c place column) i = claimed.turned_down i
ending_of R lent (accepted t) i = go (dec_le (length (list t)) (length lent))
  where
    go : Dec (length (list t) ≤ length lent) → Ending R lent (answer_of (accepted t) lent)
    go (yes h) = rw (room (task t) (length lent) h) (enough_ending R t lent i h (whole (task t)).verdict (verdict_right (task t)))
    go (no n) = rw (little_room (task t) (length lent) (omega arith)) (crowded_ending R t lent i (omega arith))

sheet_number : (s lent : List ℕ) {a : Answer} → Ending (SheetRead weighted s) lent a → (a.result.number ≤ 9) ⊎ (a.result.number ≡ 14)
sheet_number s lent (claimed.plan i h b) = inl (omega arith)
sheet_number s lent (claimed.no_plan i h n) = inl (omega arith)
sheet_number s lent (claimed.no_room i h) = inl (omega arith)
sheet_number s lent (claimed.turned_down {c} i) = go (dec_le 8 c)
  where
    own : 8 ≤ c → c ≡ 14
    own = (figures_within (refusal_number weighted s i)).1

    go : Dec (8 ≤ c) → (c ≤ 9) ⊎ (c ≡ 14)
    go (yes h) = inr (own h)
    go (no h) = inl (omega arith)

sheet_figures : (s lent : List ℕ) {a : Answer} → Ending (SheetRead weighted s) lent a → a.result.number ≢ 0 → a.result.number ≢ 8 → a.result.number ≢ 9 → SheetRefusal weighted a.result.number a.result.place a.result.column
sheet_figures s lent (claimed.plan i h b) e f g = absurd (e refl)
sheet_figures s lent (claimed.no_plan i h n) e f g = absurd (f refl)
sheet_figures s lent (claimed.no_room i h) e f g = absurd (g refl)
sheet_figures s lent (claimed.turned_down i) e f g = refusal_number weighted s i

pub demand1 : (s lent : List ℕ) (r : Read) → SheetRead weighted s r → Demand1 s lent (answer_of r lent)
demand1 s lent r i =
    let o : Ending (SheetRead weighted s) lent (answer_of r lent) = ending_of (SheetRead weighted s) lent r i in
    record { number = sheet_number s lent o; ending = o; refusal = sheet_figures s lent o }

-- ---- Short run

module _ (t : Sheet) (l : List ℕ) where
  passing : (p : ℕ) → p < plans t → passes_all (task t) p l ≡ true → Passes t l p
  passing p h e = record { plan = h; passes = passes_at (task t) p l e }

  best_passes : (p : ℕ) → Candidate (task t) l (some p) ↔ Best t (Passes t l) p
  best_passes p = (
    λ c. record { is_ok = passing p c.below c.good; cheapest = λ k s. (c.ahead k s.plan (passes_all_lem (task t) k l s.passes)).cheap; smallest = λ k s. (c.ahead k s.plan (passes_all_lem (task t) k l s.passes)).first },
    λ b. record { below = b.is_ok.plan; good = passes_all_lem (task t) p l b.is_ok.passes; ahead = λ k h e. record { cheap = b.cheapest k (passing k h e); first = b.smallest k (passing k h e) } },
  )

  none_passes : Candidate (task t) l none ↔ ((p : ℕ) → ¬ Passes t l p)
  none_passes = (λ c p s. clash (passes_all_lem (task t) p l s.passes) (c p s.plan), λ n k h. fails k (passes_all (task t) k l) refl (λ e. n k (passing k h e)))
    where
      fails : (k : ℕ) (b : Bool) → passes_all (task t) k l ≡ b → (passes_all (task t) k l ≡ true → ⊥) → b ≡ false
      fails k true e f = absurd (f e)
      fails k false e f = refl

  short_right : (o : Option ℕ) → best (task t) l ≡ o → ShortRun t l (result t (verdict_of o) 0)
  short_right none e = record {
    plan = λ p. (λ f. absurd (omega (arith, (same_of f).number)), λ b. absurd (none_passes.0 ((best_iff (task t) l none).0 e) p b.is_ok));
    no_plan = (λ f. none_passes.0 ((best_iff (task t) l none).0 e), λ n. refl);
  }
  short_right (some q) e = record {
    plan = λ p. (λ f. (best_passes p).0 ((best_iff (task t) l (some p)).0 (e ∙ ap some (same_of f).plan)), λ b. let g : q ≡ p = some-injective q p (sym e ∙ (best_iff (task t) l (some p)).1 ((best_passes p).1 b)) in rw g);
    no_plan = (λ f. absurd (omega (arith, (same_of f).number)), λ n. absurd (n q ((best_passes q).0 ((best_iff (task t) l (some q)).0 e)).is_ok));
  }

pub short_run : (r : Read) (l : List ℕ) (t : Sheet) → r ≡ accepted t → ((i : ℕ) → i < length l → get_or l i 0 < patterns t) → ShortRun t l (short_of r l)
unfolding short
short_run r l t e h = rw (e, none_high (patterns t) 1 l h) (short_right t l (best (task t) l) refl)

-- ---- Rating

rates : (t : Sheet) (p : ℕ) → p < plans t → (o : Option ℕ) → missed (task t) p ≡ o → Rates t p (rated (cost t p) o)
rates t p h none e = record {
  number = refl;
  place = refl;
  column = refl;
  cost = refl;
  sound = (λ f. record { plan = h; passes = λ q g. not-false (passes t p q) ((missed_iff (task t) p none).0 e q g) }, λ s. refl);
  pattern = λ f. clash refl f;
  smallest = λ q g. absurd (omega arith);
  zero = λ f. refl;
}
rates t p h (some q) e =
    let m : Missed (task t) p (some q) = (missed_iff (task t) p (some q)).0 e in
    record {
      number = refl;
      place = refl;
      column = refl;
      cost = refl;
      sound = (λ f. clash f refl, λ s. clash (s.passes q m.below) (not-true (passes t p q) m.good));
      pattern = λ f. (m.below, not-true (passes t p q) m.good);
      smallest = (misses t (found p (cost t p) 0) p q h refl m).first;
      zero = λ f. clash f refl;
    }

pub rating_right : (r : Read) (p : ℕ) (t : Sheet) → r ≡ accepted t → p < plans t → Rates t p (rating_of r p)
rating_right r p t e h = rw (e, lt-ltb p (plans t) h) (rates t p h (missed (task t) p) refl)
