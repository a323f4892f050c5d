-- What the steps over wish lines give is put together literal by literal and line by line. Assumes nothing.
use Rattle.std.proofs.Common.{ℕ, suc, ◌+◌, ◌-◌, ◌≤◌, ◌<◌, add-zero, zero-add, arith, Result, Ok, Err, Bool, not, ◌&&◌, ◌≢◌, ◌≡◌, leb, drop, get_or, replicate, true, false, List, [], ◌∷◌, ◌++◌, append_assoc, refl, sym, ap, ◌∙◌, eqb, ltb, length, ltb-true, eqb-true, lt-ltb, le-ltb, ne_eqb}
use Rattle.std.proofs.lemmas.Bool.{eqb-false, not-true}
use Prim.Native.Char.{code}
use Rattle.std.proofs.Math.Decide.{dec_le}
use Rattle.scope.specs.Sheet.{plus, Clause, Wish, wish as wishOf, most_wishes, most_literals}
use Rattle.scope.specs.Causes.{Test, is_weight}
use Rattle.scope.specs.Meaning.{all}
use Rattle.scope.specs.Text.{bytes}
use Rattle.scope.specs.Typed as scope
use Rattle.scope.specs.Typed.{Formula, Typed, typed, line_tests, sheet_of}
use Rattle.scope.specs.Parsing.{State, word, digits, feed, literal, weight, start, wish_line, wish, ended, another, add_wish, number_done, move, step, at_end, walk}
use Rattle.scope.proofs.Laws.Tests.{clash, both}
use Rattle.scope.proofs.Laws.Lists.{length_snoc}
use Rattle.words.specs.Entries.{WishPut, literal_of}
use Rattle.scanner.specs.Look.{look, past}
use Rattle.scanner.specs.Tokens.{StuckAt, Came, WordRead, NamedRead}
use Rattle.scanner.specs.declared.token.Digits.TheVariants.{Two, Four}
use Rattle.scanner.specs.declared.token.Stuck.{Stuck}
use Rattle.words.specs.declared.literal.Literal.{Literal}
use Rattle.scanner.specs.Laws.Walks.{stands, past_moved, past_stayed, came, came_came, came_stuck, alike_came, alike_stuck, alike, alike_within}
use Rattle.formula.specs.declared.points.Points.{Points}
use Rattle.scanner.specs.declared.token.Token.{Token}
use Rattle.text.specs.Lines.{wish_letter}
use Rattle.text.specs.Wishes.{one_literal, named, LiteralRead, More, literal_follows, more_literals, LiteralsGood, LiteralsRead, NoLiteral, WeightRead, WishesTold, wish_tests, WithWish}
use Rattle.text.specs.declared.lines.Lines.{Lines}
use Rattle.text.specs.declared.wish.Literals.{Literals}
use Rattle.text.specs.Laws.Lines.{line_count_lem}

-- a typed sheet, where any will do
abbrev any_typed : Typed
any_typed = typed 0 0 [] []

-- ---- a literal

-- its name
module _ (minus : Bool) (s : List ℕ) (at : ℕ) where
  pub no_literal : {e : Stuck} → NamedRead s (bytes "s") false Two at (Err e) → LiteralRead (named minus) s at (Err e)
  no_literal h = λ v xs. h (literal v xs minus) refl

  -- its number with its sign is the literal, and the walk comes past it
  pub named_literal : (k : Token) → NamedRead s (bytes "s") false Two at (Ok k) → LiteralRead (named minus) s at (Ok (record { minus = minus; switch = k.value }, k.at))
  unfolding number_done
  named_literal k h = record { few = omega (arith, h.few); came = λ v xs. h.came (literal v xs minus) refl refl }

-- with a `!` before its name, or without
module _ (s : List ℕ) (at : ℕ) where
  -- past the `!` the walk is at a name with a minus
  bang_literal : look s at ≡ code "!" → (r : Result (Literal × ℕ) Stuck) → LiteralRead (named true) s (at + 1) r → LiteralRead one_literal s at r
  unfolding step move
  bang_literal e = go
    where
      to : (v : Typed) (xs : Clause) → Came s (wish v xs) at (named true v xs) (at + 1)
      to v xs = came s (wish v xs) (named true v xs) at (omega arith) (rw e)

      go : (r : Result (Literal × ℕ) Stuck) → LiteralRead (named true) s (at + 1) r → LiteralRead one_literal s at r
      go (Ok p) h = record { few = h.few; came = λ v xs. came_came (to v xs) (h.came v xs) }
      go (Err f) h = λ v xs. came_stuck (to v xs) (h v xs)

  -- with no `!` there, a literal and a name without a minus go on alike
  plain_literal : look s at ≢ code "!" → (r : Result (Literal × ℕ) Stuck) → LiteralRead (named false) s at r → LiteralRead one_literal s at r
  unfolding step move at_end
  plain_literal e = go
    where
      same : (v : Typed) (xs : Clause) → walk (wish v xs) (drop at s) ≡ walk (named false v xs) (drop at s)
      same v xs = alike s (wish v xs) (named false v xs) at (rw (ne_eqb (look s at) (code "!") e)) refl

      go : (r : Result (Literal × ℕ) Stuck) → LiteralRead (named false) s at r → LiteralRead one_literal s at r
      go (Ok p) h = record { few = h.few; came = λ v xs. alike_came (same v xs) (h.came v xs) }
      go (Err f) h = λ v xs. alike_stuck (same v xs) (h v xs)

  -- the name stands past the `!`, if there is one
  pub begun_literal : (n : ℕ) → n ≡ past s at (code "!" ∷ []) → (r : Result (Literal × ℕ) Stuck) → LiteralRead (named (ltb at n)) s n r → LiteralRead one_literal s at r
  begun_literal n p r h = go (dec_le n at)
    where
      go : Dec (n ≤ at) → LiteralRead one_literal s at r
      go (yes l) =
          let k : n ≡ at = omega arith in
          plain_literal (past_stayed s at (code "!") (omega arith) (omega arith)) r (rw (le-ltb at n l, k) at h)
      go (no l) =
          let (e, k) = past_moved s at (code "!") (omega arith) (omega arith) in
          bang_literal e r (rw (lt-ltb at n (omega arith), p ∙ k) at h)

-- ---- one to three literals

module _ (s : List ℕ) (v : Typed) (xs : Clause) (n : ℕ) where
  ended_space : look s n ≡ code " " → Came s (ended v xs) n (another v xs) (n + 1)
  unfolding step move
  ended_space e = came s (ended v xs) (another v xs) n (omega arith) (rw e)

  -- past a space, where no weight begins, the walk is at one more literal
  next_literal : length xs < most_literals → look s n ≡ code " " → look s (n + 1) ≢ code "w" → Came s (ended v xs) n (wish v xs) (n + 1)
  unfolding step move at_end
  next_literal l e f =
      let c : Came s (ended v xs) n (another v xs) (n + 1) = ended_space e in
      record { ahead = c.ahead; within = c.within; walk = c.walk ∙ alike s (another v xs) (wish v xs) (n + 1) (rw (ne_eqb (look s (n + 1)) (code "w") f, lt-ltb (length xs) most_literals l)) refl }

-- the three tests, one by one
more_is : (s : List ℕ) (w : Literals) → more_literals s w ≡ true → (w.count < most_literals) × (look s w.at ≡ code " ") × (look s (w.at + 1) ≢ code "w")
unfolding more_literals literal_follows
more_is s w e =
    let (i, j) = both (ltb w.count most_literals) (literal_follows s w.at) e in
    let (k, l) = both (eqb (look s w.at) (code " ")) (not (eqb (look s (w.at + 1)) (code "w"))) j in
    (ltb-true w.count most_literals i, eqb-true (look s w.at) (code " ") k, eqb-false (look s (w.at + 1)) (code "w") (not-true (eqb (look s (w.at + 1)) (code "w")) l))

-- what is asked of one more
pub literal_asked : (s : List ℕ) (w : Literals) → more_literals s w ≡ true → (w.at + 1 ≤ length s) × (w.count < most_literals)
literal_asked s w e = let (l, b, f) = more_is s w e in (omega (arith, stands s w.at (omega arith)), l)

-- and less is left after it
pub less_literals : {s : List ℕ} {a : ℕ} (w : Literals) {r : Literals} → More s a (w.at + 1) w r → length s - r.at < length s - w.at
less_literals w h = let d = h.good.came any_typed [] in omega (arith, d.ahead, d.within)

module _ {s : List ℕ} {a at : ℕ} where
  pub literals_first : {r : Literals} → More s a at record { at = at; count = 0; codes = replicate 3 0; known = true } r → LiteralsGood s a at r
  literals_first h = record {
    few = omega (arith, h.one.count);
    clause = literal_of h.literal ∷ [];
    codes = h.one.literals [] record { count = refl; codes = refl; known = refl };
    came = λ v. h.good.came v [];
  }

  module _ {w : Literals} (more : more_literals s w ≡ true) (h : LiteralsGood s a at w) where
    -- past the space the walk is at one more literal
    to_literal : (v : Typed) → Came s (wish v []) at (wish v h.clause) (w.at + 1)
    to_literal v = let (n, b, f) = more_is s w more in came_came (h.came v) (next_literal s v h.clause w.at (omega (arith, h.codes.count)) b f)

    pub literals_more : {r : Literals} → More s a (w.at + 1) w r → LiteralsGood s a at r
    literals_more q = record {
      few = omega (arith, q.one.count, more_is s w more);
      clause = h.clause ++ literal_of q.literal ∷ [];
      codes = q.one.literals h.clause h.codes;
      came = λ v. came_came (to_literal v) (q.good.came v h.clause);
    }

    pub literals_stuck : {n : ℕ} → ((v : Typed) (xs : Clause) → StuckAt s (wish v xs) (w.at + 1) n) → (v : Typed) → StuckAt s (wish v []) at n
    literals_stuck k v = came_stuck (to_literal v) (k v h.clause)

-- ---- the weight, and the line feed

module _ (s : List ℕ) (v : Typed) (xs : Clause) (n : ℕ) where
  abbrev weighed : State
  weighed = digits (weight v xs)

  -- after a space only a weight may begin
  another_weight : (ltb (length xs) most_literals && not (eqb (look s (n + 1)) (code "w"))) ≡ false → walk (another v xs) (drop (n + 1) s) ≡ walk (word (bytes "weight ") weighed) (drop (n + 1) s)
  unfolding step move at_end
  another_weight e = alike s (another v xs) (word (bytes "weight ") weighed) (n + 1) (go (eqb (look s (n + 1)) (code "w")) (ltb (length xs) most_literals) refl refl e) refl
    where
      go : (p q : Bool) → eqb (look s (n + 1)) (code "w") ≡ p → ltb (length xs) most_literals ≡ q → (q && not p) ≡ false → step (another v xs) (look s (n + 1)) ≡ step (word (bytes "weight ") weighed) (look s (n + 1))
      go true q i j e = rw i
      go false true i j e = clash refl e
      go false false i j e = rw (i, j)

  -- so where neither a literal nor a line feed comes, all goes on as to a weight
  to_weight : NoLiteral s xs n → look s n ≢ code "\n" → walk (ended v xs) (drop n s) ≡ walk (word (bytes " weight ") weighed) (drop n s)
  unfolding step move at_end literal_follows
  to_weight e f = go (eqb (look s n) (code " ")) refl
    where
      go : (t : Bool) → eqb (look s n) (code " ") ≡ t → walk (ended v xs) (drop n s) ≡ walk (word (bytes " weight ") weighed) (drop n s)
      go true i =
          let b : look s n ≡ code " " = eqb-true (look s n) (code " ") i in
          let c : Came s (word (bytes " weight ") weighed) n (word (bytes "weight ") weighed) (n + 1) = came s (word (bytes " weight ") weighed) (word (bytes "weight ") weighed) n (omega arith) (rw b) in
          (ended_space s v xs n b).walk ∙ another_weight (rw i at e) ∙ sym c.walk
      go false i = alike s (ended v xs) (word (bytes " weight ") weighed) n (rw (i, ne_eqb (look s n) (code "\n") f)) refl

module _ {s : List ℕ} {at : ℕ} where
  pub weight_missing : look s at ≡ code "\n" → WeightRead s at (Ok record { at = at + 1; value = 1 })
  unfolding step move
  weight_missing e v xs n = came s (ended v xs) (wish_line (add_wish v (wishOf xs 1))) at (omega arith) (rw e)

  module _ (f : look s at ≢ code "\n") where
    pub weight_bad : {e : Stuck} → NamedRead s (bytes " weight ") true Four at (Err e) → WeightRead s at (Err e)
    weight_bad h v xs n = alike_stuck (to_weight s v xs at n f) (h (weight v xs) refl)

    module _ {k : Token} (h : NamedRead s (bytes " weight ") true Four at (Ok k)) where
      pub weight_within : k.at ≤ length s
      weight_within = (h.came (weight any_typed []) refl refl).within

      -- the walk comes past the number, and goes on as over the line feed
      past_weight : (v : Typed) (xs : Clause) → NoLiteral s xs at → Came s (ended v xs) at (word feed (wish_line (add_wish v (wishOf xs k.value)))) k.at
      unfolding number_done
      past_weight v xs n = alike_came (to_weight s v xs at n f) (h.came (weight v xs) refl refl)

      pub weight_unfed : {e : Stuck} → WordRead s feed k.at (Err e) → WeightRead s at (Err e)
      weight_unfed w v xs n = came_stuck (past_weight v xs n) (w (wish_line (add_wish v (wishOf xs k.value))))

      pub weight_read : {n : ℕ} → WordRead s feed k.at (Ok n) → WeightRead s at (Ok record { at = n; value = k.value })
      weight_read w v xs n = came_came (past_weight v xs n) (w (wish_line (add_wish v (wishOf xs k.value))))

-- ---- the rows of a wish

abbrev wish_line_tests : (a j : ℕ) → Wish → List Test
wish_line_tests a j w = (5, ltb j most_wishes) ∷ (6, all w.clause (λ x. leb x.size a)) ∷ (14, is_weight (plus w.weight)) ∷ []

module _ (a f : ℕ) where
  -- the tests of a line have the number of the wishes before it, which grows by one with each
  wish_tests_lem : (j : ℕ) (ws : List Wish) (w : Wish) → scope.wish_tests a f j (ws ++ w ∷ []) ≡ scope.wish_tests a f j ws ++ wish_line_tests a (j + length ws) w ∷ []
  unfolding scope.wish_tests
  wish_tests_lem j [] w = rw add-zero
  wish_tests_lem j (v ∷ ws) w =
      let n : suc j + length ws ≡ j + suc (length ws) = omega arith in
      ap (λ l. wish_line_tests a j v ∷ l) (wish_tests_lem (suc j) ws w ∙ ap (λ i. scope.wish_tests a f (suc j) ws ++ wish_line_tests a i w ∷ []) n)

  line_rows : (xs : List Formula) (ws : List Wish) (w : Wish) → line_tests (typed a f xs (ws ++ w ∷ [])) ≡ line_tests (typed a f xs ws) ++ wish_line_tests a (length ws) w ∷ []
  unfolding line_tests
  line_rows xs ws w =
      let e : scope.wish_tests a f 0 (ws ++ w ∷ []) ≡ scope.wish_tests a f 0 ws ++ wish_line_tests a (length ws) w ∷ [] = wish_tests_lem 0 ws w ∙ rw zero-add in
      rw (e, append_assoc)

-- ---- one more line

module _ {s : List ℕ} {c : Points} {l : Lines} {u : List ℕ} (h : WishesTold s c l u) where
  abbrev told : Typed
  told = typed c.switches c.faults h.rules h.wishes

  -- where a wish's line begins, its word is looked for
  to_name : look s l.at ≡ wish_letter → Came s start 0 (word (bytes "wish ") (wish told [])) l.at
  unfolding step move
  to_name letter = record {
    ahead = h.told.came.ahead;
    within = h.told.came.within;
    walk = h.told.came.walk ∙ alike_within s (wish_line told) (word (bytes "wish ") (wish told [])) l.at (stands s l.at (omega arith)) (rw letter);
  }

  pub no_name : look s l.at ≡ wish_letter → {e : Stuck} → WordRead s (bytes "wish ") l.at (Err e) → StuckAt s start 0 e.0
  no_name letter n = came_stuck (to_name letter) (n (wish told []))

  -- and it goes on with its literals
  module _ (letter : look s l.at ≡ wish_letter) {at : ℕ} (n : (st : State) → Came s (word (bytes "wish ") st) l.at st at) where
    to_wish : Came s start 0 (wish told []) at
    to_wish = came_came (to_name letter) (n (wish told []))

    pub no_literals_lem : {e : Stuck} → LiteralsRead s c.switches at (Err e) → StuckAt s start 0 e.0
    no_literals_lem k = came_stuck to_wish (k told)

    module _ {w : Literals} (lits : LiteralsGood s c.switches at w) where
      to_ended : Came s start 0 (ended told lits.clause) w.at
      to_ended = came_came to_wish (lits.came told)

      pub ended_within : w.at ≤ length s
      ended_within = to_ended.within

      -- no literal comes, so its weight and its line feed do
      module _ (m : more_literals s w ≡ false) where
        no_literal_left : NoLiteral s lits.clause w.at
        unfolding more_literals
        no_literal_left = rw lits.codes.count at m

        pub no_weight : {e : Stuck} → WeightRead s w.at (Err e) → StuckAt s start 0 e.0
        no_weight k = came_stuck to_ended (k told lits.clause no_literal_left)

        -- the literals and the weight are one more wish: its walk, its words and its fault come after those told so far
        pub wish_read : {k : Token} {r : Lines} {z : List ℕ} → WeightRead s w.at (Ok k) → WishPut (get_or w.codes 0 0 ∷ get_or w.codes 1 0 ∷ get_or w.codes 2 0 ∷ k.value ∷ []) u z → WithWish l w.known k r → WishesTold s c r z × (l.at < r.at)
        unfolding sheet_of
        wish_read {k} weigh put q =
            let a : ℕ = c.switches in
            let f : ℕ = c.faults in
            let ws : List Wish = h.wishes in
            let new : Wish = wishOf lits.clause k.value in
            let last : Came s (ended told lits.clause) w.at (wish_line (add_wish told new)) k.at = weigh told lits.clause no_literal_left in
            let word-ahead : l.at < at = (n (wish told [])).ahead in
            let literals-ahead : at < w.at = (lits.came told).ahead in
            let ahead : w.at < k.at = last.ahead in
            let row-is : wish_tests (ltb l.wishes most_wishes) w.known k.value ≡ wish_line_tests a (length ws) new = rw (h.told.wishes, lits.codes.known) in (
              record {
                rules = h.rules;
                wishes = ws ++ new ∷ [];
                told = record {
                  short = h.told.short;
                  few = omega (arith, h.told.few, q.at, q.gates, q.rules, q.wishes);
                  came = rw q.at (came_came to_ended last);
                  gates = q.gates ∙ h.told.gates;
                  rules = q.rules ∙ h.told.rules;
                  wishes = omega (arith, q.wishes, h.told.wishes, length_snoc ws new);
                  kept = put (sheet_of told) new (rw lits.codes.codes refl) h.told.kept;
                  fault = rw (line_rows a f h.rules ws new, ← row-is) (q.fault (line_tests told) h.told.fault (omega (arith, line_count_lem a f h.rules ws, h.told.rules, h.told.wishes)));
                };
              },
              omega (arith, q.at),
            )
