-- What the steps over a factor give: a not, a bracket, or a single number. Assumes nothing.
use Rattle.std.specs.Option.{option_eq}
use Rattle.std.proofs.Common.{Option, Some, ℕ, ◌+◌, ◌-◌, ◌≤◌, ◌<◌, Bool, true, false, cond, ◌||◌, Result, Ok, Err, List, [], ◌∷◌, ◌++◌, ◌≢◌, ◌⊎◌, ◌≡◌, eqb, leb, length, arith, append_assoc, append-nil, inl, inr, ⊎_elim, sym, ap, subst, ◌∙◌, eqb-true, refl}
use Prim.Native.Char.{code}
use Rattle.std.proofs.lemmas.Bool.{eqb-false}
use Rattle.scope.specs.Sheet.{Sheet, sheet, Gate}
use Rattle.scope.specs.Typed.{Formula, typed, ors, factor, most_nested, operators, point, gates_of, known}
use Rattle.scope.specs.Parsing as parsing
use Rattle.scope.specs.Parsing.{Around, line, Slot, digits, zero_ok, room, number_done, bracket, first, head, bang, nested, operand, after, operand_done}
use Rattle.scope.proofs.Laws.Tests.{clash}
use Rattle.words.specs.Entries.{Kept}
use Rattle.scanner.specs.Look.{end, byte_of, look, skip}
use Rattle.scanner.specs.Tokens.{Came, room_of}
use Rattle.scanner.specs.declared.token.Digits.TheVariants.{Two}
use Rattle.formula.specs.Formulas.{Built, OrsCome, Halted, Good, LevelRead, Numbered, AtomRead, Asked, goes_deeper, not_sign, open_sign, and_sign, or_sign, sign_at, gated, Gated, moved, ended_of, closed_of}
use Rattle.formula.specs.declared.parsed.Parsed.{Parsed}
use Rattle.formula.specs.declared.points.Points.{Points}
use Rattle.scanner.specs.declared.token.Stuck.{Stuck}
use Rattle.scanner.specs.declared.token.Token.{Token}
use Rattle.scanner.specs.Laws.Walks.{byte_of_eq, stands, came_came, came_stuck}
use Rattle.formula.specs.Laws.Signs.{skip_least, skip_within, close_walk, close_stuck, not_walk, bracket_walk, not_deep, bracket_deep, switch_walk, fault_walk, operand_stuck}
use Rattle.formula.specs.Laws.Gates.{built_few}

-- ---- a not or a bracket

-- the two signs, one by one
deeper_is : (b : ℕ) → goes_deeper b ≡ true → (b ≡ not_sign) ⊎ (b ≡ open_sign)
unfolding goes_deeper
deeper_is b e = go (eqb b not_sign) refl e
  where
    go : (t : Bool) → eqb b not_sign ≡ t → (t || eqb b open_sign) ≡ true → (b ≡ not_sign) ⊎ (b ≡ open_sign)
    go true f e = inl (eqb-true b not_sign f)
    go false f e = inr (eqb-true b open_sign e)

pub deeper_open : (b : ℕ) → goes_deeper b ≡ true → b ≢ not_sign → b ≡ open_sign
deeper_open b e f = ⊎_elim (λ n. absurd (f n)) (λ o. o) (deeper_is b e)

pub deeper_byte : (b : ℕ) → goes_deeper b ≡ true → b < end
deeper_byte b e = ⊎_elim (λ n. omega arith) (λ o. omega arith) (deeper_is b e)

-- what the code gets from a place and tests
module _ (s : List ℕ) (at : ℕ) (o : Option ℕ) (is : byte_of o ≡ look s at) where
  pub deeper_here : {t : Bool} → t ≡ goes_deeper (byte_of o) → t ≡ true → goes_deeper (look s at) ≡ true
  deeper_here g e = rw is at (sym g ∙ e)

  pub not_here : true ≡ option_eq eqb o (Some not_sign) → look s at ≡ not_sign
  not_here g = eqb-true (look s at) not_sign (rw is at (sym (g ∙ byte_of_eq o not_sign (omega arith))))

  pub open_here : false ≡ option_eq eqb o (Some not_sign) → goes_deeper (look s at) ≡ true → look s at ≡ open_sign
  open_here g d = deeper_open (look s at) d (eqb-false (look s at) not_sign (rw is at (sym (g ∙ byte_of_eq o not_sign (omega arith)))))

module _ {s : List ℕ} {at : ℕ} (deeper : goes_deeper (look s at) ≡ true) where
  -- what is asked of the place after it
  pub inner_asked : {g : ℕ} → Asked s g at → Asked s g (skip s (at + 1))
  inner_asked asked = record {
    within = skip_within s (at + 1) (omega (arith, stands s at (deeper_byte (look s at) deeper)));
    short = asked.short;
    few = omega (arith, asked.few, skip_least s (at + 1));
  }

  -- it would be too deep
  pub too_deep : {depth : ℕ} → at ≤ length s → depth ≡ 0 → Halted factor s depth at at
  too_deep within d = record { within = within; bad = λ o n. ⊎_elim (not_deep s o at (omega arith) within) (bracket_deep s o at (omega arith) within) (deeper_is (look s at) deeper) }

module _ {s : List ℕ} {depth : ℕ} (at : ℕ) (deep : depth ≢ 0) where
  -- a factor after `!`
  module _ (e : look s at ≡ not_sign) where
    after_not : (o : Around factor) → nested o + depth ≡ most_nested → Came s (operand o) at (operand (bang o)) (skip s (at + 1)) × (nested (bang o) + (depth - 1) ≡ most_nested)
    unfolding nested
    after_not o n = (not_walk s o at (omega arith) e, omega arith)

    pub not_stuck : {n : ℕ} → Halted factor s (depth - 1) (skip s (at + 1)) n → Halted factor s depth at n
    not_stuck k = record { within = k.within; bad = λ o n. let (to, under) = after_not o n in came_stuck to (k.bad (bang o) under) }

    pub not_read : {c : Points} {g : ℕ} {p r : Parsed} {u v w : List ℕ} → Asked s g at → Good factor s (depth - 1) c g (skip s (at + 1)) p u v → Gated c (Gate.not p.point) p.known p r v w → Good factor s depth c g at r u w
    unfolding nested operand_done operators known point gates_of
    not_read {c} {g} {p} {w = w} asked i k =
        let x : Formula = i.formula in
        let h : Built c g (skip s (at + 1)) x p = i.built in
        let xs : List Gate = gates_of c.switches c.faults g x in
        let ahead : operators x + (skip s (at + 1)) < p.at = h.ahead in
        let count : p.gates ≡ g + operators x = h.gates in
        let more : p.gates + 1 ≡ g + operators (Formula.not x) = omega arith in
        let m : Built c g at (Formula.not x) (gated c p.known p) = record { ahead = omega (arith, skip_least s (at + 1)); gates = more; known = h.known; point = ap (λ n. c.switches + c.faults + n) more } in
        rw k.is record {
          formula = Formula.not x;
          within = i.within;
          few = built_few asked m i.within;
          came = λ o n. let (to, under) = after_not o n in came_came to (i.came (bang o) under);
          built = m;
          filled = λ t o.
              let t₁ : Sheet = sheet t.switches t.faults (t.gates ++ xs) t.rules t.wishes in
              let gs : (t.gates ++ xs) ++ Gate.not p.point ∷ [] ≡ t.gates ++ (xs ++ Gate.not (point c.switches c.faults g x) ∷ []) = append_assoc t.gates xs (Gate.not p.point ∷ []) ∙ ap (λ n. t.gates ++ (xs ++ Gate.not n ∷ [])) h.point in
              subst (λ gs. Kept (sheet t.switches t.faults gs t.rules t.wishes) w) gs (k.puts t₁ (i.filled t o));
        }

  -- a formula in brackets
  module _ (e : look s at ≡ open_sign) where
    after_open : (o : Around factor) → nested o + depth ≡ most_nested → Came s (operand o) at (operand (head (first (bracket o)))) (skip s (at + 1)) × (nested (bracket o) + (depth - 1) ≡ most_nested)
    unfolding nested
    after_open o n = (bracket_walk s o at (omega arith) e, omega arith)

    pub bracket_stuck : {n : ℕ} → Halted ors s (depth - 1) (skip s (at + 1)) n → Halted factor s depth at n
    bracket_stuck k = record { within = k.within; bad = λ o n. let (to, under) = after_open o n in came_stuck to (k.bad (bracket o) under) }

    module _ {c : Points} {g : ℕ} {p : Parsed} {u v : List ℕ} (i : Good ors s (depth - 1) c g (skip s (at + 1)) p u v) where
      -- the formula, and what it is a part of where it ends
      read : (o : Around factor) → nested o + depth ≡ most_nested → OrsCome s (bracket o) (skip s (at + 1)) i.formula p.at
      read o n = i.came (bracket o) (after_open o n).1

      to_end : (o : Around factor) (n : nested o + depth ≡ most_nested) → Came s (operand o) at (after (read o n).inner (read o n).last) p.at
      to_end o n = came_came (after_open o n).0 (read o n).came

      shut : (d : Bool) → eqb (sign_at s p.at) (code ")") ≡ d → sign_at s p.at ≢ and_sign → sign_at s p.at ≢ or_sign → LevelRead factor s depth c g at (cond d (Ok (moved p (skip s p.at + 1))) (Err record { 0 = skip s p.at })) u v
      shut true d no-and no_or =
          let sign : sign_at s p.at ≡ code ")" = eqb-true (sign_at s p.at) (code ")") d in
          let w : skip s p.at < length s = stands s (skip s p.at) (omega arith) in
          record {
            formula = i.formula;
            within = omega arith;
            few = i.few;
            came = λ o n. subst (λ x. Came s (operand o) at (operand_done o x) (skip s p.at + 1)) (read o n).whole (came_came (to_end o n) (close_walk s (read o n).inner (read o n).last p.at o (read o n).around sign));
            built = record { ahead = omega (arith, i.built.ahead, skip_least s p.at, skip_least s (at + 1)); gates = i.built.gates; known = i.built.known; point = i.built.point };
            filled = i.filled;
          }
      shut false d no-and no_or = record { within = skip_within s p.at i.within; bad = λ o n. came_stuck (to_end o n) (close_stuck s (read o n).inner (read o n).last p.at o (read o n).around i.within no-and no_or (eqb-false (sign_at s p.at) (code ")") d)) }

      pub bracket_read : sign_at s p.at ≢ and_sign → sign_at s p.at ≢ or_sign → LevelRead factor s depth c g at (closed_of s p) u v
      unfolding ended_of
      bracket_read = shut (eqb (sign_at s p.at) (code ")")) refl

-- ---- a single number

neither : (a b : Bool) → (a || b) ≡ false → (a ≡ false) × (b ≡ false)
neither true b e = clash refl e
neither false b e = (refl, e)

-- any place of a factor
abbrev any : Around factor
any = head (first (line (typed 0 0 [] [])))

module _ {s : List ℕ} (c : Points) {g at : ℕ} (asked : Asked s g at) where
  -- a switch or a fault: the walk goes on with the number of its slot, and no gate is added
  atom_read : (before most : ℕ) (x : ℕ → Formula) (slot : Around factor → Slot) → ((k : Around factor) → zero_ok (slot k) ≡ false) → ((k : Around factor) → room (slot k) ≡ room_of Two) → ((k : Around factor) (n : ℕ) → number_done (slot k) n ≡ operand_done k (x n)) → ((k : Around factor) → Came s (operand k) at (digits (slot k)) (at + 1))
      → ((n : ℕ) → (operators (x n) ≡ 0) × (gates_of c.switches c.faults g (x n) ≡ []) × (point c.switches c.faults g (x n) ≡ before + n) × (known c.switches c.faults (x n) ≡ leb n most))
      → (r : Result Parsed Stuck) → Numbered s (at + 1) before most g r → AtomRead s c g at r
  atom_read before most x slot none short done to single (Err e) h depth u = record { within = (h (slot any) (none any)).within; bad = λ k m. came_stuck (to k) (h (slot k) (none k)) }
  atom_read before most x slot none short done to single (Ok p) h depth u =
      let n : Token = h.number in
      let (no-operators, no_gates, point_is, known_is) = single n.value in
      let l : at + 1 < n.at = (h.read.came (slot any) (none any) (short any)).ahead in
      rw h.is record {
        formula = x n.value;
        within = (h.read.came (slot any) (none any) (short any)).within;
        few = omega (arith, asked.few, asked.within, asked.short);
        came = λ k e. subst (λ st. Came s (operand k) at st n.at) (done k n.value) (came_came (to k) (h.read.came (slot k) (none k) (short k)));
        built = record { ahead = omega arith; gates = omega arith; known = sym known_is; point = sym point_is };
        filled = λ t o. rw (no_gates, append-nil t.gates) o;
      }

  pub switch_read : look s at ≡ code "s" → (r : Result Parsed Stuck) → Numbered s (at + 1) 0 c.switches g r → AtomRead s c g at r
  unfolding number_done operators gates_of point known
  switch_read e = atom_read 0 c.switches Formula.switch parsing.switch (λ k. refl) (λ k. refl) (λ k n. refl) (λ k. switch_walk s k at e) (λ n. (refl, refl, omega arith, refl))

  pub fault_read : look s at ≡ code "f" → (r : Result Parsed Stuck) → Numbered s (at + 1) c.switches c.faults g r → AtomRead s c g at r
  unfolding number_done operators gates_of point known
  fault_read e = atom_read c.switches c.faults Formula.fault parsing.fault (λ k. refl) (λ k. refl) (λ k n. refl) (λ k. fault_walk s k at e) (λ n. (refl, refl, refl, refl))

  -- no operand begins so
  pub no_atom : look s at ≢ code "s" → look s at ≢ code "f" → goes_deeper (look s at) ≡ false → AtomRead s c g at (Err record { 0 = at })
  unfolding goes_deeper
  no_atom p q e depth u =
      let (v, w) = neither (eqb (look s at) not_sign) (eqb (look s at) open_sign) e in
      record { within = asked.within; bad = λ k n. operand_stuck s k at asked.within p q (eqb-false (look s at) not_sign v) (eqb-false (look s at) open_sign w) }
