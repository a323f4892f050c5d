-- How a walk goes on at the signs of a formula. Assumes nothing.
use Rattle.std.proofs.Common.{ℕ, ◌+◌, ◌≤◌, ◌<◌, Bool, List, ◌≢◌, ◌≡◌, length, drop, arith, sym, ◌∙◌, true, false, cond, refl, subst, eqb, lt-ltb, le-ltb, eqb-true, eq-eqb, ne_eqb}
use Rattle.std.proofs.lemmas.Bool.{eqb-false}
use Prim.Native.Char.{code}
use Rattle.std.proofs.Math.Option.{none, some}
use Rattle.scope.specs.Typed.{Formula, Typed, ands, factor, most_nested}
use Rattle.scope.specs.Parsing.{Around, line, bracket, first, bar, head, amp, bang, nested, digits, rule_line, spaced, operand, after, sign, add_rule, operand_done, joined_or, outside, closed, fed, nested_more, move, step, at_end, walk}
use Rattle.scope.specs.Parsing as parsing
use Rattle.scanner.specs.Look.{end, look, skip}
use Rattle.scanner.specs.Tokens.{StuckAt, Came}
use Rattle.formula.specs.Formulas.{sign_at, operand_at, not_sign, open_sign, and_sign, or_sign}
use Rattle.scanner.specs.Laws.Walks.{stands, came, stops, came_stuck, alike}

abbrev space : ℕ
space = code " "

abbrev line_feed : ℕ
line_feed = code "\n"

-- ---- places

skip_space : (s : List ℕ) (i : ℕ) → look s i ≡ space → skip s i ≡ i + 1
unfolding skip
skip_space s i e = rw (eq-eqb (look s i) space e)

skip_here : (s : List ℕ) (i : ℕ) → look s i ≢ space → skip s i ≡ i
unfolding skip
skip_here s i e = rw (ne_eqb (look s i) space e)

pub skip_least : (s : List ℕ) (i : ℕ) → i ≤ skip s i
unfolding skip
skip_least s i = go (eqb (look s i) space)
  where
    go : (b : Bool) → i ≤ cond b (i + 1) i
    go true = omega arith
    go false = omega arith

-- a space that is skipped stands in the text
pub skip_within : (s : List ℕ) (i : ℕ) → i ≤ length s → skip s i ≤ length s
unfolding skip
skip_within s i h = go (eqb (look s i) space) refl
  where
    go : (b : Bool) → eqb (look s i) space ≡ b → cond b (i + 1) i ≤ length s
    go true e = let n : i < length s = stands s i (omega (arith, eqb-true (look s i) space e)) in omega arith
    go false e = h

-- a space before an operand
operand_spaced : (s : List ℕ) (k : Around factor) (n : ℕ) → walk (spaced k) (drop n s) ≡ walk (operand k) (drop (skip s n) s)
unfolding step move at_end
operand_spaced s k n = go (eqb (look s n) space) refl
  where
    go : (b : Bool) → eqb (look s n) space ≡ b → walk (spaced k) (drop n s) ≡ walk (operand k) (drop (skip s n) s)
    go true e =
        let f : look s n ≡ space = eqb-true (look s n) space e in
        rw (skip_space s n f) (came s (spaced k) (operand k) n (omega arith) (rw f)).walk
    go false e = rw (skip_here s n (eqb-false (look s n) space e)) (alike s (spaced k) (operand k) n (rw e) refl)

-- a space before a sign
sign_spaced : (s : List ℕ) (a : Around ands) (x : Formula) (n : ℕ) → sign_at s n ≢ line_feed → walk (after a x) (drop n s) ≡ walk (sign a x) (drop (skip s n) s)
unfolding step move at_end
sign_spaced s a x n h = go (eqb (look s n) space) refl
  where
    go : (b : Bool) → eqb (look s n) space ≡ b → walk (after a x) (drop n s) ≡ walk (sign a x) (drop (skip s n) s)
    go true e =
        let f : look s n ≡ space = eqb-true (look s n) space e in
        rw (skip_space s n f) (came s (after a x) (sign a x) n (omega arith) (rw f)).walk
    go false e =
        let i : skip s n ≡ n = skip_here s n (eqb-false (look s n) space e) in
        let f : eqb (look s n) line_feed ≡ false = ne_eqb (look s n) line_feed (subst (λ i. look s i ≢ line_feed) i h) in
        rw i (alike s (after a x) (sign a x) n (rw (e, f)) refl)

-- ---- after an operand

module _ (s : List ℕ) (a : Around ands) (x : Formula) (n : ℕ) where
  -- from the sign to the operand after it
  to_operand : (k : Around factor) → sign_at s n < end → sign_at s n ≢ line_feed → step (sign a x) (sign_at s n) ≡ some (spaced k) → Came s (after a x) n (operand k) (operand_at s n)
  to_operand k h f e =
      let c : Came s (sign a x) (skip s n) (spaced k) (skip s n + 1) = came s (sign a x) (spaced k) (skip s n) h e in
      record {
        ahead = omega (arith, skip_least s n, skip_least s (skip s n + 1));
        within = skip_within s (skip s n + 1) c.within;
        walk = sign_spaced s a x n f ∙ c.walk ∙ operand_spaced s k (skip s n + 1);
      }

  pub and_walk : sign_at s n ≡ and_sign → Came s (after a x) n (operand (amp x a)) (operand_at s n)
  unfolding step move
  and_walk e = to_operand (amp x a) (omega arith) (λ f. omega arith) (rw e)

  pub or_walk : sign_at s n ≡ or_sign → Came s (after a x) n (operand (head (bar (joined_or a x) (outside a)))) (operand_at s n)
  unfolding step move
  or_walk e = to_operand (head (bar (joined_or a x) (outside a))) (omega arith) (λ f. omega arith) (rw e)

  pub close_walk : (k : Around factor) → outside a ≡ bracket k → sign_at s n ≡ code ")" → Came s (after a x) n (operand_done k (joined_or a x)) (skip s n + 1)
  unfolding step move
  close_walk k o e =
      let c : Came s (sign a x) (skip s n) (operand_done k (joined_or a x)) (skip s n + 1) = came s (sign a x) (operand_done k (joined_or a x)) (skip s n) (omega arith) (rw (e, o)) in
      record { ahead = omega (arith, skip_least s n); within = c.within; walk = sign_spaced s a x n (λ f. omega arith) ∙ c.walk }

  -- no sign fits, nor a line feed
  sign_stuck : n ≤ length s → (look s n ≢ space → step (after a x) (look s n) ≡ none) → step (sign a x) (sign_at s n) ≡ none → StuckAt s (after a x) n (skip s n)
  unfolding step move at_end
  sign_stuck h f e = go (eqb (look s n) space) refl
    where
      go : (b : Bool) → eqb (look s n) space ≡ b → StuckAt s (after a x) n (skip s n)
      go true g =
          let i : look s n ≡ space = eqb-true (look s n) space g in
          let j : skip s n ≡ n + 1 = skip_space s n i in
          let c : Came s (after a x) n (sign a x) (n + 1) = came s (after a x) (sign a x) n (omega arith) (rw i) in
          subst (λ m. StuckAt s (after a x) n m) (sym j) (came_stuck c (stops s (sign a x) (n + 1) c.within (subst (λ m. step (sign a x) (look s m) ≡ none) j e) refl))
      go false g = let i : look s n ≢ space = eqb-false (look s n) space g in subst (λ m. StuckAt s (after a x) n m) (sym (skip_here s n i)) (stops s (after a x) n h (f i) refl)

  -- with no space before it the sign stands here
  not_here : (b : ℕ) → look s n ≢ space → sign_at s n ≢ b → eqb (look s n) b ≡ false
  not_here b f g = ne_eqb (look s n) b (subst (λ m. look s m ≢ b) (skip_here s n f) g)

  -- a bracket that is not closed
  pub close_stuck : (k : Around factor) → outside a ≡ bracket k → n ≤ length s → sign_at s n ≢ and_sign → sign_at s n ≢ or_sign → sign_at s n ≢ code ")" → StuckAt s (after a x) n (skip s n)
  unfolding step move
  close_stuck k o h p q r = sign_stuck h here (rw (ne_eqb (sign_at s n) and_sign p, ne_eqb (sign_at s n) or_sign q, ne_eqb (sign_at s n) (code ")") r))
    where
      either : (b : Bool) → cond b (fed (outside a) (joined_or a x)) none ≡ none
      either true = rw o
      either false = refl

      here : look s n ≢ space → step (after a x) (look s n) ≡ none
      here f = rw (ne_eqb (look s n) space f, not_here and_sign f p, not_here or_sign f q, not_here (code ")") f r) (either (eqb (look s n) line_feed))

  -- the line feed after a rule
  pub feed_walk : (v : Typed) → outside a ≡ line v → look s n ≡ line_feed → Came s (after a x) n (rule_line (add_rule v (joined_or a x))) (n + 1)
  unfolding step move
  feed_walk v o e = came s (after a x) (rule_line (add_rule v (joined_or a x))) n (omega arith) (rw (e, o))

  -- the formula of a rule is in no bracket, so no `)` fits either
  pub feed_stuck : (v : Typed) → outside a ≡ line v → n ≤ length s → look s n ≢ line_feed → sign_at s n ≢ and_sign → sign_at s n ≢ or_sign → StuckAt s (after a x) n (skip s n)
  unfolding step move
  feed_stuck v o h f p q = sign_stuck h here (rw (ne_eqb (sign_at s n) and_sign p, ne_eqb (sign_at s n) or_sign q) (either (eqb (sign_at s n) (code ")"))))
    where
      either : (b : Bool) → cond b (closed (outside a) (joined_or a x)) none ≡ none
      either true = rw o
      either false = refl

      here : look s n ≢ space → step (after a x) (look s n) ≡ none
      here g = rw (ne_eqb (look s n) space g, ne_eqb (look s n) line_feed f, not_here and_sign g p, not_here or_sign g q) (either (eqb (look s n) (code ")")))

-- ---- an operand

module _ (s : List ℕ) (k : Around factor) (at : ℕ) where
  -- a not or a bracket, with a level of nesting left
  deeper : (m : Around factor) → look s at < end → step (operand k) (look s at) ≡ some (spaced m) → Came s (operand k) at (operand m) (skip s (at + 1))
  deeper m h e =
      let c : Came s (operand k) at (spaced m) (at + 1) = came s (operand k) (spaced m) at h e in
      record { ahead = omega (arith, skip_least s (at + 1)); within = skip_within s (at + 1) c.within; walk = c.walk ∙ operand_spaced s m (at + 1) }

  pub not_walk : nested k < most_nested → look s at ≡ not_sign → Came s (operand k) at (operand (bang k)) (skip s (at + 1))
  unfolding step move nested_more
  not_walk h e = deeper (bang k) (omega arith) (rw (e, lt-ltb (nested k) most_nested h))

  pub bracket_walk : nested k < most_nested → look s at ≡ open_sign → Came s (operand k) at (operand (head (first (bracket k)))) (skip s (at + 1))
  unfolding step move nested_more
  bracket_walk h e = deeper (head (first (bracket k))) (omega arith) (rw (e, lt-ltb (nested k) most_nested h))

  -- and with none left
  pub not_deep : most_nested ≤ nested k → at ≤ length s → look s at ≡ not_sign → StuckAt s (operand k) at at
  unfolding step move nested_more at_end
  not_deep h w e = stops s (operand k) at w (rw (e, le-ltb (nested k) most_nested h)) refl

  pub bracket_deep : most_nested ≤ nested k → at ≤ length s → look s at ≡ open_sign → StuckAt s (operand k) at at
  unfolding step move nested_more at_end
  bracket_deep h w e = stops s (operand k) at w (rw (e, le-ltb (nested k) most_nested h)) refl

  pub switch_walk : look s at ≡ code "s" → Came s (operand k) at (digits (parsing.switch k)) (at + 1)
  unfolding step move
  switch_walk e = came s (operand k) (digits (parsing.switch k)) at (omega arith) (rw e)

  pub fault_walk : look s at ≡ code "f" → Came s (operand k) at (digits (parsing.fault k)) (at + 1)
  unfolding step move
  fault_walk e = came s (operand k) (digits (parsing.fault k)) at (omega arith) (rw e)

  pub operand_stuck : at ≤ length s → look s at ≢ code "s" → look s at ≢ code "f" → look s at ≢ not_sign → look s at ≢ open_sign → StuckAt s (operand k) at at
  unfolding step move at_end
  operand_stuck w p q r t = stops s (operand k) at w (rw (ne_eqb (look s at) (code "s") p, ne_eqb (look s at) (code "f") q, ne_eqb (look s at) not_sign r, ne_eqb (look s at) open_sign t)) refl
