-- What the steps over `&` and over `|` give is put together turn by turn. Assumes nothing.
use Rattle.std.proofs.Common.{ℕ, ◌+◌, ◌-◌, ◌<◌, arith, subst, ◌∙◌, Ok, eqb, eqb-true, true, ◌&&◌, Bool, List, ◌≡◌, length, refl, ap}
use Rattle.scope.specs.Sheet.{Gate}
use Rattle.scope.specs.Typed.{Level, ors, ands, factor, most_nested, operators}
use Rattle.scope.specs.Parsing.{Around, first, bar, head, amp, nested, operand, after, operand_done, joined_or, outside}
use Rattle.scanner.specs.Look.{end, skip}
use Rattle.scanner.specs.Tokens.{Came}
use Rattle.formula.specs.Formulas.{OrsCome, Halted, Good, Asked, and_sign, or_sign, sign_at, operand_at, Ends, Gated}
use Rattle.formula.specs.declared.parsed.Parsed.{Parsed}
use Rattle.formula.specs.declared.points.Points.{Points}
use Rattle.scanner.specs.Laws.Walks.{stands, came_came, came_stuck}
use Rattle.formula.specs.Laws.Signs.{skip_least, skip_within, and_walk, or_walk}
use Rattle.formula.specs.Laws.Gates.{and_joint, or_joint, level_as, level_more}

-- ---- the operand after a sign

-- the sign is a byte, so it stands in the text
pub sign_stands : (s : List ℕ) (n b : ℕ) → b < end → eqb (sign_at s n) b ≡ true → sign_at s n < end
sign_stands s n b byte more = omega (arith, eqb-true (sign_at s n) b more)

operand_later : (s : List ℕ) (n : ℕ) → n < operand_at s n
operand_later s n = omega (arith, skip_least s n, skip_least s (skip s n + 1))

-- what is asked of its place
pub operand_asked : {l : Level} {s : List ℕ} {depth : ℕ} {c : Points} {g at : ℕ} {p : Parsed} {u v : List ℕ} → sign_at s p.at < end → Asked s g at → Good l s depth c g at p u v → Asked s p.gates (operand_at s p.at)
operand_asked {s = s} {g = g} {at = at} {p = p} sign asked h =
    let e : p.gates ≡ g + operators h.formula = h.built.gates in
    let l : operators h.formula + at < p.at = h.built.ahead in
    let i : skip s p.at < length s = stands s (skip s p.at) sign in
    record {
      within = skip_within s (skip s p.at + 1) (omega arith);
      short = asked.short;
      few = omega (arith, asked.few, operand_later s p.at);
    }

-- and less is left after it
pub less_left : {l : Level} {s : List ℕ} {depth : ℕ} {c : Points} {g : ℕ} (p : Parsed) {q r : Parsed} {gate : Gate} {known : Bool} {u v w : List ℕ} → Good l s depth c g (operand_at s p.at) q u v → Gated c gate known q r v w → length s - r.at < length s - p.at
less_left {s = s} p {q = q} h k =
    let n : operators h.formula + operand_at s p.at < q.at = h.built.ahead in
    rw k.is (omega (arith, operand_later s p.at, h.within))

-- what is joined ends before the sign that the second operand ends before
pub turn_ends : (s : List ℕ) {c : Points} {gate : Gate} {known : Bool} {q r : Parsed} {u v : List ℕ} → Gated c gate known q r u v → (b : ℕ) → Ends s b (Ok q) → Ends s b (Ok r)
turn_ends s k b h = rw k.is h

-- ---- the two levels

-- they are stuck as what they begin with
pub ands_stuck : {s : List ℕ} (depth : ℕ) {at n : ℕ} → Halted factor s depth at n → Halted ands s depth at n
unfolding nested
ands_stuck depth k = record { within = k.within; bad = λ o. k.bad (head o) }

pub ors_stuck : {s : List ℕ} (depth : ℕ) {at n : ℕ} → Halted ands s depth at n → Halted ors s depth at n
unfolding nested
ors_stuck depth k = record { within = k.within; bad = λ o. k.bad (first o) }

module _ {s : List ℕ} {depth : ℕ} {c : Points} {g at : ℕ} where
  -- a factor is the first of those joined by `&`
  pub ands_first : {p : Parsed} {u v : List ℕ} → Good factor s depth c g at p u v → Good ands s depth c g at p u v
  unfolding nested operand_done
  ands_first h = level_as h (λ x n k o. k (head o))

  -- and these are the first of those joined by `|`
  pub ors_first : {p : Parsed} {u v : List ℕ} → Good ands s depth c g at p u v → Good ors s depth c g at p u v
  unfolding nested
  ors_first h = level_as h (λ x n k o e. record { inner = first o; last = x; around = refl; whole = refl; came = k (first o) e })

  -- one more factor after `&`
  module _ {p : Parsed} {u v : List ℕ} (h : Good ands s depth c g at p u v) (sign : sign_at s p.at ≡ and_sign) where
    to_factor : (o : Around ands) → nested o + depth ≡ most_nested → Came s (operand (head o)) at (operand (amp h.formula o)) (operand_at s p.at)
    to_factor o n = came_came (h.came o n) (and_walk s o h.formula p.at sign)

    pub ands_more : Asked s g at → {q r : Parsed} {w z : List ℕ} → Good factor s depth c p.gates (operand_at s p.at) q v w → Gated c (Gate.and p.point q.point) (p.known && q.known) q r w z → Good ands s depth c g at r u z
    unfolding nested operand_done
    ands_more asked i k = level_more and_joint asked h (operand_later s p.at) i k (λ o n. came_came (to_factor o n) (i.came (amp h.formula o) n))

    pub ands_halt : {n : ℕ} → Halted factor s depth (operand_at s p.at) n → Halted ands s depth at n
    unfolding nested
    ands_halt k = record { within = k.within; bad = λ o n. came_stuck (to_factor o n) (k.bad (amp h.formula o) n) }

  -- one more after `|`
  module _ {p : Parsed} {u v : List ℕ} (h : Good ors s depth c g at p u v) (sign : sign_at s p.at ≡ or_sign) where
    to_ands : (o : Around ors) → nested o + depth ≡ most_nested → Came s (operand (head (first o))) at (operand (head (bar h.formula o))) (operand_at s p.at)
    to_ands o n =
        let k : OrsCome s o at h.formula p.at = h.came o n in
        let l : bar (joined_or k.inner k.last) (outside k.inner) ≡ bar h.formula o = ap (λ y. bar y (outside k.inner)) k.whole ∙ ap (λ l. bar h.formula l) k.around in
        came_came k.came (subst (λ l. Came s (after k.inner k.last) p.at (operand (head l)) (operand_at s p.at)) l (or_walk s k.inner k.last p.at sign))

    pub ors_more : Asked s g at → {q r : Parsed} {w z : List ℕ} → Good ands s depth c p.gates (operand_at s p.at) q v w → Gated c (Gate.or p.point q.point) (p.known && q.known) q r w z → Good ors s depth c g at r u z
    unfolding nested
    ors_more asked i k = level_more or_joint asked h (operand_later s p.at) i k (λ o n. record { inner = bar h.formula o; last = i.formula; around = refl; whole = refl; came = came_came (to_ands o n) (i.came (bar h.formula o) n) })

    pub ors_halt : {n : ℕ} → Halted ands s depth (operand_at s p.at) n → Halted ors s depth at n
    unfolding nested
    ors_halt k = record { within = k.within; bad = λ o n. came_stuck (to_ands o n) (k.bad (bar h.formula o) n) }
