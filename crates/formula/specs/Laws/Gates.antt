-- What was read of a formula with one operator more: its gate comes after those of its operands. Assumes nothing.
use Rattle.std.proofs.Common.{ℕ, suc, ◌+◌, ◌≤◌, ◌<◌, ◌&&◌, List, [], ◌∷◌, ◌++◌, ◌≡◌, refl, length, arith, append_assoc, sym, ap, ap₂, subst, ◌∙◌}
use Rattle.scope.specs.Sheet.{Sheet, sheet, Gate}
use Rattle.scope.specs.Typed.{Formula, Level, most_text, operators, point, gates_of, known}
use Rattle.words.specs.Entries.{Kept, GatePut}
use Rattle.formula.specs.Formulas.{Built, Filled, LevelCame, Good, Asked, gated, Gated}
use Rattle.formula.specs.declared.parsed.Parsed.{Parsed}
use Rattle.formula.specs.declared.points.Points.{Points}

-- gates so far are fewer than the bytes so far
pub built_few : {s : List ℕ} {c : Points} {g at : ℕ} {x : Formula} {r : Parsed} → Asked s g at → Built c g at x r → r.at ≤ length s → r.gates ≤ most_text
built_few {s} {c} {g} {at} {x} {r} q b w =
    let h : operators x + at < r.at = b.ahead in
    let e : r.gates ≡ g + operators x = b.gates in
    omega (arith, q.few, q.short)

-- ---- an operator that joins two formulas

pub record Joint (J : Formula → Formula → Formula) (G : ℕ → ℕ → Gate) : Type 0 where
  pub operators_are : (x y : Formula) → operators (J x y) ≡ suc (operators x + operators y)
  pub known_is : (a f : ℕ) (x y : Formula) → known a f (J x y) ≡ (known a f x && known a f y)
  pub point_is : (a f g : ℕ) (x y : Formula) → point a f g (J x y) ≡ a + f + (g + operators (J x y))
  pub gates_are : (a f g : ℕ) (x y : Formula) → gates_of a f g (J x y) ≡ gates_of a f g x ++ gates_of a f (g + operators x) y ++ G (point a f g x) (point a f (g + operators x) y) ∷ []

pub and_joint : Joint Formula.and Gate.and
unfolding operators known point gates_of
and_joint = record { operators_are = λ x y. refl; known_is = λ a f x y. refl; point_is = λ a f g x y. refl; gates_are = λ a f g x y. refl }

pub or_joint : Joint Formula.or Gate.or
unfolding operators known point gates_of
or_joint = record { operators_are = λ x y. refl; known_is = λ a f x y. refl; point_is = λ a f g x y. refl; gates_are = λ a f g x y. refl }

module _ {J : Formula → Formula → Formula} {G : ℕ → ℕ → Gate} (j : Joint J G) {c : Points} {g at from : ℕ} {x y : Formula} {p q : Parsed} (b : Built c g at x p) (d : Built c p.gates from y q) where
  -- the second operand begins with the gates of the first, and the operator's own gate comes after both
  join_built : p.at < from → Built c g at (J x y) (gated c (p.known && q.known) q)
  join_built later =
      let m : p.gates ≡ g + operators x = b.gates in
      let n : q.gates ≡ p.gates + operators y = d.gates in
      let o : operators (J x y) ≡ suc (operators x + operators y) = j.operators_are x y in
      let u : operators x + at < p.at = b.ahead in
      let v : operators y + from < q.at = d.ahead in
      let w : q.gates + 1 ≡ g + operators (J x y) = omega arith in
      record {
        ahead = omega arith;
        gates = w;
        known = ap₂ (λ k l. k && l) b.known d.known ∙ sym (j.known_is c.switches c.faults x y);
        point = ap (λ h. c.switches + c.faults + h) w ∙ sym (j.point_is c.switches c.faults g x y);
      }

  -- the sheet gets the gates of the first operand, those of the second, and then the operator's own: the order of the definition
  join_filled : {u v w z : List ℕ} → Filled (gates_of c.switches c.faults g x) u v → Filled (gates_of c.switches c.faults p.gates y) v w → GatePut (G p.point q.point) w z → Filled (gates_of c.switches c.faults g (J x y)) u z
  join_filled {z = z} h i put t o =
      let a : ℕ = c.switches in
      let f : ℕ = c.faults in
      let n : p.gates ≡ g + operators x = b.gates in
      let xs : List Gate = gates_of a f g x in
      let ys : List Gate = gates_of a f p.gates y in
      let l : Gate = G p.point q.point in
      let inner : xs ++ ys ++ l ∷ [] ≡ gates_of a f g (J x y) = rw (n, b.point, d.point ∙ ap (λ n. point a f n y) n) (sym (j.gates_are a f g x y)) in
      let order : ((t.gates ++ xs) ++ ys) ++ l ∷ [] ≡ t.gates ++ gates_of a f g (J x y) = rw (append_assoc t.gates xs ys, append_assoc t.gates (xs ++ ys) (l ∷ [])) (ap (λ gs. t.gates ++ gs) inner) in
      let t₁ : Sheet = sheet t.switches t.faults (t.gates ++ xs) t.rules t.wishes in
      let t₂ : Sheet = sheet t.switches t.faults ((t.gates ++ xs) ++ ys) t.rules t.wishes in
      subst (λ gs. Kept (sheet t.switches t.faults gs t.rules t.wishes) z) order (put t₂ (i t₁ (h t o)))

-- ---- what was read of a formula at a level

module _ {l m : Level} {s : List ℕ} {depth : ℕ} {c : Points} {g at : ℕ} where
  -- as one of another level
  pub level_as : {p : Parsed} {u v : List ℕ} → Good m s depth c g at p u v → ((x : Formula) (n : ℕ) → LevelCame m s depth at x n → LevelCame l s depth at x n) → Good l s depth c g at p u v
  level_as {p} h to = record { formula = h.formula; within = h.within; few = h.few; came = to h.formula p.at h.came; built = h.built; filled = h.filled }

  -- what was read of p, an operator, and what was read of q after it
  pub level_more : {J : Formula → Formula → Formula} {G : ℕ → ℕ → Gate} (j : Joint J G) {from : ℕ} {p q r : Parsed} {u v w z : List ℕ} → Asked s g at
      → (h : Good l s depth c g at p u v) → p.at < from → (i : Good m s depth c p.gates from q v w) → Gated c (G p.point q.point) (p.known && q.known) q r w z
      → LevelCame l s depth at (J h.formula i.formula) q.at → Good l s depth c g at r u z
  level_more {J} j {p = p} {q = q} {u = u} {z = z} asked h later i k came =
      let n : Built c g at (J h.formula i.formula) (gated c (p.known && q.known) q) = join_built j h.built i.built later in
      rw k.is record {
        formula = J h.formula i.formula;
        within = i.within;
        few = built_few asked n i.within;
        came = came;
        built = n;
        filled = join_filled j h.built i.built h.filled i.filled k.puts;
      }
