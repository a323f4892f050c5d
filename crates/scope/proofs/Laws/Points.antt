-- What the digits of plans and patterns say, and the truth of points. Assumes nothing.
use Prim.Native.Nat.{ℕ, zero, suc, ◌+◌, ◌-◌, ◌*◌, ◌/◌, ◌%◌, ◌^◌, ◌<◌}
use Rattle.std.proofs.Common.{pow-suc, add-zero, zero-add, div-one, mul_assoc, add-mul, arith, sym, ap, ap₂, subst, ◌∙◌, length-append, eqb-true, eq-eqb, ne_eqb}
use Rattle.std.proofs.Math.Nat.{div-div-eq-div-mul, div-eq_of_lt, add-mul-div_left, pow-succ'}
use Rattle.std.specs.Prelude.{Bool, true, cond, List, [], ◌∷◌, ◌++◌, ◌≢◌, ◌≡◌, refl, eqb, get_or}
use Rattle.std.proofs.Math.Bool.{false}
use Rattle.std.proofs.Math.ListN.{length, get_or-append}
use Rattle.std.proofs.Math.Seq.{get_or-append_seam, get_or-append-add}
use Rattle.std.proofs.lemmas.Bool.{eqb-false}
use Rattle.scope.specs.Sheet.{Gate, Sheet, Among, Names, Ordered}
use Rattle.scope.specs.Meaning.{bits, nth, gate_truth, truths, switch_on, truth}
use Rattle.scope.proofs.Laws.Lists.{length_snoc}

-- ---- digits

abbrev pub one : Bool → ℕ
one b = cond b 1 0

-- the number that the digits read, the first highest
unfoldable pub value : ℕ → List Bool → ℕ
value n [] = n
value n (b ∷ v) = value (n * 2 + one b) v

value_snoc : (n : ℕ) (v : List Bool) (b : Bool) → value n (v ++ b ∷ []) ≡ value n v * 2 + one b
unfolding value
value_snoc n [] b = refl
value_snoc n (a ∷ v) b = value_snoc (n * 2 + one a) v b

odd : (k : ℕ) → one (eqb (k % 2) 1) ≡ k % 2
odd k = go (eqb (k % 2) 1) refl
  where
    go : (b : Bool) → eqb (k % 2) 1 ≡ b → one b ≡ k % 2
    go true e = sym (eqb-true (k % 2) 1 e)
    go false e = let f : k % 2 ≢ 1 = eqb-false (k % 2) 1 e in omega arith

-- by the last digit: what is before it reads half of k
pub value_bits : (n k : ℕ) → k < 2 ^ n → value 0 (bits n k) ≡ k
unfolding bits value
value_bits zero k h = omega arith
value_bits (suc n) k h = rw (value_snoc, value_bits n (k / 2) (omega (arith, pow-suc 2 n)), odd) (omega arith)

pub length_bits : (n k : ℕ) → length (bits n k) ≡ n
unfolding bits
length_bits zero k = refl
length_bits (suc n) k = omega (arith, length-append (bits n (k / 2)) (eqb (k % 2) 1 ∷ []), length_bits n (k / 2))

-- the first digit first
bits_front : (n k : ℕ) → bits (suc n) k ≡ eqb (k / 2 ^ n % 2) 1 ∷ bits n k
unfolding bits
bits_front zero k = let e : k / 2 ^ 0 ≡ k = div-one k in rw e
bits_front (suc n) k =
    let e : k / 2 / 2 ^ n ≡ k / 2 ^ suc n = div-div-eq-div-mul k 2 (2 ^ n) ∙ ap (λ m. k / m) (sym (pow-succ' 2 n)) in
    ap (λ v. v ++ eqb (k % 2) 1 ∷ []) (bits_front n (k / 2)) ∙ ap (λ m. eqb (m % 2) 1 ∷ (bits n (k / 2) ++ eqb (k % 2) 1 ∷ [])) e

-- digit p of n is worth 2 ^ (n - p)
pub bits_at : (n k p : ℕ) → Among n p → nth (bits n k) p ≡ eqb (k / 2 ^ (n - p) % 2) 1
bits_at zero k p (l, h) = absurd (omega arith)
bits_at (suc n) k zero (l, h) = absurd (omega arith)
bits_at (suc n) k (suc zero) (l, h) = let e : suc n - 1 ≡ n = omega arith in rw (bits_front n k, e)
bits_at (suc n) k (suc (suc p)) (l, h) =
    let e : suc n - suc (suc p) ≡ n - suc p = omega arith in
    let i : suc (suc p) - 1 ≡ suc p = omega arith in
    let j : suc p - 1 ≡ p = omega arith in
    rw (bits_front n k, e, i) (rw j at (bits_at n k (suc p) (omega arith)))

-- ---- digits read and written again

value_from : (c : ℕ) (v : List Bool) → value c v ≡ c * 2 ^ length v + value 0 v
unfolding value
value_from c [] = omega arith
value_from c (b ∷ v) =
    let p : ℕ = 2 ^ length v in
    let e : value c (b ∷ v) ≡ (c * 2 + one b) * p + value 0 v = value_from (c * 2 + one b) v in
    let f : value 0 (b ∷ v) ≡ (0 * 2 + one b) * p + value 0 v = value_from (0 * 2 + one b) v in
    let g : c * 2 ^ suc (length v) ≡ c * 2 * p = ap (λ m. c * m) (pow-succ' 2 (length v)) ∙ sym (mul_assoc c 2 p) in
    e ∙ omega (arith, add-mul (c * 2) (one b) p, add-mul (0 * 2) (one b) p)

value_small : (v : List Bool) → value 0 v < 2 ^ length v
unfolding value
value_small [] = omega arith
value_small (true ∷ v) =
    let e : value 0 (true ∷ v) ≡ value 1 v = refl in
    omega (arith, value_from 1 v, value_small v, pow-suc 2 (length v))
value_small (false ∷ v) =
    let e : value 0 (false ∷ v) ≡ value 0 v = refl in
    omega (arith, value_small v, pow-suc 2 (length v))

value_high : (c : ℕ) (v : List Bool) → value c v / 2 ^ length v ≡ c
value_high c v =
    let e : value c v ≡ value 0 v + 2 ^ length v * c = omega (arith, value_from c v) in
    rw (e, add-mul-div_left (value 0 v) c (pos (length v)), div-eq_of_lt (value_small v)) (zero-add c)
  where
    pos : (n : ℕ) → 0 < 2 ^ n
    pos zero = omega arith
    pos (suc n) = omega (arith, pow-suc 2 n, pos n)

-- by the first digit: the value divided by the worth of the digits after it
pub bits_value : (c : ℕ) (v : List Bool) → bits (length v) (value c v) ≡ v
unfolding bits value
bits_value c [] = refl
bits_value c (b ∷ v) = bits_front (length v) (value (c * 2 + one b) v) ∙ ap₂ (λ x y. x ∷ y) (rw (value_high (c * 2 + one b) v) (one_odd c b)) (bits_value (c * 2 + one b) v)
  where
    one_odd : (k : ℕ) (b : Bool) → eqb ((k * 2 + one b) % 2) 1 ≡ b
    one_odd k true = eq-eqb ((k * 2 + 1) % 2) 1 (omega arith)
    one_odd k false = ne_eqb ((k * 2 + 0) % 2) 1 (λ e. omega arith)

-- ---- points

truths_old : (gs : List Gate) (v : List Bool) (i : ℕ) → i < length v → get_or (truths v gs) i false ≡ get_or v i false
unfolding truths
truths_old [] v i h = refl
truths_old (g ∷ gs) v i h = truths_old gs (v ++ gate_truth (nth v) g ∷ []) i (omega (arith, length_snoc v (gate_truth (nth v) g))) ∙ get_or-append v (gate_truth (nth v) g ∷ []) false i h

pub gate_same : (g : Gate) (n : ℕ) (u v : ℕ → Bool) → ((p : ℕ) → Among n p → u p ≡ v p) → Names n g → gate_truth u g ≡ gate_truth v g
gate_same (Gate.not p) n u v e h = rw (e p h)
gate_same (Gate.and p q) n u v e h = rw (e p h.0, e q h.1)
gate_same (Gate.or p q) n u v e h = rw (e p h.0, e q h.1)

-- what is put behind a point changes no point before it, and a gate names only those
truths_gate : (gs : List Gate) (v : List Bool) (d : Gate) → Ordered (length v) gs → (i : ℕ) → i < length gs → get_or (truths v gs) (length v + i) false ≡ gate_truth (nth (truths v gs)) (get_or gs i d)
unfolding truths
truths_gate [] v d o i h = absurd (omega arith)
truths_gate (g ∷ gs) v d o zero h =
    let x : Bool = gate_truth (nth v) g in
    let w : List Bool = v ++ x ∷ [] in
    rw add-zero (truths_old gs w (length v) (omega (arith, length_snoc v x)) ∙ get_or-append_seam v x [] false
    ∙ gate_same g (length v) (nth v) (nth (truths w gs)) (λ p a. sym (truths_old gs w (p - 1) (omega (arith, length_snoc v x)) ∙ get_or-append v (x ∷ []) false (p - 1) (omega arith))) o.0)
truths_gate (g ∷ gs) v d o (suc i) h =
    let w : List Bool = v ++ gate_truth (nth v) g ∷ [] in
    let n : suc (length v) ≡ length w = sym (length_snoc v (gate_truth (nth v) g)) in
    ap (λ m. get_or (truths w gs) m false) (omega arith) ∙ truths_gate gs w d (subst (λ m. Ordered m gs) n o.1) i (omega arith)

-- switches are points 1 to a, faults a + 1 to a + f, and then each gate is what its points make it
module _ (t : Sheet) (plan pattern : ℕ) where
  abbrev inputs : List Bool
  inputs = bits t.switches plan ++ bits t.faults pattern

  length_inputs : length inputs ≡ t.switches + t.faults
  length_inputs = omega (arith, length-append (bits t.switches plan) (bits t.faults pattern), length_bits t.switches plan, length_bits t.faults pattern)

  pub truth_switch : (p : ℕ) → Among t.switches p → truth t plan pattern p ≡ switch_on t plan p
  unfolding truth switch_on
  truth_switch p h = truths_old t.gates inputs (p - 1) (omega (arith, length_inputs)) ∙ get_or-append (bits t.switches plan) (bits t.faults pattern) false (p - 1) (omega (arith, length_bits t.switches plan))

  pub truth_fault : (p : ℕ) → Among t.faults p → truth t plan pattern (t.switches + p) ≡ nth (bits t.faults pattern) p
  unfolding truth
  truth_fault p h =
      let n : t.switches + p - 1 ≡ length (bits t.switches plan) + (p - 1) = omega (arith, length_bits t.switches plan) in
      rw n (truths_old t.gates inputs (length (bits t.switches plan) + (p - 1)) (omega (arith, length_inputs, length_bits t.switches plan)) ∙ get_or-append-add (bits t.switches plan) (bits t.faults pattern) (p - 1) false)

  pub truth_gate : Ordered (t.switches + t.faults) t.gates → (d : Gate) (i : ℕ) → i < length t.gates → truth t plan pattern (t.switches + t.faults + suc i) ≡ gate_truth (truth t plan pattern) (get_or t.gates i d)
  unfolding truth
  truth_gate o d i h =
      let n : t.switches + t.faults + suc i - 1 ≡ length inputs + i = omega (arith, length_inputs) in
      rw n (truths_gate t.gates inputs d (subst (λ m. Ordered m t.gates) (sym length_inputs) o) i h)
