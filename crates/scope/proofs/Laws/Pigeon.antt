-- n distinct numbers below N: n ≤ N. Assumes nothing.
use Rattle.std.specs.Prelude.{ℕ, zero, suc, ◌+◌, ◌-◌, ◌≤◌, ◌<◌, min, ◌≢◌, ◌≡◌}
use Rattle.std.proofs.Common.{zero-le, suc-le-suc, arith, sym, ap, ◌∙◌}

-- the numbers other than v, closed up: those above v move down by one
abbrev shift : ℕ → ℕ → ℕ
shift v x = x - min 1 (x - v)

abbrev unshift : ℕ → ℕ → ℕ
unshift v s = s + min 1 (suc s - v)

shift_back : (v x : ℕ) → x ≢ v → unshift v (shift v x) ≡ x
shift_back v x p = omega arith

shift_apart : (v x y : ℕ) → x ≢ v → y ≢ v → x ≢ y → shift v x ≢ shift v y
shift_apart v x y p q r e = r (sym (shift_back v x p) ∙ ap (unshift v) e ∙ shift_back v y q)

shift_below : (v x n : ℕ) → v < suc n → x < suc n → x ≢ v → shift v x < n
shift_below v x n h k p = omega arith

-- without the last number the others, closed up, are distinct and below N - 1
pub pigeon : (n N : ℕ) (f : ℕ → ℕ) → ((i : ℕ) → i < n → f i < N) → ((i j : ℕ) → i < j → j < n → f i ≢ f j) → n ≤ N
pigeon zero N f into apart = zero-le
pigeon (suc n) zero f into apart = absurd (omega (arith, into n (omega arith)))
pigeon (suc n) (suc N) f into apart = suc-le-suc (pigeon n N (λ i. shift (f n) (f i))
    (λ i h. shift_below (f n) (f i) N (into n (omega arith)) (into i (omega arith)) (apart i n h (omega arith)))
    (λ i j h k. shift_apart (f n) (f i) (f j) (apart i n (omega arith) (omega arith)) (apart j n k (omega arith)) (apart i j h (omega arith))))
