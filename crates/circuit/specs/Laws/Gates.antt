-- Gates in their order, and by their words. Assumes nothing.
use Rattle.std.specs.Prelude.{ℕ, zero, suc, ◌+◌, ◌<◌, Bool, true, false, cond, not, List, [], ◌∷◌, ◌≢◌, ◌≡◌, refl, eqb, length, get_or}
use Prim.Native.Char.{code}
use Rattle.std.proofs.Common.{add-zero, arith, ap, subst}
use Rattle.std.proofs.lemmas.Bool.{not-true, not-false}
use Rattle.scope.specs.Sheet.{Gate, Among, Names, Ordered}
use Rattle.scope.specs.Meaning.{gate_truth}
use Rattle.scope.specs.Words.{word, gate_words}

-- gate i of gates in order names points before its own
pub names_at : (n : ℕ) (gs : List Gate) (d : Gate) (i : ℕ) → Ordered n gs → i < length gs → Names (n + i) (get_or gs i d)
names_at n [] d i o h = absurd (omega arith)
names_at n (g ∷ gs) d zero o h = rw add-zero o.0
names_at n (g ∷ gs) d (suc i) o h = let e : suc n + i ≡ n + suc i = omega arith in subst (λ m. Names m (get_or gs i d)) e (names_at (suc n) gs d i o.1 (omega arith))

-- ---- a gate by its words: its kind, and the points that it names

abbrev pub kind_of : Gate → ℕ
kind_of g = word (gate_words g) 0

abbrev pub left_of : Gate → ℕ
left_of g = word (gate_words g) 1

abbrev pub right_of : Gate → ℕ
right_of g = word (gate_words g) 2

-- every gate names its first point, and all but not its second
pub names_left : (n : ℕ) (g : Gate) → Names n g → Among n (left_of g)
names_left n (Gate.not p) h = h
names_left n (Gate.and p q) h = h.0
names_left n (Gate.or p q) h = h.0

pub names_right : (n : ℕ) (g : Gate) → kind_of g ≢ code "N" → Names n g → Among n (right_of g)
names_right n (Gate.not p) k h = absurd (k refl)
names_right n (Gate.and p q) k h = h.1
names_right n (Gate.or p q) k h = h.1

-- ---- the truth of a gate from the truth x of its first point and y of its second: an and with a false first point is false, and an or
-- with a true one true; otherwise both are what the second point is

-- the first point, x, decides a gate of kind k, an and or an or
abbrev pub decides_of : (k : ℕ) → Bool → Bool
decides_of k x = cond (eqb k (code "A")) (not x) x

module _ (v : ℕ → Bool) where
  pub truth_not : (g : Gate) (x : Bool) → kind_of g ≡ code "N" → x ≡ v (left_of g) → not x ≡ gate_truth v g
  truth_not (Gate.not p) x k h = ap not h
  truth_not (Gate.and p q) x k h = absurd (omega arith)
  truth_not (Gate.or p q) x k h = absurd (omega arith)

  pub truth_first : (g : Gate) (x : Bool) → kind_of g ≢ code "N" → decides_of (kind_of g) x ≡ true → x ≡ v (left_of g) → x ≡ gate_truth v g
  truth_first (Gate.not p) x k d h = absurd (k refl)
  truth_first (Gate.and p q) x k d h = rw (← h, not-true x d)
  truth_first (Gate.or p q) x k d h = rw (← h, d)

  pub truth_second : (g : Gate) (x y : Bool) → kind_of g ≢ code "N" → decides_of (kind_of g) x ≡ false → x ≡ v (left_of g) → y ≡ v (right_of g) → y ≡ gate_truth v g
  truth_second (Gate.not p) x y k d h w = absurd (k refl)
  truth_second (Gate.and p q) x y k d h w = rw (← h, not-false x d) w
  truth_second (Gate.or p q) x y k d h w = rw (← h, d) w
