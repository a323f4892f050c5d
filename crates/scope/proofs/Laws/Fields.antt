-- Reading a number in its columns is the inverse of printing it. Assumes nothing.
use Rattle.std.specs.Prelude.{ℕ, zero, suc, ◌+◌, ◌-◌, ◌*◌, ◌/◌, ◌%◌, ◌^◌, ◌≤◌, ◌<◌, Bool, cond, ◌&&◌, ◌||◌, List, [], ◌∷◌, ◌++◌, ◌↔◌, ◌≡◌, eqb, leb, length, replicate}
use Prim.Native.Char.{code}
use Rattle.std.proofs.Common.{pow-suc, arith, sym, ap, ap₂, subst, ◌∙◌, length-append, eqb-true, eq-eqb, ne_eqb, leb-true, ltb-true, ltb-false}
use Rattle.std.proofs.Math.Bool.{true, false, or_assoc}
use Rattle.std.proofs.Math.Option.{some, none-ne-some}
use Rattle.std.proofs.Math.Path.{refl}
use Rattle.std.proofs.Math.Dec.{ltb}
use Rattle.std.proofs.lemmas.List.{length-replicate}
use Rattle.scope.specs.Sheet.{Number, number, field_size, digit, decimal, signed, justified, field, fits}
use Rattle.scope.specs.Reading.{same, size_from, has_minus, guess, when, compared, field_of}
use Rattle.scope.proofs.Laws.Tests.{clash, both}
use Rattle.scope.proofs.Laws.Lists.{length_snoc}

-- ---- bytes compared

pub same_true : (r s : List ℕ) → same r s ≡ true → r ≡ s
same_true [] [] e = refl
same_true [] (b ∷ s) e = clash e refl
same_true (a ∷ r) [] e = clash e refl
same_true (a ∷ r) (b ∷ s) e =
    let (p, q) = both (eqb a b) (same r s) e in
    ap₂ (λ x y. x ∷ y) (eqb-true a b p) (same_true r s q)

pub same_refl : (s : List ℕ) → same s s ≡ true
same_refl [] = refl
same_refl (b ∷ s) = rw (eq-eqb b b refl) (same_refl s)

-- ---- decimal digits

-- by whether one digit is enough
module _ (P : List ℕ → Type 0) (w n : ℕ) where
  pub by_digits : (n < 10 → P (digit n ∷ [])) → (10 ≤ n → P (decimal w (n / 10) ++ digit (n % 10) ∷ [])) → P (decimal (suc w) n)
  unfolding decimal
  by_digits f g = go (ltb n 10) refl
    where
      go : (t : Bool) → ltb n 10 ≡ t → P (cond t (digit n ∷ []) (decimal w (n / 10) ++ digit (n % 10) ∷ []))
      go true e = f (ltb-true n 10 e)
      go false e = g (ltb-false n 10 e)

size_snoc : (n : ℕ) (s : List ℕ) (b : ℕ) → size_from n (s ++ b ∷ []) ≡ size_from n s * 10 + (b - code "0")
size_snoc n [] b = refl
size_snoc n (a ∷ s) b = size_snoc (n * 10 + (a - code "0")) s b

-- the digits of n read n again, and none of them is a minus: by the last digit, and those before it
size_decimal : (w n : ℕ) → n < 10 ^ w → size_from 0 (decimal w n) ≡ n
unfolding decimal
size_decimal zero n h = omega arith
size_decimal (suc w) n h = by_digits (λ s. size_from 0 s ≡ n) w n
    (λ l. omega arith)
    (λ l. rw (size_snoc, size_decimal w (n / 10) (omega (arith, pow-suc 10 w))) (omega arith))

minus_append : (r s : List ℕ) → has_minus (r ++ s) ≡ (has_minus r || has_minus s)
minus_append [] s = refl
minus_append (b ∷ r) s = rw (minus_append r s) (sym (or_assoc (eqb b (code "-")) (has_minus r) (has_minus s)))

minus_digit : (d : ℕ) → d < 10 → has_minus (digit d ∷ []) ≡ false
minus_digit d h = rw (ne_eqb (digit d) (code "-") (λ e. omega arith))

minus_decimal : (w n : ℕ) → has_minus (decimal w n) ≡ false
unfolding decimal
minus_decimal zero n = refl
minus_decimal (suc w) n = by_digits (λ s. has_minus s ≡ false) w n
    (λ l. minus_digit n l)
    (λ l. rw (minus_append, minus_decimal w (n / 10), minus_digit (n % 10) (omega arith)))

length_decimal : (w v n : ℕ) → n < 10 ^ v → 1 ≤ v → length (decimal w n) ≤ v
unfolding decimal
length_decimal zero v n h l = omega arith
length_decimal (suc w) zero n h l = elim l [ ]
length_decimal (suc w) (suc v) n h l = by_digits (λ s. length s ≤ suc v) w n
    (λ k. omega arith)
    (λ k. more v h k (length_decimal w v))
  where
    more : (v : ℕ) → n < 10 ^ suc v → 10 ≤ n → ((m : ℕ) → m < 10 ^ v → 1 ≤ v → length (decimal w m) ≤ v) → length (decimal w (n / 10) ++ digit (n % 10) ∷ []) ≤ suc v
    more zero h k f = absurd (omega arith)
    more (suc v) h k f = omega (arith, length_snoc (decimal w (n / 10)) (digit (n % 10)), f (n / 10) (omega (arith, pow-suc 10 (suc v))) (omega arith))

-- ---- a field

size_spaces : (k : ℕ) (s : List ℕ) → size_from 0 (replicate k (code " ") ++ s) ≡ size_from 0 s
size_spaces zero s = refl
size_spaces (suc k) s = size_spaces k s

minus_spaces : (k : ℕ) (s : List ℕ) → has_minus (replicate k (code " ") ++ s) ≡ has_minus s
minus_spaces zero s = refl
minus_spaces (suc k) s = minus_spaces k s

-- what fits: fewer digits than columns where there is a minus
pub record Fitting (m : Bool) (n : ℕ) : Type 0 where
  pub small : n < 10 ^ field_size
  pub signed : m ≡ true → (0 < n) × (n < 10 ^ 4)

pub fitting : (x : Number) → fits x ≡ true → Fitting x.minus x.size
fitting x h = go x.minus x.size h
  where
    go : (m : Bool) (n : ℕ) → fits (number m n) ≡ true → Fitting m n
    go true n h =
        let (p, q) = both (ltb 0 n) (leb n 9999) h in
        let a : 0 < n = ltb-true 0 n p in
        let b : n ≤ 9999 = leb-true n 9999 q in
        record { small = omega arith; signed = λ e. (a, omega arith) }
    go false n h = let b : n ≤ 99999 = leb-true n 99999 h in record { small = omega arith; signed = λ e. clash e refl }

pub length_justified : (w : ℕ) (s : List ℕ) → length s ≤ w → length (justified w s) ≡ w
length_justified w s h = omega (arith, length-append (replicate (w - length s) (code " ")) s, length-replicate (w - length s) (code " "))

pub length_field : (x : Number) → fits x ≡ true → length (field x) ≡ field_size
unfolding field
length_field x h = length_justified field_size (signed x.minus (decimal field_size x.size)) (go x.minus x.size (fitting x h))
  where
    go : (m : Bool) (n : ℕ) → Fitting m n → length (signed m (decimal field_size n)) ≤ field_size
    go true n f = omega (arith, length_decimal field_size 4 n (f.signed refl).1 (omega arith))
    go false n f = length_decimal field_size field_size n f.small (omega arith)

-- spaces add nothing to the size, and a minus stands there exactly if the number has one
guess_field : (x : Number) → fits x ≡ true → guess (field x) ≡ x
unfolding field
guess_field x h = go x.minus x.size (fitting x h)
  where
    go : (m : Bool) (n : ℕ) → Fitting m n → guess (field (number m n)) ≡ number m n
    go true n f = ap₂ number (minus_spaces (field_size - length (signed true (decimal field_size n))) (signed true (decimal field_size n))) (size_spaces (field_size - length (signed true (decimal field_size n))) (signed true (decimal field_size n)) ∙ size_decimal field_size n f.small)
    go false n f = ap₂ number (minus_spaces (field_size - length (decimal field_size n)) (decimal field_size n) ∙ minus_decimal field_size n) (size_spaces (field_size - length (decimal field_size n)) (decimal field_size n) ∙ size_decimal field_size n f.small)

-- what is compared is a number printed, and the only one
pub when_some : {A : Type 0} (t : Bool) (a b : A) → when t a ≡ some b → (t ≡ true) × (a ≡ b)
when_some true a b e = (refl, cc)
when_some false a b e = absurd (none-ne-some b e)

pub field_iff : (s : List ℕ) (x : Number) → (field_of s ≡ some x) ↔ ((s ≡ field x) × (fits x ≡ true))
unfolding field_of
field_iff s x = (to, back)
  where
    back : (s ≡ field x) × (fits x ≡ true) → field_of s ≡ some x
    back (e, f) = ap (λ r. compared r (guess r)) e ∙ ap (compared (field x)) (guess_field x f) ∙ ap₂ (λ a b. when (a && b) x) (same_refl (field x)) f

    to : field_of s ≡ some x → (s ≡ field x) × (fits x ≡ true)
    to e =
        let (t, g) = when_some (same s (field (guess s)) && fits (guess s)) (guess s) x e in
        let (p, q) = both (same s (field (guess s))) (fits (guess s)) t in
        (same_true s (field (guess s)) p ∙ ap field g, subst (λ m. fits m ≡ true) g q)
