-- A number that fits is its five columns, each from the digits up to it. Assumes nothing.
use Rattle.std.specs.Prelude.{ℕ, zero, suc, ◌-◌, ◌/◌, ◌%◌, ◌^◌, ◌≤◌, ◌<◌, Bool, true, false, List, [], ◌∷◌, ◌++◌, ◌≢◌, ◌≡◌, refl, leb, ltb, length, replicate}
use Prim.Native.Char.{code}
use Rattle.std.proofs.Common.{pow-suc, arith, append_assoc, sym, ap, ◌∙◌, ne_eqb, leb-true, ltb-true}
use Rattle.scope.specs.Sheet.{Number, number, digit, decimal, signed, justified, field, fits}
use Rattle.scope.proofs.Laws.Tests.{clash, both}
use Rattle.scope.proofs.Laws.Lists.{length_snoc}
use Rattle.scope.proofs.Laws.Fields.{by_digits}
use Rattle.scope.proofs.Laws.Digits.{spaces_snoc, signed_snoc}
use Rattle.field.specs.Fields.{sign_of, column}

-- w columns up to the one of n
abbrev columns : ℕ → (n right sign : ℕ) → List ℕ
columns zero n r s = []
columns (suc w) n r s = columns w (n / 10) n s ++ column n r s ∷ []

-- no digit is left, and the sign is put
blank : (w s : ℕ) → columns w 0 0 s ≡ replicate w (code " ")
blank zero s = refl
blank (suc w) s = ap (λ r. r ++ code " " ∷ []) (blank w s) ∙ spaces_snoc w

-- no digit is left, and the sign comes next
sign_next : (w r s : ℕ) → r ≢ 0 → columns (suc w) 0 r s ≡ replicate w (code " ") ++ s ∷ []
sign_next w r s h = rw (ne_eqb r 0 h) (ap (λ l. l ++ s ∷ []) (blank w s))

-- one more column
justified_snoc : (w : ℕ) (s : List ℕ) (b : ℕ) → justified (suc w) (s ++ b ∷ []) ≡ justified w s ++ b ∷ []
justified_snoc w s b =
    let e : suc w - length (s ++ b ∷ []) ≡ w - length s = omega (arith, length_snoc s b) in
    ap (λ m. replicate m (code " ") ++ (s ++ b ∷ [])) e ∙ sym (append_assoc (replicate (w - length s) (code " ")) s (b ∷ []))

-- one digit
digit_columns : (m : Bool) (w r d : ℕ) → r ≢ 0 → (m ≡ true → 1 ≤ w) → justified (suc w) (signed m (d ∷ [])) ≡ columns w 0 r (sign_of m) ++ d ∷ []
digit_columns true zero r d h l = absurd (omega (arith, l refl))
digit_columns false zero r d h l = refl
digit_columns m (suc w) r d h l = go m ∙ ap (λ s. s ++ d ∷ []) (sym (sign_next w r (sign_of m) h))
  where
    go : (m : Bool) → justified (suc (suc w)) (signed m (d ∷ [])) ≡ replicate w (code " ") ++ sign_of m ∷ [] ++ d ∷ []
    go true = ap (λ j. replicate j (code " ") ++ code "-" ∷ d ∷ []) (let e : suc (suc w) - 2 ≡ w = omega arith in e) ∙ sym (append_assoc (replicate w (code " ")) (code "-" ∷ []) (d ∷ []))
    go false = ap (λ j. replicate j (code " ") ++ d ∷ []) (let e : suc (suc w) - 1 ≡ suc w = omega arith in e) ∙ ap (λ s. s ++ d ∷ []) (sym (spaces_snoc w))

-- n is the last digit
last_digit : (m : Bool) (w n r : ℕ) → r ≢ 0 → n < 10 → (m ≡ true → 1 ≤ w) → justified (suc w) (signed m (digit n ∷ [])) ≡ columns w (n / 10) r (sign_of m) ++ digit (n % 10) ∷ []
last_digit m w n r h d l =
    let e : n / 10 ≡ 0 = omega arith in
    let f : n % 10 ≡ n = omega arith in
    rw (e, f) (digit_columns m w r (digit n) h l)

-- digits from the right, then the sign, then spaces
by_columns : (m : Bool) (w n r : ℕ) → r ≢ 0 → n < 10 ^ suc w → (m ≡ true → n < 10 ^ w) → (m ≡ true → 1 ≤ n) → justified (suc w) (signed m (decimal (suc w) n)) ≡ columns w (n / 10) r (sign_of m) ++ digit (n % 10) ∷ []
by_columns m zero n r h l k j = by_digits (λ s. justified 1 (signed m s) ≡ digit (n % 10) ∷ []) 0 n (λ d. last_digit m 0 n r h d (λ t. absurd (omega (arith, k t, j t)))) (λ d. absurd (omega arith))
by_columns m (suc w) n r h l k j = by_digits (λ s. justified (suc (suc w)) (signed m s) ≡ columns (suc w) (n / 10) r (sign_of m) ++ digit (n % 10) ∷ []) (suc w) n
    (λ d. last_digit m (suc w) n r h d (λ t. omega arith))
    (λ d.
    let z : n / 10 ≢ 0 = λ e. omega arith in
    let more : justified (suc w) (signed m (decimal (suc w) (n / 10))) ≡ columns (suc w) (n / 10) r (sign_of m) =
    by_columns m w (n / 10) (n / 10) z (omega (arith, pow-suc 10 (suc w))) (λ t. omega (arith, pow-suc 10 w, k t)) (λ t. omega arith) ∙ rw (ne_eqb (n / 10) 0 z) in
    ap (justified (suc (suc w))) (sym (signed_snoc m (decimal (suc w) (n / 10)) (digit (n % 10)))) ∙ justified_snoc (suc w) (signed m (decimal (suc w) (n / 10))) (digit (n % 10)) ∙ ap (λ s. s ++ digit (n % 10) ∷ []) more)

pub field_columns : (x : Number) → fits x ≡ true → field x ≡ column (x.size / 10 / 10 / 10 / 10) (x.size / 10 / 10 / 10) (sign_of x.minus) ∷ column (x.size / 10 / 10 / 10) (x.size / 10 / 10) (sign_of x.minus) ∷ column (x.size / 10 / 10) (x.size / 10) (sign_of x.minus) ∷ column (x.size / 10) 1 (sign_of x.minus) ∷ digit (x.size % 10) ∷ []
unfolding field
field_columns x e = by_columns x.minus 4 x.size 1 (λ z. omega arith) (high x.minus e) (λ t. (size x.minus t e).1) (λ t. (size x.minus t e).0)
  where
    size : (m : Bool) → m ≡ true → fits (number m x.size) ≡ true → (1 ≤ x.size) × (x.size < 10000)
    size true t e = let (p, q) = both (ltb 0 x.size) (leb x.size 9999) e in omega (arith, ltb-true 0 x.size p, leb-true x.size 9999 q)
    size false t e = clash t refl

    high : (m : Bool) → fits (number m x.size) ≡ true → x.size < 100000
    high true e = omega (arith, size true refl e)
    high false e = omega (arith, leb-true x.size 99999 e)
