-- Digits in their columns: what a beginning of a field is, and how it is filled up. Assumes nothing.
use Rattle.std.specs.Prelude.{ℕ, zero, suc, ◌+◌, ◌-◌, ◌*◌, ◌/◌, ◌%◌, ◌^◌, ◌≤◌, ◌<◌, Bool, true, false, ◌⊎◌, ◌≡◌, refl, replicate}
use Prim.Native.Char.{code}
use Rattle.std.proofs.Common.{pow-suc, arith, inl, inr, sym, ap, ap₂, subst, ◌∙◌, length-append, le-ltb, lt-ltb, le-leb}
use Rattle.std.proofs.Math.Nat.{pow-le-pow_right}
use mathlib.Core.List.{List, [], ◌∷◌, ◌++◌, append_assoc, append-nil, append-eq-nil_iff}
use Rattle.std.proofs.Math.ListN.{length}
use Rattle.std.proofs.lemmas.List.{length-replicate}
use Rattle.std.proofs.Math.Seq.{append_snoc}
use Rattle.scope.specs.Sheet.{Number, number, field_size, digit, decimal, signed, justified, field, fits}
use Rattle.scope.proofs.Laws.Lists.{length_snoc, begins_snoc}
use Rattle.scope.proofs.Laws.Fields.{by_digits, Fitting, fitting}

abbrev pub spaces : ℕ → List ℕ
spaces k = replicate k (code " ")

pub spaces_snoc : (k : ℕ) → spaces k ++ code " " ∷ [] ≡ spaces (suc k)
spaces_snoc zero = refl
spaces_snoc (suc k) = ap (λ s. code " " ∷ s) (spaces_snoc k)

-- ---- digits

-- ds are the digits of n
pub record Digits (n : ℕ) (ds : List ℕ) : Type 0 where
  pub shown : (w : ℕ) → n < 10 ^ w → decimal w n ≡ ds
  pub small : n < 10 ^ length ds

-- and d is one more
abbrev pub More : ℕ → List ℕ → Type 0
More n ds = (d : ℕ) → d < 10 → 0 < n * 10 + d → Digits (n * 10 + d) (ds ++ digit d ∷ [])

more_none : More 0 []
unfolding decimal
more_none d h l = record { shown = one; small = omega arith }
  where
    one : (w : ℕ) → 0 * 10 + d < 10 ^ w → decimal w (0 * 10 + d) ≡ digit d ∷ []
    one zero p = absurd (omega arith)
    one (suc w) p = let e : 0 * 10 + d ≡ d = omega arith in rw (e, lt-ltb d 10 h)

more_digits : (n : ℕ) (ds : List ℕ) → 0 < n → Digits n ds → More n ds
unfolding decimal
more_digits n ds pos g d h l = record { shown = one; small = rw (length_snoc ds (digit d)) (omega (arith, pow-suc 10 (length ds), g.small)) }
  where
    one : (w : ℕ) → n * 10 + d < 10 ^ w → decimal w (n * 10 + d) ≡ ds ++ digit d ∷ []
    one zero p = absurd (omega arith)
    one (suc w) p =
        let q : (n * 10 + d) / 10 ≡ n = omega arith in
        let r : (n * 10 + d) % 10 ≡ d = omega arith in
        rw (le-ltb (n * 10 + d) 10 (omega arith), q, r, g.shown w (omega (arith, pow-suc 10 w)))

-- ---- a number with spaces before it

pub record Shown (m : Bool) (n : ℕ) (p : List ℕ) : Type 0 where
  pub before : ℕ
  pub digits : List ℕ
  pub bytes : p ≡ spaces before ++ signed m digits
  pub some : 0 < n
  pub are : Digits n digits

pub zero_shown : decimal field_size 0 ≡ code "0" ∷ []
unfolding decimal
zero_shown = refl

-- five columns of it are its field
module _ (p : List ℕ) (l : length p ≡ field_size) where
  pub columns_of : (k : ℕ) (s : List ℕ) → p ≡ spaces k ++ s → (p ≡ justified field_size s) × (k + length s ≡ field_size)
  columns_of k s e =
      let n : k + length s ≡ field_size = omega (arith, ap length e, length-append (spaces k) s, length-replicate k (code " ")) in
      let i : k ≡ field_size - length s = omega arith in
      (e ∙ ap (λ j. spaces j ++ s) i, n)

  pub shown_field : (m : Bool) (n : ℕ) → Shown m n p → (p ≡ field (number m n)) × (fits (number m n) ≡ true)
  unfolding field
  shown_field m n h = go m h.bytes
    where
      small : (v : ℕ) → length h.digits ≤ v → n < 10 ^ v
      small v b = omega (arith, h.are.small, pow-le-pow_right {n = 10} (omega arith) b)

      go : (m : Bool) → p ≡ spaces h.before ++ signed m h.digits → (p ≡ field (number m n)) × (fits (number m n) ≡ true)
      go true e =
          let (a, i) = columns_of h.before (signed true h.digits) e in
          let b : n < 10 ^ 4 = small 4 (omega arith) in
          (rw (h.are.shown field_size (omega arith)) a, rw (lt-ltb 0 n h.some, le-leb n 9999 (omega arith)))
      go false e =
          let (a, i) = columns_of h.before (signed false h.digits) e in
          let b : n < 10 ^ field_size = small field_size (omega arith) in
          (rw (h.are.shown field_size b) a, le-leb n 99999 (omega arith))

-- ---- a beginning: one more digit, unless it is a leading 0, makes it a number

pub record Part (m : Bool) (n : ℕ) (p : List ℕ) : Type 0 where
  pub before : ℕ
  pub digits : List ℕ
  pub bytes : p ≡ spaces before ++ signed m digits
  pub more : More n digits

pub signed_snoc : (m : Bool) (ds : List ℕ) (b : ℕ) → signed m ds ++ b ∷ [] ≡ signed m (ds ++ b ∷ [])
signed_snoc true ds b = refl
signed_snoc false ds b = refl

module _ (m : Bool) (n : ℕ) (p : List ℕ) where
  pub part_digit : Part m n p → (d : ℕ) → d < 10 → 0 < n * 10 + d → Shown m (n * 10 + d) (p ++ digit d ∷ [])
  part_digit h d b l = record {
    before = h.before;
    digits = h.digits ++ digit d ∷ [];
    bytes = ap (λ s. s ++ digit d ∷ []) h.bytes ∙ append_assoc (spaces h.before) (signed m h.digits) (digit d ∷ []) ∙ ap (λ s. spaces h.before ++ s) (signed_snoc m h.digits (digit d));
    some = l;
    are = h.more d b l;
  }

  pub shown_part : Shown m n p → Part m n p
  shown_part h = record { before = h.before; digits = h.digits; bytes = h.bytes; more = more_digits n h.digits h.some h.are }

pub spaces_part : (k : ℕ) (m : Bool) (p : List ℕ) → p ≡ spaces k ++ signed m [] → Part m 0 p
spaces_part k m p e = record { before = k; digits = []; bytes = e; more = more_none }

pub blank_part : (k : ℕ) (p : List ℕ) → p ≡ spaces k → Part false 0 p
blank_part k p e = spaces_part k false p (e ∙ sym (append-nil (spaces k)))

-- so it may be filled up with ones
abbrev pub ones : ℕ → List ℕ
ones k = replicate k (digit 1)

fill : (m : Bool) (n j : ℕ) (p : List ℕ) → Part m n p → (k : ℕ) × Shown m k (p ++ ones (suc j))
fill m n zero p h = (n * 10 + 1, part_digit m n p h 1 (omega arith) (omega arith))
fill m n (suc j) p h = rw append_snoc at (fill m (n * 10 + 1) j (p ++ digit 1 ∷ []) (shown_part m (n * 10 + 1) (p ++ digit 1 ∷ []) (part_digit m n p h 1 (omega arith) (omega arith))))

pub filled : (m : Bool) (n j : ℕ) (p : List ℕ) → Part m n p → length p + suc j ≡ field_size → (x : Number) × (p ++ ones (suc j) ≡ field x) × (fits x ≡ true)
filled m n j p h e =
    let (k, s) = fill m n j p h in
    let (a, f) = shown_field (p ++ ones (suc j)) (omega (arith, length-append p (ones (suc j)), length-replicate (suc j) (digit 1))) m k s in
    (number m k, a, f)

-- ---- what begins a field is such a beginning, or all of it

digits_of : (w n : ℕ) → 0 < n → n < 10 ^ w → Digits n (decimal w n)
digits_of zero n l h = absurd (omega arith)
digits_of (suc w) n l h = by_digits (Digits n) w n
    (λ b. subst (λ k. Digits k (digit n ∷ [])) (omega arith) (more_none n b (omega arith)))
    (λ b. let e : n / 10 * 10 + n % 10 ≡ n = omega arith in subst (λ k. Digits k (decimal w (n / 10) ++ digit (n % 10) ∷ [])) e (more_digits (n / 10) (decimal w (n / 10)) (omega arith) (digits_of w (n / 10) (omega arith) (omega (arith, pow-suc 10 w))) (n % 10) (omega arith) (omega arith)))

-- one digit more, behind them
pub decimal_more : (w n d : ℕ) → 0 < n → d < 10 → n * 10 + d < 10 ^ w → decimal w (n * 10 + d) ≡ decimal w n ++ digit d ∷ []
decimal_more w n d l h p = (more_digits n (decimal w n) l (digits_of w n l (omega arith)) d h (omega arith)).shown w p

-- a beginning of n's digits is all of them, or a beginning of all but the last; one more digit goes on from either
front_more : (w n : ℕ) (t v : List ℕ) → 0 < n → n < 10 ^ w → decimal w n ≡ t ++ v → (m : ℕ) × More m t
front_more zero n t v l h e = absurd (omega arith)
front_more (suc w) n t v l h e = by_digits (λ ds. ds ≡ t ++ v → (ds ≡ decimal (suc w) n) → (m : ℕ) × More m t) w n
    (λ b e f. go [] n (begins_snoc t v [] (digit n) e) f (λ u g. rw ((append-eq-nil_iff {p = t} {q = u}).0 (sym g)).0 (0, more_none)))
    (λ b e f. go (decimal w (n / 10)) (n % 10) (begins_snoc t v (decimal w (n / 10)) (digit (n % 10)) e) f (λ u g. front_more w (n / 10) t u (omega arith) (omega (arith, pow-suc 10 w)) g)) e refl
  where
    go : (ds : List ℕ) (d : ℕ) → (t ≡ ds ++ digit d ∷ []) ⊎ ((u : List ℕ) × (ds ≡ t ++ u)) → ds ++ digit d ∷ [] ≡ decimal (suc w) n → ((u : List ℕ) → ds ≡ t ++ u → (m : ℕ) × More m t) → (m : ℕ) × More m t
    go ds d (inl g) f k = (n, more_digits n t l (subst (Digits n) (sym (g ∙ f)) (digits_of (suc w) n l h)))
    go ds d (inr (u, g)) f k = k u g

spaces_front : (k : ℕ) (s p v : List ℕ) → spaces k ++ s ≡ p ++ v → ((j : ℕ) × (p ≡ spaces j)) ⊎ ((q : List ℕ) × (p ≡ spaces k ++ q) × (s ≡ q ++ v))
spaces_front zero s p v e = inr (p, refl, e)
spaces_front (suc k) s [] v e = inl (0, refl)
spaces_front (suc k) s (b ∷ p) v e = go (spaces_front k s p v cc)
  where
    h : code " " ≡ b
    h = cc

    go : ((j : ℕ) × (p ≡ spaces j)) ⊎ ((q : List ℕ) × (p ≡ spaces k ++ q) × (s ≡ q ++ v)) → ((j : ℕ) × (b ∷ p ≡ spaces j)) ⊎ ((q : List ℕ) × (b ∷ p ≡ code " " ∷ spaces k ++ q) × (s ≡ q ++ v))
    go (inl (j, f)) = inl (suc j, ap₂ (λ x y. x ∷ y) (sym h) f)
    go (inr (q, f, g)) = inr (q, ap₂ (λ x y. x ∷ y) (sym h) f, g)

-- it ends in the spaces, at the sign, or in the digits
pub field_part : (x : Number) (p v : List ℕ) → fits x ≡ true → field x ≡ p ++ v → 0 < length v → (m : Bool) × (n : ℕ) × Part m n p
unfolding field
field_part x p v f e l = let k : ℕ = field_size - length (signed x.minus (decimal field_size x.size)) in begun x.minus x.size k (fitting x f) (spaces_front k (signed x.minus (decimal field_size x.size)) p v e)
  where
    blank : (j : ℕ) → p ≡ spaces j → (m : Bool) × (n : ℕ) × Part m n p
    blank j h = (false, 0, blank_part j p h)

    -- t begins the digits
    numbered : (m : Bool) (n k : ℕ) (t : List ℕ) → n < 10 ^ field_size → p ≡ spaces k ++ signed m t → decimal field_size n ≡ t ++ v → (m : Bool) × (n : ℕ) × Part m n p
    numbered m zero k [] b h g = (m, 0, spaces_part k m p h)
    numbered m zero k (c ∷ t) b h g = absurd (omega (arith, ap length (sym zero_shown ∙ g), length-append t v))
    numbered m (suc n) k t b h g = let (i, more) = front_more field_size (suc n) t v (omega arith) b g in (m, i, record { before = k; digits = t; bytes = h; more = more })

    begun : (m : Bool) (n k : ℕ) → Fitting m n → ((j : ℕ) × (p ≡ spaces j)) ⊎ ((q : List ℕ) × (p ≡ spaces k ++ q) × (signed m (decimal field_size n) ≡ q ++ v)) → (m : Bool) × (n : ℕ) × Part m n p
    begun m n k b (inl (j, h)) = blank j h
    begun false n k b (inr (q, h, g)) = numbered false n k q b.small h g
    begun true n k b (inr ([], h, g)) = blank k (h ∙ append-nil (spaces k))
    begun true n k b (inr (c ∷ t, h, g)) = let i : c ≡ code "-" = cc in numbered true n k t b.small (h ∙ ap (λ a. spaces k ++ a ∷ t) i) cc
