-- A field read column by column is the number that prints as its columns, and stops where they begin none. Assumes nothing.
use Rattle.std.specs.Prelude.{ℕ, zero, suc, ◌+◌, ◌-◌, ◌*◌, ◌/◌, ◌%◌, ◌^◌, ◌≤◌, ◌<◌, Bool, true, false, cond, ◌&&◌, List, [], ◌∷◌, ◌++◌, ◌↔◌, ◌≢◌, ◌⊎◌, ◌≡◌, refl, eqb, leb, ltb, length, get_or, take, drop, Option, Some, None, Err}
use Prim.Native.Char.{code}
use Rattle.std.proofs.Common.{pow-suc, add-zero, zero-add, suc-add, add-one, arith, append_assoc, append-nil, inl, inr, sym, ap, ap₂, ◌∙◌, drop_of_length-le, length-append, length-drop, take-append-drop, take-suc, take_all, length-take-le, eqb-true, ne_eqb, lt-ltb, le-leb, leb-true}
use Rattle.std.proofs.lemmas.Bool.{eqb-false}
use Rattle.std.proofs.Math.Option as math
use Rattle.std.proofs.Math.Option.{none-ne-some}
use Rattle.scope.specs.Sheet.{number, field_size, digit, decimal, signed, field, fits}
use Rattle.scope.specs.Sheet as scope
use Rattle.scope.specs.Reading.{full, formed, field_of, field_begins, Stop}
use Rattle.scope.proofs.Laws.Tests.{both, clash, same_some}
use Rattle.scope.proofs.Laws.Fields.{by_digits, length_field, Fitting, fitting, field_iff}
use Rattle.scope.proofs.Laws.Digits.{spaces, spaces_snoc, zero_shown, columns_of, Shown, shown_field, Part, part_digit, shown_part, spaces_part, blank_part}
use Rattle.scope.proofs.Laws.Beginnings.{part_begins, field_begins_lem}
use Rattle.field.specs.declared.Number.{Number}
use Rattle.field.specs.declared.Scan.{Scan}
use Rattle.field.specs.declared.Scan.TheVariants.{Blank, Minus, Digits}
use Rattle.field.specs.Columns.{digits, with_digit, next, step, walk, FieldRead}

-- ---- what a walk has read

-- p is read, and `left` columns come after
data Seen (p : List ℕ) (left : ℕ) : Option Scan → Type 0 where
  blank : (k : ℕ) → p ≡ spaces k → Seen p left (Some Blank)
  minus : (k : ℕ) → p ≡ spaces k ++ code "-" ∷ [] → Seen p left (Some Minus)
  alone : (k : ℕ) → p ≡ spaces k ++ code "0" ∷ [] → left ≡ 0 → Seen p left (Some (digits false 0))
  shown : {m : Bool} {n : ℕ} → Shown m n p → Seen p left (Some (digits m n))
  lost : Seen p left None

by : {p : List ℕ} {left : ℕ} (t : Bool) {x y : Option Scan} → (t ≡ true → Seen p left x) → (t ≡ false → Seen p left y) → Seen p left (cond t x y)
by true f g = f refl
by false f g = g refl

module _ (p : List ℕ) (b left : ℕ) where
  seen_digit : (m : Bool) (n : ℕ) → Part m n p → (code "0" ≤ b → 0 < n * 10 + (b - code "0")) → Seen (p ++ b ∷ []) left (with_digit (record { minus = m; size = n }) b)
  seen_digit m n h pos = by (ltb n 10000 && (leb (code "0") b && leb b (code "9"))) fine (λ t. lost)
    where
      fine : (ltb n 10000 && (leb (code "0") b && leb b (code "9"))) ≡ true → Seen (p ++ b ∷ []) left (Some (digits m (n * 10 + (b - code "0"))))
      fine t =
          let (_, u) = both (ltb n 10000) (leb (code "0") b && leb b (code "9")) t in
          let (v, w) = both (leb (code "0") b) (leb b (code "9")) u in
          let low : code "0" ≤ b = leb-true (code "0") b v in
          let high : b ≤ code "9" = leb-true b (code "9") w in
          let d : digit (b - code "0") ≡ b = omega arith in
          shown (rw d at (part_digit m n p h (b - code "0") (omega arith) (pos low)))

  not_zero : eqb b (code "0") ≡ false → code "0" ≤ b → 0 < 0 * 10 + (b - code "0")
  not_zero t l = omega (arith, eqb-false b (code "0") t)

  seen_next : (o : Option Scan) → Seen p (suc left) o → Seen (p ++ b ∷ []) left (step o b left)
  seen_next (Some Blank) (blank k e) =
      by (eqb b (code " ")) (λ t. blank (suc k) (begun (code " ") t ∙ spaces_snoc k)) (λ _.
      by (eqb b (code "-")) (λ t. minus k (begun (code "-") t)) (λ _.
      by (eqb b (code "0")) (λ t. by (eqb left 0) (λ z. alone k (begun (code "0") t) (eqb-true left 0 z)) (λ z. lost)) (λ t.
      seen_digit false 0 (blank_part k p e) (not_zero t))))
    where
      begun : (a : ℕ) → eqb b a ≡ true → p ++ b ∷ [] ≡ spaces k ++ a ∷ []
      begun a t = ap₂ (λ s c. s ++ c ∷ []) e (eqb-true b a t)
  seen_next (Some Minus) (minus k e) = by (eqb b (code "0")) (λ t. lost) (λ t. seen_digit true 0 (spaces_part k true p e) (not_zero t))
  seen_next (Some (Digits x)) (alone k e z) = absurd (omega arith)
  seen_next (Some (Digits x)) (shown {m} {n} h) = seen_digit m n (shown_part m n p h) (λ l. omega (arith, h.some))
  seen_next None lost = lost

seen_walk : (s p : List ℕ) (left : ℕ) (o : Option Scan) → Seen p (length s + left) o → Seen (p ++ s) left (walk o s left)
unfolding walk
seen_walk [] p left o h = rw append-nil (rw zero-add at h)
seen_walk (b ∷ s) p left o h = rw append_assoc at (seen_walk s (p ++ b ∷ []) left (step o b (length s + left)) (seen_next p b (length s + left) o (rw suc-add at h)))

-- what the columns hold from the first on
abbrev read : List ℕ → ℕ → Option Scan
read p left = walk (Some Blank) p left

seen : (p : List ℕ) (left : ℕ) → Seen p left (read p left)
seen p left = seen_walk p [] left (Some Blank) (blank 0 refl)

-- ---- five columns that hold a number

seen_field : (p : List ℕ) (m : Bool) (n : ℕ) → length p ≡ field_size → Seen p 0 (Some (digits m n)) → (p ≡ field (number m n)) × (fits (number m n) ≡ true)
unfolding field
seen_field p m n l (alone k e z) = (rw zero_shown (columns_of p l k (code "0" ∷ []) e).0, refl)
seen_field p m n l (shown h) = shown_field p l m n h

read_sound : (s : List ℕ) (m : Bool) (n : ℕ) → length s ≡ field_size → read s 0 ≡ Some (digits m n) → field_of s ≡ math.some (number m n)
read_sound s m n l e = (field_iff s (number m n)).1 (seen_field s m n l (rw e at (seen s 0)))

-- ---- what is printed is read

walk_spaces : (k : ℕ) (r : List ℕ) → read (spaces k ++ r) 0 ≡ read r 0
unfolding walk
walk_spaces zero r = refl
walk_spaces (suc k) r = walk_spaces k r

next_digit : (m : Bool) (n d : ℕ) → n < 10000 → d < 10 → with_digit (record { minus = m; size = n }) (digit d) ≡ Some (digits m (n * 10 + d))
next_digit m n d h g =
    let e : digit d - code "0" ≡ d = omega arith in
    rw (lt-ltb n 10000 h, le-leb (code "0") (digit d) (omega arith), le-leb (digit d) (code "9") (omega arith), e)

-- where a number of one digit is read, one of more is
module _ (st : Scan) (m : Bool) (one : (d left : ℕ) → 0 < d → d < 10 → next st (digit d) left ≡ Some (digits m d)) where
  walk_digits : (w n : ℕ) (r : List ℕ) → 0 < n → n < 10 ^ w → n < 100000 → walk (Some st) (decimal w n ++ r) 0 ≡ walk (Some (digits m n)) r 0
  unfolding walk
  walk_digits zero n r pos h g = absurd (omega arith)
  walk_digits (suc w) n r pos h g = by_digits (λ ds. walk (Some st) (ds ++ r) 0 ≡ walk (Some (digits m n)) r 0) w n
      (λ l. ap (λ q. walk q r 0) (one n (length r + 0) pos l))
      (λ l. ap (λ s. walk (Some st) s 0) (append_assoc (decimal w (n / 10)) (digit (n % 10) ∷ []) r) ∙ walk_digits w (n / 10) (digit (n % 10) ∷ r) (omega arith) (omega (arith, pow-suc 10 w)) (omega arith) ∙ ap (λ q. walk q r 0) (next_digit m (n / 10) (n % 10) (omega arith) (omega arith) ∙ ap (λ k. Some (digits m k)) (omega arith)))

after_spaces : (d left : ℕ) → 0 < d → d < 10 → next Blank (digit d) left ≡ Some (digits false d)
after_spaces d left h g = rw (ne_eqb (digit d) (code " ") (λ e. omega arith), ne_eqb (digit d) (code "-") (λ e. omega arith), ne_eqb (digit d) (code "0") (λ e. omega arith)) (next_digit false 0 d (omega arith) g ∙ ap (λ k. Some (digits false k)) (omega arith))

after_minus : (d left : ℕ) → 0 < d → d < 10 → next Minus (digit d) left ≡ Some (digits true d)
after_minus d left h g = rw (ne_eqb (digit d) (code "0") (λ e. omega arith)) (next_digit true 0 d (omega arith) g ∙ ap (λ k. Some (digits true k)) (omega arith))

walk_ends : (st : Scan) (m : Bool) (n : ℕ) → walk (Some st) (decimal field_size n ++ []) 0 ≡ walk (Some (digits m n)) [] 0 → walk (Some st) (decimal field_size n) 0 ≡ Some (digits m n)
unfolding walk
walk_ends st m n e = rw append-nil at e

walk_plain : (n : ℕ) → Fitting false n → read (decimal field_size n) 0 ≡ Some (digits false n)
unfolding walk
walk_plain n f = go (eqb n 0) refl
  where
    go : (t : Bool) → eqb n 0 ≡ t → read (decimal field_size n) 0 ≡ Some (digits false n)
    go true z = rw (eqb-true n 0 z, zero_shown)
    go false z = let p : n ≢ 0 = eqb-false n 0 z in walk_ends Blank false n (walk_digits Blank false after_spaces field_size n [] (omega arith) f.small f.small)

walk_minus : (n : ℕ) → Fitting true n → read (code "-" ∷ decimal field_size n) 0 ≡ Some (digits true n)
unfolding walk
walk_minus n f = walk_ends Minus true n (walk_digits Minus true after_minus field_size n [] (f.signed refl).0 f.small f.small)

read_field : (x : scope.Number) → fits x ≡ true → read (field x) 0 ≡ Some (digits x.minus x.size)
unfolding field
read_field x h = go x.minus x.size (fitting x h)
  where
    go : (m : Bool) (n : ℕ) → Fitting m n → read (field (number m n)) 0 ≡ Some (digits m n)
    go true n f = walk_spaces (field_size - length (signed true (decimal field_size n))) (signed true (decimal field_size n)) ∙ walk_minus n f
    go false n f = walk_spaces (field_size - length (decimal field_size n)) (decimal field_size n) ∙ walk_plain n f

-- ---- five bytes are the columns of a number exactly if the walk finds it

found : Option Scan → math.Option scope.Number
found (Some (Digits x)) = math.some (number x.minus x.size)
found (Some Blank) = math.none
found (Some Minus) = math.none
found None = math.none

found_number : (o : Option Scan) (x : scope.Number) → found o ≡ math.some x → o ≡ Some (digits x.minus x.size)
unfolding found
found_number (Some Blank) x e = absurd (none-ne-some x e)
found_number (Some Minus) x e = absurd (none-ne-some x e)
found_number (Some (Digits y)) x e = let z : number y.minus y.size ≡ x = cc in ap (λ z. Some (digits z.minus z.size)) z
found_number None x e = absurd (none-ne-some x e)

read_iff : (s : List ℕ) (x : scope.Number) → length s ≡ field_size → (found (read s 0) ≡ math.some x) ↔ (field_of s ≡ math.some x)
unfolding found
read_iff s x l = (to, back)
  where
    to : found (read s 0) ≡ math.some x → field_of s ≡ math.some x
    to e = read_sound s x.minus x.size l (found_number (read s 0) x e)

    back : field_of s ≡ math.some x → found (read s 0) ≡ math.some x
    back e = let (w, f) = (field_iff s x).0 e in ap found (ap (λ t. read t 0) w ∙ read_field x f)

read_found : (s : List ℕ) → length s ≡ field_size → found (read s 0) ≡ field_of s
read_found s l = same_some (found (read s 0)) (field_of s) (λ x. (read_iff s x l).0) (λ x. (read_iff s x l).1)

-- ---- where a walk goes bad

walk_append : (p s : List ℕ) (left : ℕ) (o : Option Scan) → walk o (p ++ s) left ≡ walk (walk o p (length s + left)) s left
unfolding walk
walk_append [] s left o = refl
walk_append (b ∷ p) s left o = let e : length (p ++ s) + left ≡ length p + (length s + left) = omega (arith, length-append p s) in ap (λ i. walk (step o b i) (p ++ s) left) e ∙ walk_append p s left (step o b (length p + (length s + left)))

walk_lost : (s : List ℕ) (left : ℕ) → walk None s left ≡ None
unfolding walk
walk_lost [] left = refl
walk_lost (b ∷ s) left = walk_lost s left

-- what is read so far begins a field
good_part : (p : List ℕ) (left : ℕ) (st : Scan) → 0 < left → Seen p left (Some st) → (m : Bool) × (n : ℕ) × Part m n p
good_part p left Blank l (blank k e) = (false, 0, blank_part k p e)
good_part p left Minus l (minus k e) = (true, 0, spaces_part k true p e)
good_part p left (Digits x) l (alone k e z) = absurd (omega arith)
good_part p left (Digits x) l (shown {m} {n} h) = (m, n, shown_part m n p h)

module _ (p : List ℕ) (left : ℕ) (l : length p + left ≡ field_size) where
  good_begins : (st : Scan) → 0 < left → read p left ≡ Some st → field_begins p ≡ true
  good_begins st h g = let (m, n, b) = good_part p left st h (rw g at (seen p left)) in part_begins m n p b (omega arith)

  lost_begins : read p left ≡ None → field_begins p ≡ false
  unfolding found
  lost_begins g =
      let r : List ℕ = drop (length p) (field full) in
      let i : length r ≡ left = omega (arith, length-drop (length p) (field full), length_field full refl) in
      let e : read (p ++ r) 0 ≡ None = walk_append p r 0 (Some Blank) ∙ ap (λ o. walk o r 0) (ap (read p) (add-zero (length r) ∙ i) ∙ g) ∙ walk_lost r 0 in
      ap formed (sym (read_found (p ++ r) (omega (arith, length-append p r))) ∙ ap found e)

-- columns that stop are no number's
stop_none : (t : List ℕ) (c : ℕ) → Stop field_begins t c → field_of t ≡ math.none
stop_none t c (p, q) = go (field_of t) refl
  where
    go : (o : math.Option scope.Number) → field_of t ≡ o → o ≡ math.none
    go math.none e = refl
    go (math.some x) e = let (d, f) = (field_iff t x).0 e in clash (field_begins_lem x (take c t) (drop c t) f (sym d ∙ sym (take-append-drop c t))) q

-- ---- one column after another

module _ (t : List ℕ) (five : length t ≡ field_size) where
  -- one column more
  module _ (i : ℕ) (st : Scan) (h : Some st ≡ read (take i t) (field_size - i)) (b : i < field_size) where
    pub next_state : (c : ℕ) → c ≡ get_or t i 0 → next st c (field_size - 1 - i) ≡ read (take (i + 1) t) (field_size - (i + 1))
    unfolding walk
    next_state c e =
        let a : take (i + 1) t ≡ take i t ++ c ∷ [] = ap (λ j. take j t) (add-one i) ∙ take-suc t i 0 (omega (arith, five)) ∙ ap (λ x. take i t ++ x ∷ []) (sym e) in
        let f : field_size - i ≡ 1 + (field_size - (i + 1)) = omega arith in
        let g : field_size - 1 - i ≡ 0 + (field_size - (i + 1)) = omega arith in
        ap₂ (λ q j. step q c j) (h ∙ ap (read (take i t)) f) g ∙ sym (ap (λ r. read r (field_size - (i + 1))) a ∙ walk_append (take i t) (c ∷ []) (field_size - (i + 1)) (Some Blank))

    pub stopped : (c : ℕ) → c ≡ get_or t i 0 → next st c (field_size - 1 - i) ≡ None → FieldRead t (Err (record { column = i + 1 }))
    stopped c e g =
        let z : i + 1 - 1 ≡ i = omega arith in
        let w : Stop field_begins t (i + 1) = (
          rw z (good_begins (take i t) (field_size - i) (omega (arith, length-take-le i t (omega (arith, five)))) st (omega arith) (sym h)),
          lost_begins (take (i + 1) t) (field_size - (i + 1)) (omega (arith, length-take-le (i + 1) t (omega (arith, five)))) (sym (next_state c e) ∙ g),
        ) in
        (stop_none t (i + 1) w, omega arith, w)

  -- all five
  module _ (i : ℕ) (st : Scan) (h : Some st ≡ read (take i t) (field_size - i)) (all : i ≡ field_size) where
    whole : read t 0 ≡ Some st
    whole = sym (h ∙ ap (λ j. read (take j t) (field_size - j)) all ∙ ap (λ r. read r 0) (take_all field_size t (omega (arith, five))))

    pub is_number : (x : Number) → st ≡ Digits x → field_of t ≡ math.some (number x.minus x.size)
    is_number x e = read_sound t x.minus x.size five (whole ∙ ap Some e)

    -- no digit stands in the last: the first four begin a number, and the five are none
    pub ends_bare : (st ≡ Blank) ⊎ (st ≡ Minus) → FieldRead t (Err (record { column = field_size }))
    unfolding found
    ends_bare e = (none_read, omega arith, (front (read (take 4 t) 1) refl, ap field_begins (take_all field_size t (omega (arith, five))) ∙ ap (λ s. formed (field_of s)) no_more ∙ ap formed none_read))
      where
        bare : (st ≡ Blank) ⊎ (st ≡ Minus) → found (Some st) ≡ math.none
        bare (inl e) = rw e
        bare (inr e) = rw e

        none_read : field_of t ≡ math.none
        none_read = sym (read_found t five) ∙ ap found whole ∙ bare e

        no_more : t ++ drop (length t) (field full) ≡ t
        no_more = ap (λ r. t ++ r) (drop_of_length-le (field full) {i = length t} (omega (arith, five, length_field full refl))) ∙ append-nil t

        last : read t 0 ≡ walk (read (take 4 t) 1) (drop 4 t) 0
        last =
            let e : length (drop 4 t) + 0 ≡ 1 = omega (arith, five, length-drop 4 t) in
            ap (λ s. read s 0) (sym (take-append-drop 4 t)) ∙ walk_append (take 4 t) (drop 4 t) 0 (Some Blank) ∙ ap (λ i. walk (read (take 4 t) i) (drop 4 t) 0) e

        front : (o : Option Scan) → read (take 4 t) 1 ≡ o → field_begins (take 4 t) ≡ true
        front None r = let z : None ≡ Some st = sym (last ∙ ap (λ o. walk o (drop 4 t) 0) r ∙ walk_lost (drop 4 t) 0) ∙ whole in cc
        front (Some q) r = good_begins (take 4 t) 1 (omega (arith, five, length-take-le 4 t (omega (arith, five)))) q (omega arith) r
