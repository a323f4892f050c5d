-- Where a line stops being the beginning of a well-formed one. Assumes nothing.
use Prim.Native.Nat.{ℕ, zero, suc, ◌+◌, ◌-◌, ◌≤◌, ◌<◌}
use Prim.Native.Char.{code}
use Rattle.std.proofs.Math.Decide.{dec_le}
use Rattle.std.proofs.Common.{arith, ap₂, ◌∙◌, length-take, drop_of_length-le, take_at, drop_at, take-add, take_all, length-take-le, take-take}
use Rattle.std.specs.Prelude.{Bool, not, ◌&&◌, ◌↔◌, ◌≢◌, ◌≡◌, take, replicate}
use Rattle.std.proofs.Math.Bool.{true, false, and-true}
use mathlib.Core.List.{List, [], ◌∷◌, ◌++◌, append_assoc, append-nil}
use Rattle.std.proofs.Math.Option.{Option, none, some, get_or}
use Rattle.std.proofs.Math.Path.{refl, sym, ap, subst}
use Rattle.std.proofs.Math.ListN.{length, drop, length-append, length-drop, take-append-drop}
use Rattle.std.proofs.lemmas.List.{length-replicate, replicate-append-replicate, take-append-le, drop-append-le}
use Rattle.std.proofs.Math.Seq.{take-length, take-append-add, drop-append-add}
use borrow.Author.Tests.{ne_eqb, not-true, not-false}
use Rattle.scope.specs.Sheet.{Number, field_size, digit, decimal, field, fits, Letter, H, letter_byte, Line, fields_bytes, line_bytes}
use Rattle.scope.specs.Causes.{line_size}
use Rattle.scope.specs.Sheets.{Printed, Begins, Stops}
use Rattle.scope.specs.Reading.{field_of, also, fields_of, letter_of, joined, line_of, full, model, formed, begins, column_of, field_begins, fields_begin, Stop, Fit}
use Rattle.scope.proofs.Laws.Scans.{Column, stopped, well_formed}
use Rattle.scope.proofs.Laws.Tests.{clash}
use Rattle.scope.proofs.Laws.Alls.{all_replicate}
use Rattle.scope.proofs.Laws.Fields.{length_field, field_iff}
use Rattle.scope.proofs.Laws.Digits.{Part, ones, filled, field_part}
use Rattle.scope.proofs.Laws.Lines.{fields_iff, letter_iff, line_iff, length_line}
use Rattle.scope.proofs.Laws.Picks.{Best, pick_iff}

-- ---- options

pub some_formed : {A : Type 0} {o : Option A} {a : A} → o ≡ some a → formed o ≡ true
some_formed e = rw e

formed_some : {A : Type 0} (o : Option A) → formed o ≡ true → (a : A) × (o ≡ some a)
formed_some none e = clash e refl
formed_some (some a) e = (a, refl)

also_formed : (o : Option Number) (p : Option (List Number)) → formed (also o p) ≡ (formed o && formed p)
also_formed none p = refl
also_formed (some x) none = refl
also_formed (some x) (some xs) = refl

-- ---- a field

full_ones : field full ≡ ones field_size
unfolding field decimal
full_ones = refl

-- filled up with ones it is a number
pub part_begins : (m : Bool) (n : ℕ) (p : List ℕ) → Part m n p → length p < field_size → field_begins p ≡ true
part_begins m n p h l =
    let j : ℕ = field_size - 1 - length p in
    let e : length p + suc j ≡ field_size = omega arith in
    let d : drop (length p) (field full) ≡ ones (suc j) = ap (drop (length p)) (full_ones ∙ ap ones (sym e) ∙ sym (replicate-append-replicate (length p) (suc j) (digit 1))) ∙ drop_at (ones (length p)) (ones (suc j)) (length p) (length-replicate (length p) (digit 1)) in
    let (x, a, f) = filled m n j p h e in
    rw d (some_formed ((field_iff (p ++ ones (suc j)) x).1 (a, f)))

-- all of a field, or a beginning that can be filled up
pub field_begins_lem : (x : Number) (p v : List ℕ) → fits x ≡ true → field x ≡ p ++ v → field_begins p ≡ true
field_begins_lem x p [] f e =
    let g : field x ≡ p = e ∙ append-nil p in
    let l : length p ≡ field_size = sym (ap length g) ∙ length_field x f in
    let d : drop (length p) (field full) ≡ [] = drop_of_length-le (field full) {i = length p} (omega (arith, length_field full refl)) in
    rw (d, append-nil) (some_formed ((field_iff p x).1 (sym g, f)))
field_begins_lem x p (b ∷ v) f e = let (m, n, h) = field_part x p (b ∷ v) f e (omega arith) in part_begins m n p h (omega (arith, ap length e, length_field x f, length-append p (b ∷ v)))

-- ---- fields and a line feed

model_fields : (n : ℕ) → formed (fields_of n (fields_bytes (replicate n full))) ≡ true
model_fields n = some_formed ((fields_iff n (fields_bytes (replicate n full)) (replicate n full)).1 record { printed = refl; count = length-replicate n full; fit = all_replicate (λ x. fits x ≡ true) n full refl })

-- s is q, five bytes, and r
fields_formed : (n : ℕ) (s q r : List ℕ) → s ≡ q ++ r → length q ≡ field_size → formed (fields_of (suc n) s) ≡ (formed (field_of q) && formed (fields_of n r))
unfolding fields_of
fields_formed n s q r e l = rw (e, take_at q r field_size l, drop_at q r field_size l) (also_formed (field_of q) (fields_of n r))

module _ (n : ℕ) where
  abbrev rest : List ℕ
  rest = fields_bytes (replicate n full)

  -- within the first field, and past it
  first_begins : (p : List ℕ) → length p ≤ field_size → fields_begin (suc n) p ≡ field_begins p
  unfolding fields_bytes
  first_begins p l =
      let q : List ℕ = p ++ drop (length p) (field full) in
      let e : p ++ drop (length p) (field full ++ rest) ≡ q ++ rest = ap (λ s. p ++ s) (drop-append-le (length p) (field full) rest (omega (arith, length_field full refl))) ∙ sym (append_assoc p (drop (length p) (field full)) rest) in
      fields_formed n (p ++ drop (length p) (field full ++ rest)) q rest e (omega (arith, length-append p (drop (length p) (field full)), length-drop (length p) (field full), length_field full refl)) ∙ rw (model_fields n) (and-true (formed (field_of q)))

  rest_begins : (q p : List ℕ) → length q ≡ field_size → fields_begin (suc n) (q ++ p) ≡ (formed (field_of q) && fields_begin n p)
  unfolding fields_bytes
  rest_begins q p l =
      let i : length (q ++ p) ≡ length (field full) + length p = omega (arith, length-append q p, length_field full refl) in
      let d : drop (length (q ++ p)) (field full ++ rest) ≡ drop (length p) rest = ap (λ k. drop k (field full ++ rest)) i ∙ drop-append-add (field full) rest (length p) in
      fields_formed n (q ++ p ++ drop (length (q ++ p)) (field full ++ rest)) q (p ++ drop (length p) rest) (append_assoc q p (drop (length (q ++ p)) (field full ++ rest)) ∙ ap (λ s. q ++ (p ++ s)) d) l

-- p begins the fields, and v is what is left of them
fields_begin_lem : (n : ℕ) (xs : List Number) (p v : List ℕ) → length xs ≡ n → Fit xs → fields_bytes xs ≡ p ++ v → fields_begin n p ≡ true
unfolding fields_of fields_bytes
fields_begin_lem zero [] [] v c f e = refl
fields_begin_lem zero [] (b ∷ []) v c f e = let h : code "\n" ≡ b = cc in rw (← h) refl
fields_begin_lem zero [] (b ∷ d ∷ p) v c f e = absurd (omega (arith, ap length e))
fields_begin_lem zero (x ∷ xs) p v c f e = absurd (omega arith)
fields_begin_lem (suc n) [] p v c f e = absurd (omega arith)
fields_begin_lem (suc n) (x ∷ xs) p v c (f, fs) e = go (dec_le (length p) field_size) (fields_begin_lem n xs)
  where
    l : length (field x) ≡ field_size
    l = length_field x f

    go : Dec (length p ≤ field_size) → ((p v : List ℕ) → length xs ≡ n → Fit xs → fields_bytes xs ≡ p ++ v → fields_begin n p ≡ true) → fields_begin (suc n) p ≡ true
    go (yes h) more =
        let i : field_size ≡ length p + (field_size - length p) = omega arith in
        let g : field x ≡ p ++ take (field_size - length p) v = sym (take_at (field x) (fields_bytes xs) field_size l) ∙ ap (take field_size) e ∙ ap (λ k. take k (p ++ v)) i ∙ take-append-add p v (field_size - length p) in
        first_begins n p h ∙ field_begins_lem x p (take (field_size - length p) v) f g
    go (no h) more =
        let q : take field_size p ≡ field x = sym (take-append-le field_size p v (omega arith)) ∙ ap (take field_size) (sym e) ∙ take_at (field x) (fields_bytes xs) field_size l in
        let r : fields_bytes xs ≡ drop field_size p ++ v = sym (drop_at (field x) (fields_bytes xs) field_size l) ∙ ap (drop field_size) e ∙ drop-append-le field_size p v (omega arith) in
        subst (λ s. fields_begin (suc n) s ≡ true) (take-append-drop field_size p)
        (rest_begins n (take field_size p) (drop field_size p) (ap length q ∙ l) ∙ ap₂ (λ a b. a && b) (some_formed ((field_iff (take field_size p) x).1 (q, f))) (more (drop field_size p) v (omega arith) fs r))

-- ---- a line

joined_formed : (n b : ℕ) (s : List ℕ) → formed (line_of n (b ∷ s)) ≡ (formed (letter_of b) && formed (fields_of n s))
unfolding line_of
joined_formed n b s = go (letter_of b) (fields_of n s)
  where
    go : (o : Option Letter) (p : Option (List Number)) → formed (joined o p) ≡ (formed o && formed p)
    go none p = refl
    go (some c) none = refl
    go (some c) (some xs) = refl

letter_begins : (n b : ℕ) (p : List ℕ) → begins n (b ∷ p) ≡ (formed (letter_of b) && fields_begin n p)
letter_begins n b p = joined_formed n b (p ++ drop (length p) (fields_bytes (replicate n full)))

none_begins : (n : ℕ) → begins n [] ≡ true
unfolding letter_of
none_begins n = joined_formed n (letter_byte H) (fields_bytes (replicate n full)) ∙ model_fields n

-- filled up from the model line, p is a line exactly if some line begins with p: part by part, up to the part where p ends
begins_iff : (n : ℕ) (p : List ℕ) → (begins n p ≡ true) ↔ Begins n p
begins_iff n p = (to, back p)
  where
    to : begins n p ≡ true → Begins n p
    to e =
        let s : List ℕ = p ++ drop (length p) (model n) in
        let (l, h) = formed_some (line_of n s) e in
        (s, l, (drop (length p) (model n), refl), (line_iff n s l).0 h)

    back : (p : List ℕ) → Begins n p → begins n p ≡ true
    back [] h = none_begins n
    back (b ∷ p) (s, l, (r, e), h) =
        let g : b ∷ p ++ r ≡ line_bytes l = e ∙ h.bytes in
        let c : b ≡ letter_byte l.letter = cc in
        let f : fields_bytes l.fields ≡ p ++ r = cc in
        letter_begins n b p ∙ ap₂ (λ x y. x && y) (some_formed ((letter_iff b l.letter).1 c)) (fields_begin_lem n l.fields p r h.count h.fit f)

begins_front : (n : ℕ) (p q : List ℕ) → Begins n (p ++ q) → Begins n p
begins_front n p q (s, l, (r, e), h) = (s, l, (q ++ r, sym (append_assoc p q r) ∙ e), h)

-- ---- the column

module _ (n : ℕ) (s : List ℕ) where
  not_begins : (c : ℕ) → (begins n (take c s) ≡ false) ↔ (¬ Begins n (take c s))
  not_begins c = (λ e h. clash ((begins_iff n (take c s)).1 h) e, λ h. go (begins n (take c s)) refl h)
    where
      go : (t : Bool) → begins n (take c s) ≡ t → (¬ Begins n (take c s)) → t ≡ false
      go true e h = absurd (h ((begins_iff n (take c s)).0 e))
      go false e h = refl

  stop_iff : (c : ℕ) → Stop (begins n) s c ↔ Stops n s c
  stop_iff c = (λ (p, q). ((begins_iff n (take (c - 1) s)).0 p, (not_begins c).0 q), λ (p, q). ((begins_iff n (take (c - 1) s)).1 p, (not_begins c).1 q))

  -- a column is one of the line's
  pub stops_within : (c : ℕ) → Stops n s c → (1 ≤ c) × (c ≤ length s)
  stops_within zero (p, q) = absurd (q p)
  stops_within (suc c) (p, q) = (omega arith, go (dec_le (suc c) (length s)))
    where
      go : Dec (suc c ≤ length s) → suc c ≤ length s
      go (yes h) = h
      go (no h) = absurd (q (subst (Begins n) (take_all (suc c - 1) s (omega arith) ∙ sym (take_all (suc c) s (omega arith))) p))

  abbrev bad : ℕ → Bool
  bad c = not (begins n (take c s))

  -- what begins a beginning is one too, so the first column that is bad comes right after the longest beginning
  pub column_iff : (c : ℕ) → (column_of n s ≡ some c) ↔ Stops n s c
  unfolding column_of
  column_iff c = (λ e. to c ((pick_iff (λ c. 0) bad (suc (length s)) (some c)).0 e), λ h. (pick_iff (λ c. 0) bad (suc (length s)) (some c)).1 (back h))
    where
      to : (c : ℕ) → Best (λ c. 0) bad (suc (length s)) c → Stops n s c
      to zero b = clash (none_begins n) (not-true (begins n []) b.good)
      to (suc c) b = (stop_iff (suc c)).0 (go (begins n (take (suc c - 1) s)) refl, not-true (begins n (take (suc c) s)) b.good)
        where
          go : (t : Bool) → begins n (take (suc c - 1) s) ≡ t → t ≡ true
          go true e = refl
          go false e = absurd (omega (arith, (b.ahead (suc c - 1) (omega (arith, b.below)) (rw e)).first (omega arith)))

      back : Stops n s c → Best (λ c. 0) bad (suc (length s)) c
      back h =
          let (p, q) = stops_within c h in
          record { below = omega arith; good = rw ((stop_iff c).1 h).1; ahead = λ k l e. record { cheap = omega arith; first = λ z. later k e (dec_le c k) } }
        where
          later : (k : ℕ) → bad k ≡ true → Dec (c ≤ k) → c ≤ k
          later k e (yes l) = l
          later k e (no l) =
              let i : c - 1 ≡ k + (c - 1 - k) = omega arith in
              let b : Begins n (take k s ++ take (c - 1 - k) (drop k s)) = subst (Begins n) (ap (λ j. take j s) i ∙ take-add k (c - 1 - k) s) h.0 in
              absurd ((not_begins k).0 (not-true (begins n (take k s)) e) (begins_front n (take k s) (take (c - 1 - k) (drop k s)) b))

  -- a whole line has none exactly if it is well-formed
  printed_none : (l : Line) → Printed n s l → column_of n s ≡ none
  unfolding column_of
  printed_none l h = (pick_iff (λ c. 0) bad (suc (length s)) none).1 (λ k b. rw ((begins_iff n (take k s)).1 (s, l, (drop k s, take-append-drop k s), h)))

  none_printed : line_size n ≤ length s → column_of n s ≡ none → (l : Line) × Printed n s l
  unfolding column_of
  none_printed w e =
      let k : bad (length s) ≡ false = (pick_iff (λ c. 0) bad (suc (length s)) none).0 e (length s) (omega arith) in
      let (r, l, (v, f), h) = (begins_iff n s).0 (rw take-length at (not-false (begins n (take (length s) s)) k)) in
      let i : length r ≡ line_size n = ap length h.bytes ∙ length_line l h.fit ∙ ap line_size h.count in
      (l, subst (λ t. Printed n t l) (sym (whole v f i)) h)
    where
      whole : {r : List ℕ} (v : List ℕ) → s ++ v ≡ r → length r ≡ line_size n → s ≡ r
      whole [] f i = sym (append-nil s) ∙ f
      whole (b ∷ v) f i = absurd (omega (arith, ap length f, length-append s (b ∷ v)))

  pub column_none : line_size n ≤ length s → (column_of n s ≡ none) ↔ ((l : Line) × Printed n s l)
  column_none w = (none_printed w, λ (l, h). printed_none l h)

  -- and what is told of it
  pub column_is : (c : ℕ) → Column n s c → get_or (column_of n s) 0 ≡ c
  column_is c (stopped h) = rw ((column_iff c).1 h)
  column_is c (well_formed l h) = rw (printed_none l h)

  pub column_found : line_size n ≤ length s → Column n s (get_or (column_of n s) 0)
  column_found w = go (column_of n s) refl
    where
      go : (o : Option ℕ) → column_of n s ≡ o → Column n s (get_or o 0)
      go none e = let (l, h) = none_printed w e in well_formed l h
      go (some c) e = stopped ((column_iff c).0 e)

-- ---- part by part

stop_pos : (begun : List ℕ → Bool) (s : List ℕ) (c : ℕ) → Stop begun s c → 1 ≤ c
stop_pos begun s zero (p, q) = clash p q
stop_pos begun s (suc c) h = omega arith

module _ (n : ℕ) (s : List ℕ) (c : ℕ) where
  pub stop_column : Stop (begins n) s c → column_of n s ≡ some c
  stop_column h = (column_iff n s c).1 ((stop_iff n s c).0 h)

  -- in the first field, in one after it, and at the line feed
  pub field_stop : c ≤ field_size → Stop field_begins (take field_size s) c → Stop (fields_begin (suc n)) s c
  field_stop l (p, q) = (at (c - 1) (omega arith) ∙ p, at c l ∙ q)
    where
      at : (j : ℕ) → j ≤ field_size → fields_begin (suc n) (take j s) ≡ field_begins (take j (take field_size s))
      at j h = rw (take-take j field_size s h) (first_begins n (take j s) (omega (arith, length-take j s)))

  pub rest_stop : field_size ≤ length s → formed (field_of (take field_size s)) ≡ true → Stop (fields_begin n) (drop field_size s) c → Stop (fields_begin (suc n)) s (field_size + c)
  rest_stop l f h =
      let e : field_size + c - 1 ≡ field_size + (c - 1) = omega (arith, stop_pos (fields_begin n) (drop field_size s) c h) in
      (ap (λ j. fields_begin (suc n) (take j s)) e ∙ at (c - 1) ∙ h.0, at c ∙ h.1)
    where
      at : (j : ℕ) → fields_begin (suc n) (take (field_size + j) s) ≡ fields_begin n (take j (drop field_size s))
      at j = ap (fields_begin (suc n)) (take-add field_size j s) ∙ rest_begins n (take field_size s) (take j (drop field_size s)) (length-take-le field_size s l) ∙ rw f

pub end_stop : (b : ℕ) (s : List ℕ) → b ≢ code "\n" → Stop (fields_begin 0) (b ∷ s) 1
unfolding fields_of fields_bytes
end_stop b s h = (refl, rw (ne_eqb b (code "\n") h))

-- at the letter, and after it
pub letter_stop : (n b : ℕ) (s : List ℕ) → formed (letter_of b) ≡ false → Stop (begins n) (b ∷ s) 1
letter_stop n b s f = (none_begins n, letter_begins n b [] ∙ rw f)

pub after_letter : (n b : ℕ) (s : List ℕ) (c : ℕ) → formed (letter_of b) ≡ true → Stop (fields_begin n) s c → Stop (begins n) (b ∷ s) (suc c)
after_letter n b s c f h =
    let e : suc c - 1 ≡ suc (c - 1) = omega (arith, stop_pos (fields_begin n) s c h) in
    (ap (λ j. begins n (take j (b ∷ s))) e ∙ letter_begins n b (take (c - 1) s) ∙ rw f h.0, letter_begins n b (take c s) ∙ rw f h.1)
