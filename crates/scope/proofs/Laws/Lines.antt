-- Reading a line is the inverse of printing it. Assumes nothing.
use Rattle.std.specs.Prelude.{ℕ, zero, suc, ◌+◌, ◌*◌, Bool, true, false, cond, List, [], ◌∷◌, ◌++◌, ◌↔◌, ◌≡◌, refl, eqb, length, take, drop}
use Prim.Native.Char.{code}
use Rattle.std.proofs.Common.{suc-mul, arith, sym, ap, ap₂, subst, ◌∙◌, length-append, take-append-drop, take_at, drop_at, eqb-true}
use Rattle.std.proofs.Math.Option.{Option, none, some, none-ne-some}
use Rattle.scope.specs.Sheet.{Number, field_size, field, Letter, H, N, A, O, R, W, Z, letter_byte, Line, line, fields_bytes, line_bytes}
use Rattle.scope.specs.Causes.{line_size}
use Rattle.scope.specs.Sheets.{Printed}
use Rattle.scope.specs.Reading.{Fit, same, field_of, also, fields_of, letter_from, letter_of, joined, line_of}
use Rattle.scope.proofs.Laws.Fields.{same_true, length_field, when_some, field_iff}

-- ---- fields

pub length_fields : (xs : List Number) → Fit xs → length (fields_bytes xs) ≡ length xs * field_size + 1
unfolding fields_bytes
length_fields [] f = refl
length_fields (x ∷ xs) f = omega (arith, length-append (field x) (fields_bytes xs), length_field x f.0, length_fields xs f.1, suc-mul (length xs) field_size)

-- s is these n fields printed, and a line feed
pub record Fields (n : ℕ) (s : List ℕ) (xs : List Number) : Type 0 where
  pub printed : s ≡ fields_bytes xs
  pub count : length xs ≡ n
  pub fit : Fit xs

pub also_some : (o : Option Number) (p : Option (List Number)) (zs : List Number) → also o p ≡ some zs
    → (x : Number) × (xs : List Number) × (o ≡ some x) × (p ≡ some xs) × (zs ≡ x ∷ xs)
also_some none p zs e = absurd (none-ne-some zs e)
also_some (some x) none zs e = absurd (none-ne-some zs e)
also_some (some x) (some xs) zs e = (x, xs, refl, refl, cc)

fields_sound : (n : ℕ) (s : List ℕ) (xs : List Number) → fields_of n s ≡ some xs → Fields n s xs
unfolding fields_of fields_bytes
fields_sound zero s xs e =
    let (t, g) = when_some (same s (code "\n" ∷ [])) [] xs e in
    subst (Fields zero s) g record { printed = same_true s (code "\n" ∷ []) t; count = refl; fit = tt }
fields_sound (suc n) s zs e =
    let (x, xs, p, q, g) = also_some (field_of (take field_size s)) (fields_of n (drop field_size s)) zs e in
    let (a, f) = (field_iff (take field_size s) x).0 p in
    let r : Fields n (drop field_size s) xs = fields_sound n (drop field_size s) xs q in
    subst (Fields (suc n) s) (sym g) record { printed = sym (take-append-drop field_size s) ∙ ap₂ (λ u v. u ++ v) a r.printed; count = ap suc r.count; fit = (f, r.fit) }

fields_complete : (n : ℕ) (xs : List Number) → length xs ≡ n → Fit xs → fields_of n (fields_bytes xs) ≡ some xs
unfolding fields_of fields_bytes
fields_complete zero [] e f = refl
fields_complete zero (x ∷ xs) e f = absurd (omega arith)
fields_complete (suc n) [] e f = absurd (omega arith)
fields_complete (suc n) (x ∷ xs) e (g, f) =
    rw (take_at (field x) (fields_bytes xs) field_size (length_field x g), drop_at (field x) (fields_bytes xs) field_size (length_field x g), (field_iff (field x) x).1 (refl, g), fields_complete n xs (omega arith) f)

pub fields_iff : (n : ℕ) (s : List ℕ) (xs : List Number) → (fields_of n s ≡ some xs) ↔ Fields n s xs
fields_iff n s xs = (fields_sound n s xs, λ h. ap (fields_of n) h.printed ∙ fields_complete n xs h.count h.fit)

-- ---- the letter

letter_byte_lem : (c : Letter) → letter_of (letter_byte c) ≡ some c
unfolding letter_of
letter_byte_lem H = refl
letter_byte_lem N = refl
letter_byte_lem A = refl
letter_byte_lem O = refl
letter_byte_lem R = refl
letter_byte_lem W = refl
letter_byte_lem Z = refl

letter_from_lem : (cs : List Letter) (b : ℕ) (c : Letter) → letter_from cs b ≡ some c → b ≡ letter_byte c
letter_from_lem [] b c e = absurd (none-ne-some c e)
letter_from_lem (d ∷ cs) b c e = go (eqb b (letter_byte d)) refl e (letter_from_lem cs b c)
  where
    go : (t : Bool) → eqb b (letter_byte d) ≡ t → cond t (some d) (letter_from cs b) ≡ some c → (letter_from cs b ≡ some c → b ≡ letter_byte c) → b ≡ letter_byte c
    go true h e more = let g : d ≡ c = cc in eqb-true b (letter_byte d) h ∙ ap letter_byte g
    go false h e more = more e

pub letter_iff : (b : ℕ) (c : Letter) → (letter_of b ≡ some c) ↔ (b ≡ letter_byte c)
unfolding letter_of
letter_iff b c = (letter_from_lem (H ∷ N ∷ A ∷ O ∷ R ∷ W ∷ Z ∷ []) b c, λ e. ap letter_of e ∙ letter_byte_lem c)

-- ---- the line

joined_some : (o : Option Letter) (p : Option (List Number)) (l : Line) → joined o p ≡ some l → (o ≡ some l.letter) × (p ≡ some l.fields)
joined_some none p l e = absurd (none-ne-some l e)
joined_some (some c) none l e = absurd (none-ne-some l e)
joined_some (some c) (some xs) l e = let g : line c xs ≡ l = cc in (ap (λ m. some m.letter) g, ap (λ m. some m.fields) g)

line_sound : (n : ℕ) (s : List ℕ) (l : Line) → line_of n s ≡ some l → Printed n s l
unfolding line_of
line_sound n [] l e = absurd (none-ne-some l e)
line_sound n (b ∷ s) l e =
    let (p, q) = joined_some (letter_of b) (fields_of n s) l e in
    let f : Fields n s l.fields = (fields_iff n s l.fields).0 q in
    record { bytes = ap₂ (λ c r. c ∷ r) ((letter_iff b l.letter).0 p) f.printed; count = f.count; fit = f.fit }

line_complete : (n : ℕ) (l : Line) → length l.fields ≡ n → Fit l.fields → line_of n (line_bytes l) ≡ some l
unfolding line_of
line_complete n l e f = rw (letter_byte_lem l.letter, fields_complete n l.fields e f)

pub line_iff : (n : ℕ) (s : List ℕ) (l : Line) → (line_of n s ≡ some l) ↔ Printed n s l
line_iff n s l = (line_sound n s l, λ h. ap (line_of n) h.bytes ∙ line_complete n l h.count h.fit)

pub length_line : (l : Line) → Fit l.fields → length (line_bytes l) ≡ line_size (length l.fields)
length_line l f = omega (arith, length_fields l.fields f)
