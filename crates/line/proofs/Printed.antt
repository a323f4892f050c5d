-- Numbers put one after another, between a letter and a line feed. Assumes nothing.
use Rattle.std.specs.Prelude.{ℕ, ◌+◌, ◌*◌, ◌≤◌, ◌<◌, true, false, List, [], ◌∷◌, ◌++◌, ◌≡◌, refl, length, get_or, take, drop, set}
use Prim.Native.Char.{code}
use Rattle.std.proofs.Common.{zero-add, add-one, arith, append_assoc, append-nil, sym, ap, ◌∙◌, length-take-le, take-suc}
use Rattle.std.proofs.lemmas.List.{length-map, length-set}
use Rattle.scope.specs.Sheet.{Number, plus, field_size, field, fits, fields_bytes}
use Rattle.scope.specs.Causes.{line_size}
use Rattle.scope.specs.Reading.{Fit}
use Rattle.scope.proofs.Laws.Alls.{all_at, all_take}
use Rattle.scope.proofs.Laws.Fields.{length_field}
use Rattle.scope.proofs.Laws.Lines.{length_fields}
use Rattle.scope.proofs.Laws.Lists.{length_snoc}
use Rattle.field.specs.Columns.{number_from}
use Rattle.field.specs.declared.Number as made
use Rattle.line.specs.Lines.{numbers_from, fields_front}
use Rattle.line.specs.Laws.Numbers.{number_at}
use Rattle.line.proofs.Buffers.{put, put_byte, put_part, put_first, length_put, put_next}
use borrow.Rule.Slice.PartMut.{put_mid}

front_line : (xs : List Number) → fields_bytes xs ≡ fields_front xs ++ code "\n" ∷ []
unfolding fields_front fields_bytes
front_line [] = refl
front_line (x ∷ xs) = ap (λ s. field x ++ s) (front_line xs) ∙ sym (append_assoc (field x) (fields_front xs) (code "\n" ∷ []))

front_snoc : (xs : List Number) (x : Number) → fields_front (xs ++ x ∷ []) ≡ fields_front xs ++ field x
unfolding fields_front
front_snoc [] x = append-nil (field x)
front_snoc (y ∷ xs) x = ap (λ s. field y ++ s) (front_snoc xs x) ∙ sym (append_assoc (field y) (fields_front xs) (field x))

pub length_front : (xs : List Number) → Fit xs → length (fields_front xs) ≡ length xs * field_size
length_front xs f = omega (arith, length_fields xs f, ap length (front_line xs), length_snoc (fields_front xs) (code "\n"))

-- ---- into a buffer

module _ (out : List ℕ) (at : ℕ) (xs : List Number) (fit : Fit xs) (room : at + length xs * field_size ≤ length out) where
  -- the first i of them are there, and the next one is put
  pub next_field : (i : ℕ) (now next : List ℕ) → now ≡ put out at (fields_front (take i xs)) → i < length xs → next ≡ put now (at + i * field_size) (field (get_or xs i (plus 0))) → next ≡ put out at (fields_front (take (i + 1) xs))
  next_field i now next e h f =
      let done : List Number = take i xs in
      let n : length (fields_front done) ≡ i * field_size = length_front done (all_take (λ x. fits x ≡ true) i xs fit) ∙ ap (λ m. m * field_size) (length-take-le i xs (omega arith)) in
      let t : take (i + 1) xs ≡ done ++ get_or xs i (plus 0) ∷ [] = ap (λ m. take m xs) (add-one i) ∙ take-suc xs i (plus 0) h in
      f ∙ ap (λ o. put o (at + i * field_size) (field (get_or xs i (plus 0)))) e
      ∙ put_next out at (fields_front done) (omega arith) (field (get_or xs i (plus 0))) (at + i * field_size) (omega arith)
      ∙ ap (put out at) (sym (ap fields_front t ∙ front_snoc done (get_or xs i (plus 0))))

-- a letter, the numbers and a line feed
pub line_put : (out o₁ o₂ now : List ℕ) (at letter n : ℕ) (xs : List Number) → Fit xs → length xs ≡ n → at + line_size n ≤ length out
    → o₁ ≡ put out at (letter ∷ []) → o₂ ≡ put o₁ (at + 1) (fields_front xs) → now ≡ put o₂ (at + 1 + n * field_size) (code "\n" ∷ []) → now ≡ put out at (letter ∷ fields_bytes xs)
line_put out o₁ o₂ now at letter n xs f e room a b c =
    let s : List ℕ = fields_front xs in
    let l : length s ≡ n * field_size = length_front xs f ∙ ap (λ m. m * field_size) e in
    let p : o₂ ≡ put out at (letter ∷ s) = b ∙ ap (λ o. put o (at + 1) s) a ∙ put_next out at (letter ∷ []) (omega arith) s (at + 1) refl in
    c ∙ ap (λ o. put o (at + 1 + n * field_size) (code "\n" ∷ [])) p
    ∙ put_next out at (letter ∷ s) (omega arith) (code "\n" ∷ []) (at + 1 + n * field_size) (omega arith) ∙ ap (λ r. put out at (letter ∷ r)) (sym (front_line xs))

-- put at the beginning of a buffer that has room for it
pub line_first : (out ys : List ℕ) (letter end k n : ℕ) (xs : List Number) → Fit xs → length xs ≡ n → line_size n ≤ length out → end ≡ 0 + 1 + n * field_size → k ≡ n * field_size → ys ≡ fields_front xs
    → set (put_mid 1 k (set out 0 letter) ys) end (code "\n") ≡ letter ∷ fields_bytes xs ++ drop (line_size n) out
line_first out ys letter end k n xs f e room h l p =
    let o₁ : List ℕ = set out 0 letter in
    let o₂ : List ℕ = put_mid 1 k o₁ ys in
    let s : length (fields_front xs) ≡ n * field_size = length_front xs f ∙ ap (λ m. m * field_size) e in
    let b : o₂ ≡ put o₁ (0 + 1) (fields_front xs) = put_part o₁ ys 1 k (omega (arith, s, ap length p, l)) ∙ ap (put o₁ 1) p in
    let m : length o₂ ≡ length out = ap length b ∙ length_put o₁ (0 + 1) (fields_front xs) (omega (arith, s, length-set out 0 letter, room)) ∙ length-set out 0 letter in
    let d : set o₂ end (code "\n") ≡ put o₂ (0 + 1 + n * field_size) (code "\n" ∷ []) = put_byte o₂ end (code "\n") (omega (arith, m, room, h)) ∙ ap (λ j. put o₂ j (code "\n" ∷ [])) h in
    line_put out o₁ o₂ (set o₂ end (code "\n")) 0 letter n xs f e (omega (arith, room)) (put_byte out 0 letter (omega (arith, room))) b d
    ∙ put_first out (letter ∷ fields_bytes xs) (line_size n) (omega (arith, length_fields xs f, e))

-- number i of those that the code holds
module _ (xs : List made.Number) (i : ℕ) (fit : Fit (numbers_from xs)) (h : i < length xs) where
  abbrev x : made.Number
  x = get_or xs i (record { minus = false; size = 0 })

  pub fit_at : fits (number_from x) ≡ true
  fit_at = rw (← number_at i xs) at (all_at {A = Number} (λ y. fits y ≡ true) (numbers_from xs) (plus 0) i fit (omega (arith, h, length-map xs number_from)))

  -- its columns, put behind those of the numbers before it
  pub columns_put : (out ys : List ℕ) (k : ℕ) → k ≡ field_size → ys ≡ field (number_from x) → put_mid (i * field_size) k out ys ≡ put out (0 + i * field_size) (field (get_or (numbers_from xs) i (plus 0)))
  columns_put out ys k e f = rw (zero-add, ← number_at i xs, ← f) (put_part out ys (i * field_size) k (e ∙ sym (ap length f ∙ length_field (number_from x) fit_at)))
