-- Rows put into a buffer, one after another. Assumes nothing.
use Prim.Native.Char.{Char}
use Rattle.std.specs.Prelude.{ℕ, zero, suc, ◌+◌, ◌-◌, ◌*◌, ◌≤◌, ◌<◌, ◌≡◌, refl, List, [], ◌∷◌, ◌++◌, map, length, get_or, take, drop}
use Rattle.std.proofs.Common.{add-zero, add-one, suc-add, add-suc, arith, sym, ap, ap₂, subst, ◌∙◌, append_assoc, append-nil, length-append, length-drop, drop_at, take_at, take_all, take-suc, length-take-le, drop-drop, ext_get_or, get_or-append-add}
use Rattle.std.proofs.Math.Decide.{dec_lt}
use Rattle.std.proofs.Math.ListN.{get_or-append, get_or-map}
use Rattle.std.proofs.Math.Seq.{take-length}
use Rattle.std.proofs.lemmas.List.{drop_all, length-map}
use Rattle.std.proofs.lemmas.Grind.{get_or_default_zero}
use borrow.Rule.Slice.PartMut.{put_mid, mid_of}
use Rattle.scope.specs.Sheet.{plus}
use Rattle.scope.specs.Program.{Row, row, rows_bytes, each}
use Rattle.scope.proofs.Laws.Lines.{length_fields}
use Rattle.scope.proofs.Laws.Outputs.{row_fits}
use Rattle.field.specs.Columns.{number_from}
use Rattle.field.specs.declared.Number.{Number}
use Rattle.line.specs.Lines.{numbers_from}
use Rattle.listing.specs.Rows.{row_size, row_bytes, field_end, figure_row, figure_rows, Small, Given, Wrote, Put}

-- ---- a row

pub row_size_lem : (c : Char) (x y z : ℕ) → x < field_end → y < field_end → z < field_end → length (row_bytes (row c x y z)) ≡ row_size
row_size_lem c x y z p q r = ap suc (length_fields (row c x y z).fields (row_fits c x y z (omega arith) (omega arith) (omega arith)))

-- its numbers as the code holds them
pub row_numbers : (x y z : ℕ) (a b c : Number) → number_from a ≡ plus x → number_from b ≡ plus y → number_from c ≡ plus z → numbers_from (a ∷ b ∷ c ∷ []) ≡ plus x ∷ plus y ∷ plus z ∷ []
row_numbers x y z a b c p q r = rw (p, q, r) refl

-- ---- rows one after another

-- the rest of a buffer, from `end` on, and the buffer with another rest
abbrev pub rest : (end : ℕ) (now : List ℕ) → List ℕ
rest end now = mid_of end (length now - end) now

abbrev pub with_rest : (end : ℕ) (now new : List ℕ) → List ℕ
with_rest end now new = put_mid end (length now - end) now new

rows_append : (rs qs : List Row) → rows_bytes (rs ++ qs) ≡ rows_bytes rs ++ rows_bytes qs
unfolding rows_bytes
rows_append [] qs = refl
rows_append (r ∷ rs) qs = ap (λ s. row_bytes r ++ s) (rows_append rs qs) ∙ sym (append_assoc (row_bytes r) (rows_bytes rs) (rows_bytes qs))

pub wrote_none : (out : List ℕ) → Wrote out [] out 0
unfolding rows_bytes
wrote_none out = record { bytes = refl; size = refl; end_is = refl }

pub wrote_row : (out new : List ℕ) (r : Row) → new ≡ row_bytes r → length new ≡ row_size → Wrote out (r ∷ []) (new ++ drop row_size out) row_size
unfolding rows_bytes
wrote_row out new r e n =
    let s : rows_bytes (r ∷ []) ≡ new = append-nil (row_bytes r) ∙ sym e in
    let m : length (rows_bytes (r ∷ [])) ≡ row_size = ap length s ∙ n in
    record { bytes = ap₂ (λ a b. a ++ drop b out) (sym s) (sym m); size = m; end_is = refl }

-- no byte is lost, so that what is lent behind them is what they leave
wrote_length : {out now : List ℕ} {rs : List Row} {end : ℕ} → Wrote out rs now end → end ≤ length out → length now ≡ length out
wrote_length {out} {now} {rs} w h = omega (arith, ap length w.bytes, length-append (rows_bytes rs) (drop (length (rows_bytes rs)) out), length-drop (length (rows_bytes rs)) out, w.size, w.end_is)

pub part_left : {out now : List ℕ} {rs : List Row} {end : ℕ} → Wrote out rs now end → end ≤ length out → length (rest end now) ≡ length out - end
part_left {out} {now} {rs} {end} w h =
    let few : length (drop end now) ≤ length now - end = omega (arith, length-drop end now) in
    let part : length (mid_of end (length now - end) now) ≡ length (drop end now) = ap length (take_all (length now - end) (drop end now) few) in
    omega (arith, part, length-drop end now, wrote_length w h)

-- rows put at the beginning of it are put behind them
pub wrote_more : {out now new : List ℕ} {rs qs : List Row} {end m : ℕ} → Wrote out rs now end → end ≤ length out → Wrote (rest end now) qs new m → Wrote out (rs ++ qs) (with_rest end now new) (end + m)
wrote_more {out} {now} {new} {rs} {qs} {end} {m} p room q = record {
  bytes =
      let s : List ℕ = rows_bytes rs in
      let t : List ℕ = rows_bytes qs in
      let k : ℕ = length now - end in
      let n : length s ≡ end = omega (arith, p.size, p.end_is) in
      let front : take end now ≡ s = ap (take end) p.bytes ∙ take_at s (drop (length s) out) end n in
      let back : drop end now ≡ drop (length s) out = ap (drop end) p.bytes ∙ drop_at s (drop (length s) out) end n in
      let few : length (drop end now) ≤ k = omega (arith, length-drop end now) in
      let part : mid_of end k now ≡ drop (length s) out = take_all k (drop end now) few ∙ back in
      let rest : new ≡ t ++ drop (length s + length t) out = q.bytes ∙ ap (λ r. t ++ drop (length t) r) part ∙ ap (λ r. t ++ r) (drop-drop (length t) (length s) out) in
      let none : drop k (drop end now) ≡ [] = drop_all k (drop end now) few in
      let whole : rows_bytes (rs ++ qs) ≡ s ++ t = rows_append rs qs in
      ap₂ (λ a b. a ++ b) front (ap₂ (λ a b. a ++ b) rest none ∙ append-nil (t ++ drop (length s + length t) out)) ∙ sym (append_assoc s t (drop (length s + length t) out))
      ∙ ap₂ (λ a j. a ++ drop j out) (sym whole) (sym (ap length whole ∙ length-append s t));
  size = ap length (rows_append rs qs) ∙ omega (arith, length-append (rows_bytes rs) (rows_bytes qs), length-append rs qs, p.size, q.size);
  end_is = omega (arith, length-append rs qs, p.end_is, q.end_is);
}

-- ---- a row for each element of a list, numbered from 1

each_snoc : {A : Type 0} (f : ℕ → A → Row) (i : ℕ) (l : List A) (a : A) → each f i (l ++ a ∷ []) ≡ each f i l ++ f (i + length l) a ∷ []
unfolding each
each_snoc f i [] a = rw add-zero
each_snoc f i (b ∷ l) a = rw (each_snoc f (suc i) l a, suc-add, add-suc)

each_map : {A B : Type 0} (f : ℕ → B → Row) (g : A → B) (i : ℕ) (l : List A) → each f i (map g l) ≡ each (λ j a. f j (g a)) i l
unfolding each
each_map f g i [] = refl
each_map f g i (a ∷ l) = ap (λ rs. f i (g a) ∷ rs) (each_map f g (suc i) l)

pub length_each : {A : Type 0} (f : ℕ → A → Row) (i : ℕ) (l : List A) → length (each f i l) ≡ length l
unfolding each
length_each f i [] = refl
length_each f i (a ∷ l) = ap suc (length_each f (suc i) l)

module _ {A : Type 0} (f : ℕ → A → Row) where
  pub put_none : (out : List ℕ) (l : List A) → Put f out l 0 out
  unfolding each
  put_none out l = wrote_none out

  -- one row more: it has the number k + 1, since k elements stand before it
  pub put_one_more : (out : List ℕ) (l : List A) (k : ℕ) (now new : List ℕ) (m : ℕ) (d : A) → Put f out l k now → k < length l → row_size * (k + 1) ≤ length out
      → Wrote (rest (row_size * k) now) (f (k + 1) (get_or l k d) ∷ []) new m → Put f out l (k + 1) (with_rest (row_size * k) now new)
  put_one_more out l k now new m d p h room w =
      let a : A = get_or l k d in
      let i : 1 + length (take k l) ≡ k + 1 = omega (arith, length-take-le k l (omega arith)) in
      let t : take (k + 1) l ≡ take k l ++ a ∷ [] = ap (λ m. take m l) (add-one k) ∙ take-suc l k d h in
      let more : each f 1 (take (k + 1) l) ≡ each f 1 (take k l) ++ f (k + 1) a ∷ [] = ap (each f 1) t ∙ each_snoc f 1 (take k l) a ∙ ap (λ m. each f 1 (take k l) ++ f m a ∷ []) i in
      let end : row_size * (k + 1) ≡ row_size * k + m = omega (arith, w.end_is) in
      rw (more, end) (wrote_more p (omega arith) w)

  -- all of them
  pub put_all : (out : List ℕ) (l : List A) (k : ℕ) (now : List ℕ) (end : ℕ) → Put f out l k now → k ≡ length l → end ≡ row_size * k → Wrote out (each f 1 l) now end
  put_all out l k now end p h e =
      let t : take k l ≡ l = ap (λ m. take m l) h ∙ take-length l in
      rw (← t, e) p

pub figures_snoc : (letter : ℕ) (xs : List ℕ) (x i : ℕ) → length xs ≡ i → figure_rows letter (xs ++ x ∷ []) ≡ figure_rows letter xs ++ figure_row letter (i + 1) x ∷ []
figures_snoc letter xs x i e = let n : 1 + length xs ≡ i + 1 = omega arith in each_snoc (figure_row letter) 1 xs x ∙ ap (λ j. figure_rows letter xs ++ figure_row letter j x ∷ []) n

-- ---- figures, one by one

module _ (R : ℕ → ℕ → Type 0) where
  pub given_none : Given R 0 []
  given_none = record { count = refl; each_one = λ i h. absurd (omega arith) }

  pub given_more : (n : ℕ) (xs : List ℕ) (x : ℕ) → Given R n xs → R n x → Given R (n + 1) (xs ++ x ∷ [])
  given_more n xs x g r = record {
    count = omega (arith, length-append xs (x ∷ []), g.count);
    each_one = λ i h. go i (dec_lt i n) (omega arith);
  }
    where
      go : (i : ℕ) → Dec (i < n) → i ≤ n → R i (get_or (xs ++ x ∷ []) i 0)
      go i (yes h) k = rw (get_or-append xs (x ∷ []) 0 i (omega (arith, g.count))) (g.each_one i h)
      go i (no h) k =
          let e : i ≡ length xs + 0 = omega (arith, g.count) in
          let f : n ≡ i = omega arith in
          rw (e, get_or-append-add xs (x ∷ []) 0 0, ← e, ← f) r

  -- the rows of a list, where R says of each figure that it is g of the element in its place
  pub rows_given : {A : Type 0} (letter : ℕ) (g : A → ℕ) (l : List A) (d : A) (n : ℕ) (xs : List ℕ) → length l ≡ n → Given R n xs → ((i x : ℕ) → i < n → R i x → x ≡ g (get_or l i d)) → figure_rows letter xs ≡ each (λ i a. figure_row letter i (g a)) 1 l
  rows_given letter g l d n xs e given h =
      let same : xs ≡ map g l = ext_get_or (g d) xs (map g l) (omega (arith, given.count, length-map l g)) (λ i b. let k : i < n = omega (arith, given.count) in get_or_default_zero xs i (g d) b ∙ h i (get_or xs i 0) k (given.each_one i k) ∙ sym (get_or-map g l i d)) in
      ap (figure_rows letter) same ∙ each_map (figure_row letter) g 1 l

  -- so these are put where its figures are
  pub given_wrote : {A : Type 0} (letter : ℕ) (g : A → ℕ) (l : List A) (d : A) {n : ℕ} {out new : List ℕ} {end : ℕ} → length l ≡ n → ((i x : ℕ) → i < n → R i x → x ≡ g (get_or l i d))
      → (xs : List ℕ) × Given R n xs × Wrote out (figure_rows letter xs) new end → Wrote out (each (λ i a. figure_row letter i (g a)) 1 l) new end
  given_wrote letter g l d {n} {out} {new} {end} e h (xs, given, wrote) = subst (λ rs. Wrote out rs new end) (rows_given letter g l d n xs e given h) wrote

-- the row of a number and zeros
pub number_small : (n : ℕ) → n < field_end → Small (n ∷ 0 ∷ 0 ∷ [])
number_small n h zero b = h
number_small n h (suc zero) b = omega arith
number_small n h (suc (suc zero)) b = omega arith
number_small n h (suc (suc (suc i))) b = absurd (omega arith)
