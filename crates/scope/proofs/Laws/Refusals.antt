-- A sheet is refused exactly for its first cause, and accepted exactly if it has none. Assumes nothing.
use Prim.Native.Nat.{ℕ, zero, suc, ◌+◌, ◌-◌, ◌*◌, ◌≤◌, ◌<◌}
use Rattle.std.proofs.Common.{add-zero, suc-mul, mul-le-mul_right, div-add-mod', inl, inr, sym, ap, subst, subst₂, ◌∙◌, eqb-true}
use Rattle.std.proofs.Math.Nat.{zero-add}
use native.Mathlib.Omega.{arith}
use Rattle.std.specs.Prelude.{Bool, true, false, not, ◌&&◌, List, [], ◌∷◌, ◌↔◌, ◌≢◌, ◌⊎◌, ◌≡◌, refl, eqb, length, drop}
use Rattle.std.proofs.Math.Option.{Option, none, some, none-ne-some, some-injective}
use Rattle.scope.specs.Sheet.{Number, Sheet, Letter, H, N, A, O, R, W, Z, Line, Layout, plain, weighted, field_count, most_switches, most_faults, All}
use Rattle.scope.specs.Causes.{up_to, at, zeros, Test, tests, started, accepted, refused, line_size, length_ok, line_count, bytes_at, Met, First, here, later}
use Rattle.scope.specs.Sheets.{SheetRefusal, wrong_length, malformed, wrong_letter, out_of_range, too_many, wrong_field, wrong_count, wrong_weight}
use Rattle.scope.specs.Reading.{first_fault, tests_of, line_of, line_at, column_at, tests_at, read_from, read}
use Rattle.scope.proofs.Laws.Scans.{Column, stopped, well_formed, before, Passed, Cause, size, line, NoCause}
use Rattle.scope.proofs.Laws.Tests.{clash, both, up_to_lem}
use Rattle.scope.proofs.Laws.Lists.{part_length}
use Rattle.scope.proofs.Laws.Alls.{all_imply}
use Rattle.scope.proofs.Laws.Lines.{line_iff}
use Rattle.scope.proofs.Laws.Beginnings.{stops_within, column_is, column_found}

-- ---- the first unmet test

pub met : (rs : List Test) → first_fault rs ≡ none → Met rs
met [] e = tt
met ((n, true) ∷ rs) e = (refl, met rs e)
met ((n, false) ∷ rs) e = absurd (none-ne-some n (sym e))

pub met_none : (rs : List Test) → Met rs → first_fault rs ≡ none
met_none [] m = refl
met_none (r ∷ rs) (e, m) = rw e (met_none rs m)

pub first : (c : ℕ) (rs : List Test) → first_fault rs ≡ some c → First c rs
first c [] e = absurd (none-ne-some c e)
first c ((m, true) ∷ rs) e = later (first c rs e)
first c ((m, false) ∷ rs) e = subst (λ x. First x ((m, false) ∷ rs)) (some-injective m c e) here

pub first_some : {c : ℕ} {rs : List Test} → First c rs → first_fault rs ≡ some c
first_some here = refl
first_some (later f) = first_some f

-- ---- line by line

pub not_both : {t : Sheet} {c place column : ℕ} → accepted t ≢ refused c place column
not_both e = let z : ◌≡◌ {A = ℕ} 0 1 = cc in omega arith

module _ (y : Layout) (s : List ℕ) where
  abbrev n : ℕ
  n = field_count y

  -- a first line that does not pass, or none below m
  data Search (m : ℕ) : Type 0 where
    all : ((j : ℕ) → j < m → Passed y s j) → Search m
    stop : (c k : ℕ) → k < m → ((j : ℕ) → j < k → Passed y s j) → First c (tests_at y s (before y s k) k) → Search m

  search_lines : (m : ℕ) → Search m
  search_lines zero = all (λ j h. absurd (omega arith))
  search_lines (suc m) = go (search_lines m)
    where
      test : ((j : ℕ) → j < m → Passed y s j) → (o : Option ℕ) → first_fault (tests_at y s (before y s m) m) ≡ o → Search (suc m)
      test p none e = all (up_to_lem m p (met (tests_at y s (before y s m) m) e))
      test p (some c) e = stop c m (omega arith) p (first c (tests_at y s (before y s m) m) e)

      go : Search m → Search (suc m)
      go (all p) = test p (first_fault (tests_at y s (before y s m) m)) refl
      go (stop c k h p f) = stop c k (omega arith) p f

  -- reading goes on from line k once the lines before it are passed
  reach : (k m : ℕ) → ((j : ℕ) → j < k → Passed y s j) → read_from y s (k + m) 0 (started 0 0) ≡ read_from y s m k (before y s k)
  unfolding read_from before
  reach zero m p = rw zero-add
  reach (suc k) m p =
      let i : suc k + m ≡ k + suc m = omega arith in
      rw i (reach k (suc m) (λ j h. p j (omega arith)) ∙ rw (met_none (tests_at y s (before y s k) k) (p k (omega arith))))

  -- ---- the sheet

  pub no_cause_accepts : NoCause y s → read y s ≡ accepted (before y s (line_count n s))
  unfolding read read_from
  no_cause_accepts h = rw h.size (ap (λ m. read_from y s m 0 (started 0 0)) (sym (add-zero (line_count n s))) ∙ reach (line_count n s) 0 h.lines)

  pub cause_refuses : {c place column : ℕ} → Cause y s c place column → read y s ≡ refused c place column
  unfolding read read_from column_at
  cause_refuses (size h) = rw h
  cause_refuses (line {c} {column} k h l p f w) =
      let m : ℕ = line_count n s - suc k in
      let i : line_count n s ≡ k + suc m = omega arith in
      rw (h, i) (reach k (suc m) p ∙ rw (first_some f, column_is n (bytes_at n s k) column w))

  -- line k is a whole one
  pub line_within : (k : ℕ) → k < line_count n s → k * line_size n + line_size n ≤ length s
  line_within k h = let i : suc k ≤ line_count n s = omega arith in omega (arith, suc-mul k (line_size n), mul-le-mul_right (line_size n) i, div-add-mod' (length s) (line_size n))

  pub whole_line : (k : ℕ) → k < line_count n s → length (bytes_at n s k) ≡ line_size n
  whole_line k h = part_length s (k * line_size n) (line_size n) (line_within k h)

  pub column_of_lem : (k : ℕ) → k < line_count n s → Column n (bytes_at n s k) (column_at y s k)
  unfolding column_at
  column_of_lem k h = column_found n (bytes_at n s k) (omega (arith, whole_line k h))

  -- one of the two is there
  data Told : Type 0 where
    fine : NoCause y s → Told
    turned : (c place column : ℕ) → Cause y s c place column → Told

  told : Told
  told = go (length_ok n (length s)) refl
    where
      go : (t : Bool) → length_ok n (length s) ≡ t → Told
      go false e = turned 1 0 0 (size e)
      go true e = lines (search_lines (line_count n s))
        where
          lines : Search (line_count n s) → Told
          lines (all p) = fine record { size = e; lines = p }
          lines (stop c k h p f) = turned c (suc k) (column_at y s k) (line k e h p f (column_of_lem k h))

  pub refused_iff : (c place column : ℕ) → (read y s ≡ refused c place column) ↔ Cause y s c place column
  refused_iff c place column = (λ e. go told e, cause_refuses)
    where
      go : Told → read y s ≡ refused c place column → Cause y s c place column
      go (fine h) e = absurd (not_both (sym (no_cause_accepts h) ∙ e))
      go (turned d p q h) e =
          let f : refused d p q ≡ refused c place column = sym (cause_refuses h) ∙ e in
          let a : d ≡ c = cc in
          let b : p ≡ place = cc in
          let g : q ≡ column = cc in
          subst (Cause y s c place) g (subst₂ (λ u v. Cause y s u v q) a b h)

  pub accepted_iff : (t : Sheet) → (read y s ≡ accepted t) ↔ (NoCause y s × (t ≡ before y s (line_count n s)))
  accepted_iff t = (λ e. go told e, λ (h, e). no_cause_accepts h ∙ ap accepted (sym e))
    where
      go : Told → read y s ≡ accepted t → NoCause y s × (t ≡ before y s (line_count n s))
      go (fine h) e = let f : accepted (before y s (line_count n s)) ≡ accepted t = sym (no_cause_accepts h) ∙ e in (h, cc)
      go (turned c p q h) e = absurd (not_both (sym e ∙ cause_refuses h))

-- ---- which numbers

-- what holds of the number of every test that is not met holds of the first such
first_unmet : (P : ℕ → Type 0) (rs : List Test) → All (λ r. r.1 ≡ false → P r.0) rs → {c : ℕ} → First c rs → P c
first_unmet P rs a f = go f a
  where
    go : {c : ℕ} {rs : List Test} → First c rs → All (λ r. r.1 ≡ false → P r.0) rs → P c
    go here (p, a) = p refl
    go (later f) (p, a) = go f a

pub first_in : (P : ℕ → Type 0) (rs : List Test) → All (λ r. P r.0) rs → {c : ℕ} → First c rs → P c
first_in P rs a = first_unmet P rs (all_imply (λ r. P r.0) (λ r. r.1 ≡ false → P r.0) (λ r p e. p) rs a)

-- past the first test, which is met if it is not the one
first_cons : (m : ℕ) (b : Bool) (rs : List Test) {c : ℕ} → First c ((m, b) ∷ rs) → (c ≡ m) ⊎ ((b ≡ true) × First c rs)
first_cons m true rs f = inr (refl, tail f)
  where
    tail : {c : ℕ} → First c ((m, true) ∷ rs) → First c rs
    tail (later f) = f
first_cons m false rs f = inl (head f)
  where
    head : {c : ℕ} → First c ((m, false) ∷ rs) → c ≡ m
    head here = refl

-- a wish whose weight is not written weighs 1, so that 14 is not for it
wish_number : (y : Layout) (t : Sheet) (k : ℕ) (last : Bool) (xs : List Number) {m : ℕ} → First m (tests y t k last W xs) → SheetRefusal y m (suc k) 0
unfolding tests
wish_number plain t k last xs f = first_unmet (λ c. SheetRefusal plain c (suc k) 0) (tests plain t k last W xs) (λ e. wrong_letter, (λ e. too_many, (λ e. wrong_field, (λ e. clash refl e, tt)))) f
wish_number weighted t k last xs f = first_in (λ c. SheetRefusal weighted c (suc k) 0) (tests weighted t k last W xs) (wrong_letter, (too_many, (wrong_field, (wrong_weight, tt)))) f

-- every test has one of these numbers; 4 is told of line 1 alone, since the test before it asks that H be the first line
letter_number : (y : Layout) (t : Sheet) (k : ℕ) (last : Bool) (c : Letter) (xs : List Number) {m : ℕ} → First m (tests y t k last c xs) → SheetRefusal y m (suc k) 0
unfolding tests
letter_number y t k last H xs {m} f = go (first_cons 3 (eqb k 0 && not last) ((4, up_to most_switches (at xs 0) && up_to most_faults (at xs 1)) ∷ (6, zeros (drop 2 xs)) ∷ []) f)
  where
    go : (m ≡ 3) ⊎ (((eqb k 0 && not last) ≡ true) × First m ((4, up_to most_switches (at xs 0) && up_to most_faults (at xs 1)) ∷ (6, zeros (drop 2 xs)) ∷ [])) → SheetRefusal y m (suc k) 0
    go (inl e) = rw e wrong_letter
    go (inr (b, g)) = let z : k ≡ 0 = eqb-true k 0 (both (eqb k 0) (not last) b).0 in rw z (first_in (λ c. SheetRefusal y c 1 0) ((4, up_to most_switches (at xs 0) && up_to most_faults (at xs 1)) ∷ (6, zeros (drop 2 xs)) ∷ []) (out_of_range, (wrong_field, tt)) g)
letter_number y t k last N xs f = first_in (λ c. SheetRefusal y c (suc k) 0) (tests y t k last N xs) (wrong_letter, (too_many, (wrong_field, tt))) f
letter_number y t k last A xs f = first_in (λ c. SheetRefusal y c (suc k) 0) (tests y t k last A xs) (wrong_letter, (too_many, (wrong_field, tt))) f
letter_number y t k last O xs f = first_in (λ c. SheetRefusal y c (suc k) 0) (tests y t k last O xs) (wrong_letter, (too_many, (wrong_field, tt))) f
letter_number y t k last R xs f = first_in (λ c. SheetRefusal y c (suc k) 0) (tests y t k last R xs) (wrong_letter, (too_many, (wrong_field, tt))) f
letter_number y t k last W xs f = wish_number y t k last xs f
letter_number y t k last Z xs f = first_in (λ c. SheetRefusal y c (suc k) 0) (tests y t k last Z xs) (wrong_letter, (wrong_field, (wrong_count, tt))) f

-- 2 is the number of a line that stops, and all others are of well-formed ones
tests_number : (y : Layout) (t : Sheet) (k : ℕ) (last : Bool) (s : List ℕ) → length s ≡ line_size (field_count y) → {m column : ℕ} → First m (tests_of y t k last (line_of (field_count y) s)) → Column (field_count y) s column → SheetRefusal y m (suc k) column
tests_number y t k last s l f w = go (line_of n s) refl f w
  where
    n : ℕ
    n = field_count y

    stop : {c : ℕ} → line_of n s ≡ none → Column n s c → SheetRefusal y 2 (suc k) c
    stop e (stopped {c} h) = within c (stops_within n s c h)
      where
        within : (c : ℕ) → (1 ≤ c) × (c ≤ length s) → SheetRefusal y 2 (suc k) c
        within zero (a, b) = absurd (omega arith)
        within (suc c) (a, b) = malformed {y = y} {c = c} (omega arith)
    stop e (well_formed x h) = absurd (none-ne-some x (sym e ∙ (line_iff n s x).1 h))

    go : {m c : ℕ} (o : Option Line) → line_of n s ≡ o → First m (tests_of y t k last o) → Column n s c → SheetRefusal y m (suc k) c
    go none e here w = stop e w
    go {c} (some x) e f w =
        let z : c ≡ 0 = sym (column_is n s c w) ∙ column_is n s 0 (well_formed x ((line_iff n s x).0 e)) in
        rw z (letter_number y t k last x.letter x.fields f)

pub cause_number : (y : Layout) (s : List ℕ) {c place column : ℕ} → Cause y s c place column → SheetRefusal y c place column
unfolding tests_at line_at
cause_number y s (size h) = wrong_length
cause_number y s (line k h l p f w) = tests_number y (before y s k) k (eqb (suc k) (line_count (field_count y) s)) (bytes_at (field_count y) s k) (whole_line y s k l) f w

-- 1 to 7 and 14, none of which is a job's own
pub figures_within : {y : Layout} {c place column : ℕ} → SheetRefusal y c place column → (1 ≤ c) × (8 ≤ c → c ≡ 14) × (c ≤ 14) × (column ≤ line_size (field_count y))
figures_within wrong_length = (omega arith, λ h. absurd (omega arith), omega arith, omega arith)
figures_within (malformed h) = (omega arith, λ h. absurd (omega arith), omega arith, omega arith)
figures_within wrong_letter = (omega arith, λ h. absurd (omega arith), omega arith, omega arith)
figures_within out_of_range = (omega arith, λ h. absurd (omega arith), omega arith, omega arith)
figures_within too_many = (omega arith, λ h. absurd (omega arith), omega arith, omega arith)
figures_within wrong_field = (omega arith, λ h. absurd (omega arith), omega arith, omega arith)
figures_within wrong_count = (omega arith, λ h. absurd (omega arith), omega arith, omega arith)
figures_within wrong_weight = (omega arith, λ h. refl, omega arith, omega arith)
