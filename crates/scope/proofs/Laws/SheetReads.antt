-- Reading a sheet by computing gives what SheetRead says of it, and nothing else. Assumes nothing.
use Prim.Native.Nat.{ℕ, zero, suc, ◌<◌}
use Rattle.std.proofs.Common.{arith, ◌∙◌}
use Rattle.std.specs.Prelude.{List, ◌↔◌}
use Rattle.std.proofs.Math.Option.{Option, none, some}
use Rattle.std.proofs.Math.Path.{◌≡◌, refl, sym, ap, subst}
use Rattle.scope.specs.Sheet.{Line, Sheet, Layout, field_count}
use Rattle.scope.specs.Causes.{Met, First, here, make, Read, accepted, refused, bytes_at, is_last}
use Rattle.scope.specs.Sheets.{Printed, Stops, Said, SheetRead, SheetRefusal}
use Rattle.scope.specs.Sheets as sheets
use Rattle.scope.specs.Reading.{line_of, tests_of, add, line_at, tests_at, read}
use Rattle.scope.proofs.Laws.Tests.{clash, up_to_lem}
use Rattle.scope.proofs.Laws.Lines.{line_iff}
use Rattle.scope.proofs.Laws.Scans.{Column, stopped, well_formed, before, Passed, Cause, size, line}
use Rattle.scope.proofs.Laws.Beginnings.{stops_within, column_is}
use Rattle.scope.proofs.Laws.Refusals.{refused_iff, cause_refuses, cause_number}
use Rattle.scope.proofs.Laws.Inverse.{read_iff}

module _ (y : Layout) (s : List ℕ) where
  abbrev n : ℕ
  n = field_count y

  -- a line that is printed is the one that is computed
  line_computed : (k : ℕ) (l : Line) → Printed n (bytes_at n s k) l → line_at y s k ≡ some l
  unfolding line_at
  line_computed k l p = (line_iff n (bytes_at n s k) l).1 p

  -- ---- from what is computed to what is said

  said : (k : ℕ) → ((j : ℕ) → j < k → Passed y s j) → Said y s k (before y s k)
  unfolding before line_at tests_at
  said zero p = sheets.nothing
  said (suc k) p = go (line_of n (bytes_at n s k)) refl (p k (omega arith)) (said k (λ j h. p j (omega arith)))
    where
      go : (o : Option Line) → line_of n (bytes_at n s k) ≡ o → Met (tests_of y (before y s k) k (is_last n s k) o) → Said y s k (before y s k) → Said y s (suc k) (add y (before y s k) o)
      go none e m r = clash m.0 refl
      go (some l) e m r = sheets.more l r ((line_iff n (bytes_at n s k) l).0 e) m

  cause_read : {c place column : ℕ} → Cause y s c place column → SheetRead y s (refused c place column)
  unfolding line_at tests_at
  cause_read (size h) = sheets.wrong_length h
  cause_read (line {c} {column} k h l p f w) = go (line_of n (bytes_at n s k)) refl f w
    where
      go : {c column : ℕ} (o : Option Line) → line_of n (bytes_at n s k) ≡ o → First c (tests_of y (before y s k) k (is_last n s k) o) → Column n (bytes_at n s k) column → SheetRead y s (refused c (suc k) column)
      go none e here (stopped w) = sheets.malformed h l (said k p) w
      go none e here (well_formed x w) = let z : none ≡ some x = sym e ∙ (line_iff n (bytes_at n s k) x).1 w in let y : ◌≡◌ {A = ℕ} 0 1 = cc in absurd (omega arith)
      go {c} {column} (some x) e f w =
          let x-printed : Printed n (bytes_at n s k) x = (line_iff n (bytes_at n s k) x).0 e in
          let z : 0 ≡ column = sym (column_is n (bytes_at n s k) 0 (well_formed x x-printed)) ∙ column_is n (bytes_at n s k) column w in
          subst (λ i. SheetRead y s (refused c (suc k) i)) z (sheets.at_fault x h l (said k p) x-printed f)

  -- ---- and back

  record Computed (k : ℕ) (t : Sheet) : Type 0 where
    same : t ≡ before y s k
    passed : (j : ℕ) → j < k → Passed y s j

  computed : {k : ℕ} {t : Sheet} → Said y s k t → Computed k t
  unfolding before tests_at
  computed sheets.nothing = record { same = refl; passed = λ j h. absurd (omega arith) }
  computed (sheets.more {k} {t} l r p m) =
      let c : Computed k t = computed r in
      let e : line_at y s k ≡ some l = line_computed k l p in
      record {
        same = ap (λ u. make y u l.letter l.fields) c.same ∙ sym (ap (add y (before y s k)) e);
        passed = up_to_lem k c.passed (rw (e, ← c.same) m);
      }

  -- a line that stops is no well-formed one
  stops_none : (k c : ℕ) → Stops n (bytes_at n s k) c → line_at y s k ≡ none
  unfolding line_at
  stops_none k c w = go (line_of n (bytes_at n s k)) refl
    where
      go : (o : Option Line) → line_of n (bytes_at n s k) ≡ o → o ≡ none
      go none e = refl
      go (some l) e =
          let z : 0 ≡ c = sym (column_is n (bytes_at n s k) 0 (well_formed l ((line_iff n (bytes_at n s k) l).0 e))) ∙ column_is n (bytes_at n s k) c (stopped w) in
          absurd (omega (arith, (stops_within n (bytes_at n s k) c w).0))

  read_cause : {c place column : ℕ} → SheetRead y s (refused c place column) → Cause y s c place column
  unfolding tests_at
  read_cause (sheets.wrong_length h) = size h
  read_cause (sheets.malformed {k} {column} {t} h l r w) = line {c = 2} k h l (computed r).passed (rw (stops_none k column w) here) (stopped w)
  read_cause (sheets.at_fault {k} {c} x h l r p f) = line {c = c} k h l (computed r).passed (rw (line_computed k x p, ← (computed r).same) f) (well_formed x p)

-- ---- the whole

pub sheet_iff : (y : Layout) (s : List ℕ) (r : Read) → (read y s ≡ r) ↔ SheetRead y s r
sheet_iff y s r = (told r, back r)
  where
    told : (r : Read) → read y s ≡ r → SheetRead y s r
    told (accepted t) e = let (b, v, w) = (read_iff y s t).0 e in sheets.accepted b v w
    told (refused c place column) e = cause_read y s ((refused_iff y s c place column).0 e)

    back : (r : Read) → SheetRead y s r → read y s ≡ r
    back (accepted t) (sheets.accepted b v w) = (read_iff y s t).1 (b, v, w)
    back (refused c place column) h = cause_refuses y s (read_cause y s h)

pub refusal_number : (y : Layout) (s : List ℕ) {c place column : ℕ} → SheetRead y s (refused c place column) → SheetRefusal y c place column
refusal_number y s h = cause_number y s (read_cause y s h)
