-- One turn of the loop over the lines. Assumes nothing.
use Rattle.std.specs.Prelude.{ℕ, zero, suc, ◌+◌, ◌*◌, ◌≤◌, ◌<◌, Bool, true, false, cond, not, List, [], ◌++◌, ◌≡◌, refl, eqb, leb, length, take, drop, Result, Ok, Err}
use Rattle.std.proofs.Common.{add-one, suc-mul, arith, sym, ap, ◌∙◌, leb-true, leb-false, eqb-true, length-drop, length-append, take_at, drop_at}
use Rattle.std.proofs.Math.Nat.{add-mul, le-div_iff_mul-le, div-lt_iff_lt-mul}
use Rattle.std.proofs.Math.Seq.{drop-drop}
use Rattle.std.proofs.Math.Option.{some, get_or}
use Rattle.scope.specs.Sheet.{Number, Sheet, Layout, plain, weighted, field_count, Letter, H, N, A, O, R, W, Z, Valid}
use Rattle.scope.specs.Causes.{tests, started, length_ok, line_size, line_count, bytes_at, Met, First, accepted, refused}
use Rattle.scope.specs.Sheets.{SheetRead}
use Rattle.scope.specs.Reading.{line_of, column_of, line_at, column_at, tests_at, read}
use Rattle.scope.specs.Words.{words_of, held}
use Rattle.scope.proofs.Claims.{words_hold}
use Rattle.scope.proofs.Laws.Scans.{before, Passed, size as wrong_size, line}
use Rattle.scope.proofs.Laws.Tests.{both, up_to_lem}
use Rattle.scope.proofs.Laws.Refusals.{cause_refuses, column_of_lem, no_cause_accepts}
use Rattle.scope.proofs.Laws.Inverse.{read_iff}
use Rattle.scope.proofs.Laws.SheetReads.{sheet_iff}
use Rattle.words.specs.Entries.{counts_at, counts_from, Kept}
use Rattle.words.specs.Refusals.{number_of}
use Rattle.words.specs.Laws.Sheets.{counts_words}
use Rattle.words.specs.declared.counts.Counts.{Counts}
use Rattle.words.specs.declared.refusal.Cause.{Cause}
use Rattle.line.specs.Lines.{layout_of, line_from}
use Rattle.line.specs.declared.line.Line.{Line}
use Rattle.causes.specs.Counts.{Few}
use Rattle.causes.specs.Laws.Bounds.{Bounds, before_bounds}
use Rattle.sheet.specs.Steps.{SuitsAs, Suits, Suited, Takes, LineTold}

-- ---- the layouts of the code's lines

abbrev pub Fields : ℕ → Type 0
Fields n = (3 ≤ n) × (n ≤ 4)

count_is : (n : ℕ) → Fields n → field_count (layout_of n) ≡ n
count_is n (l, m) = go (leb n 3) refl
  where
    go : (b : Bool) → leb n 3 ≡ b → field_count (cond b plain weighted) ≡ n
    go true e = omega (arith, leb-true n 3 e)
    go false e = omega (arith, leb-false n 3 e)

-- ---- what a line that passes finds

-- no entries are held before the first line
none_before : (y : Layout) (k : ℕ) (s : List ℕ) → k ≡ 0 → ((before y s k).gates ≡ []) × ((before y s k).rules ≡ []) × ((before y s k).wishes ≡ [])
unfolding before
none_before y zero s e = (refl, refl, refl)
none_before y (suc k) s e = absurd (omega arith)

module _ (y : Layout) (t : Sheet) (k : ℕ) (last : Bool) (z : k ≡ 0 → (t.gates ≡ []) × (t.rules ≡ []) × (t.wishes ≡ [])) (b : Bounds t) where
  suits-as : (l : Letter) (xs : List Number) → Met (tests y t k last l xs) → SuitsAs t l xs
  unfolding tests
  suits-as H xs (e, _) = z (eqb-true k 0 (both (eqb k 0) (not last) e).0)
  suits-as N xs m = tt
  suits-as A xs m = tt
  suits-as O xs m = tt
  suits-as R xs m = tt
  suits-as W xs (_, (_, (e, _))) = record { switches = t.switches; few = b.switches; right = e }
  suits-as Z xs m = tt

-- (`passed` is of a turn, and the scope has one of the same name of the cause's line.)
-- ---- the lines before line k pass, and the words are those of what they say

pub record Reached (n : ℕ) (s : List ℕ) (k : ℕ) (u : List ℕ) : Type 0 where
  pub within : k ≤ line_count n s
  pub kept : Kept (before (layout_of n) s k) u
  pub passed : (j : ℕ) → j < k → Passed (layout_of n) s j

module _ (n k : ℕ) (s u : List ℕ) (h : Reached n s k u) where
  bounds : Bounds (before (layout_of n) s k)
  bounds = before_bounds (layout_of n) s k h.passed

  words : u ≡ words_of (before (layout_of n) s k)
  words = h.kept (record { gates = bounds.gates; rules = bounds.rules; wishes = bounds.wishes })

  counted : counts_at u ≡ counts_from (before (layout_of n) s k)
  counted = ap counts_at words ∙ counts_words (before (layout_of n) s k)

-- and the lines from line k on are left, `size` bytes each
pub record Reading (n : ℕ) (s : List ℕ) (size : ℕ) (rest : List ℕ) (k : ℕ) (u : List ℕ) : Type 0 where
  pub same : field_count (layout_of n) ≡ n
  pub right : length_ok n (length s) ≡ true
  pub size_is : size ≡ line_size n
  pub rest_is : rest ≡ drop (k * line_size n) s
  pub reached : Reached n s k u

pub begun : (n size : ℕ) (s u : List ℕ) → Fields n → length_ok n (length s) ≡ true → size ≡ line_size n → u ≡ words_of (started 0 0) → Reading n s size s 0 u
unfolding before
begun n size s u w l e f =
    let z : 0 * line_size n ≡ 0 = omega arith in
    record { same = count_is n w; right = l; size_is = e; rest_is = ap (λ j. drop j s) (sym z); reached = record { within = omega arith; kept = λ _. f; passed = λ j h. absurd (omega arith) } }

module _ (n k size : ℕ) (s rest u : List ℕ) (r : Reading n s size rest k u) where
  abbrev y : Layout
  y = layout_of n

  abbrev t : Sheet
  t = before y s k

  abbrev L : ℕ
  L = line_size n

  -- the counts of the words are those of what the lines before say
  module _ (c : Counts) (e : c ≡ counts_at u) where
    said : c ≡ counts_from t
    said = e ∙ counted n k s u r.reached

    pub few : Few c
    few = let b : Bounds t = bounds n k s u r.reached in rw said (record { switches = b.switches; faults = b.faults; gates = b.gates })

    -- one line more
    module _ (bytes left : List ℕ) (f : rest ≡ bytes ++ left) (l : length bytes ≡ size) where
      cut : drop (k * L) s ≡ bytes ++ left
      cut = sym r.rest_is ∙ f

      whole : length bytes ≡ L
      whole = l ∙ r.size_is

      here : bytes ≡ bytes_at n s k
      here = sym (take_at bytes left L whole) ∙ ap (take L) (sym cut)

      after : left ≡ drop ((k + 1) * L) s
      after =
          let next : k * L + L ≡ (k + 1) * L = omega (arith, add-mul k 1 L) in
          sym (drop_at bytes left L whole) ∙ ap (drop L) (sym cut) ∙ drop-drop L (k * L) s ∙ ap (λ j. drop j s) next

      inside : k < line_count n s
      inside =
          let room : suc k * L ≤ length s = omega (arith, suc-mul k L, length-drop (k * L) s, ap length cut, length-append bytes left, whole) in
          (le-div_iff_mul-le {k = L} {x = suc k} {y = length s} (omega arith)).1 room

      module _ (count : ℕ) (n_lines : count ≡ line_count n s) where
        abbrev last : Bool
        last = eqb (k + 1) count

        is_last_lem : last ≡ eqb (suc k) (line_count n s)
        is_last_lem = rw (n_lines, add-one k)

        -- what the code is told of it
        abbrev Told : Result (Line n) Cause → Type 0
        Told q = (t : Sheet) → c ≡ counts_from t → LineTold n bytes t k last q

        pub turned_down : (x : Cause) → Told (Err x) → SheetRead y s (refused (number_of x.refusal) x.place x.column)
        unfolding tests_at line_at column_at
        turned_down x told =
            let (unmet, p, q) = told t said in
            let f : First (number_of x.refusal) (tests_at y s t k) = rw (r.same, ← is_last_lem, ← here) unmet in
            let z : x.column ≡ column_at y s k = rw r.same (q ∙ ap (λ b. get_or (column_of n b) 0) here) in
            (sheet_iff y s (refused (number_of x.refusal) x.place x.column)).0 (rw (p, z) (cause_refuses y s (line k (rw r.same r.right) (rw r.same inside) r.reached.passed f (column_of_lem y s k (rw r.same inside)))))

        module _ (m : Line n) (told : Told (Ok m)) where
          read_as : line_at y s k ≡ some (line_from m)
          unfolding line_at
          read_as = rw r.same (ap (line_of n) (sym here) ∙ (told t said).0)

          passes : Passed y s k
          unfolding tests_at
          passes = rw (read_as, r.same, ← is_last_lem) (told t said).1

          suits : Suits t (line_from m)
          suits = suits-as y t k last (none_before y k s) (bounds n k s u r.reached) (line_from m).letter (line_from m).fields (told t said).1

          pub suited : Suited (line_from m)
          suited = (t, suits)

          pub reading : (v : List ℕ) → Takes y (line_from m) u v → Reading n s size left (k + 1) v
          unfolding before
          reading v g = record {
            same = r.same;
            right = r.right;
            size_is = r.size_is;
            rest_is = after;
            reached = rw add-one (record { within = inside; kept = rw read_as (g t suits r.reached.kept); passed = up_to_lem k r.reached.passed passes });
          }

  -- no line is left: what they say is valid, and the words hold it
  module _ (short : length rest < size) where
    all : k ≡ line_count (field_count y) s
    all =
        let f : length s < suc k * L = omega (arith, suc-mul k L, length-drop (k * L) s, ap length r.rest_is, r.size_is) in
        let g : line_count n s < suc k = (div-lt_iff_lt-mul {k = L} {x = length s} {y = suc k} (omega arith)).1 f in
        rw r.same (omega (arith, r.reached.within))

    accepts : read y s ≡ accepted t
    accepts = rw all (no_cause_accepts y s record { size = rw r.same r.right; lines = λ j g. r.reached.passed j (omega (arith, all)) })

    valid : Valid t
    valid = ((read_iff y s t).0 accepts).1

    holds : held u ≡ t
    holds = ap held (words n k s u r.reached) ∙ words_hold t valid

    pub held_valid : Valid (held u)
    held_valid = rw holds valid

    pub held_words : u ≡ words_of (held u)
    held_words = words n k s u r.reached ∙ ap words_of (sym holds)

    pub taken_in : SheetRead y s (accepted (held u))
    taken_in = rw holds ((sheet_iff y s (accepted t)).0 accepts)

-- ---- the length

pub wrong-length : (n : ℕ) (s : List ℕ) → Fields n → length_ok n (length s) ≡ false → SheetRead (layout_of n) s (refused 1 0 0)
wrong-length n s w e = (sheet_iff (layout_of n) s (refused 1 0 0)).0 (cause_refuses (layout_of n) s (wrong_size (rw (count_is n w) e)))
