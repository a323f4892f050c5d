-- Lines tested from the first: those passed meet their tests, and the first that does not is where reading the tables stops. Assumes nothing.
use Rattle.std.specs.Prelude.{ℕ, zero, suc, ◌+◌, ◌≤◌, ◌<◌, Bool, true, false, cond, List, [], ◌∷◌, ◌≡◌, refl, length, get_or, take, Result, Ok, Err, IsErrAnd}
use Rattle.std.proofs.Common.{add-one, arith, sym, ◌∙◌, take-suc, take_all}
use Rattle.std.proofs.lemmas.Result.{err_from_is_err_and}
use Rattle.scope.specs.Sheet.{All, Valid}
use Rattle.scope.specs.Causes.{Test, Met, First, here, later, refused}
use Rattle.scope.specs.Texts.{FirstLine}
use Rattle.scope.specs.Texts as texts
use Rattle.scope.specs.Words.{held}
use Rattle.scope.specs.Writing.{table_tests, TablesRead, at_fault}
use Rattle.scope.proofs.Laws.Alls.{all_snoc}
use Rattle.scope.proofs.Laws.Writing.{wishes_held, passes_valid}
use Rattle.words.specs.declared.refusal.Refusal.{Refusal}
use Rattle.words.specs.declared.refusal.Refusal.TheVariants.{Order, Limit, Range}
use Rattle.words.specs.Refusals.{number_of, Tested}
use Rattle.words.specs.Laws.Tests as tests
use Rattle.writer.specs.Entries.{before_end}
use Rattle.writer.specs.Tested.{line_tests}
use Rattle.writer.specs.Laws.Tests.{length_tests}

-- ---- tests that are made one after another

-- a test that spares a refusal
abbrev test : Bool → Refusal → Result Unit Refusal
test met r = cond met (Ok tt) (Err r)

-- the test that spares x is the next: r is what it and those after it tell
module _ (met : Bool) (x : Refusal) {made : Result Unit Refusal} (is_made : made ≡ test met x) (ts : List Test) (r : Result Unit Refusal) where
  pub not_met : {e : Refusal} → made ≡ Err e → IsErrAnd r (λ d. d ≡ e) → Tested ((number_of x, met) ∷ ts) r
  not_met {e} h d =
      let p = err_from_is_err_and r d in
      rw (p.1, p.2) (go met (sym is_made ∙ h))
    where
      go : (b : Bool) → test b x ≡ Err e → Tested ((number_of x, b) ∷ ts) (Err e)
      go true h = cc
      go false h = let l : x ≡ e = cc in rw (← l) here

  pub is_met : {u : Unit {0}} → made ≡ Ok u → Tested ts r → Tested ((number_of x, met) ∷ ts) r
  is_met {u} h f = go met (sym is_made ∙ h) r f
    where
      go : (b : Bool) → test b x ≡ Ok u → (r : Result Unit Refusal) → Tested ts r → Tested ((number_of x, b) ∷ ts) r
      go true h (Ok v) f = (refl, f)
      go true h (Err e) f = later f
      go false h r f = cc

-- so of an entry: beyond the limit nothing else is tested, and within it the others are
module _ (within : Bool) (others : List Test) (r : Result Unit Refusal) {made : Result Unit Refusal} (is_made : made ≡ test within Limit) where
  in_place : Tested ((5, within) ∷ others) r → Tested ((3, true) ∷ (5, within) ∷ others) r
  in_place f = is_met true Order refl ((5, within) ∷ others) r refl f

  pub entry_over : {e : Refusal} → made ≡ Err e → IsErrAnd r (λ d. d ≡ e) → Tested ((3, true) ∷ (5, within) ∷ others) r
  entry_over h d = in_place (not_met within Limit is_made others r h d)

  pub entry_within : {u : Unit {0}} → made ≡ Ok u → Tested others r → Tested ((3, true) ∷ (5, within) ∷ others) r
  entry_within h f = in_place (is_met within Limit is_made others r h f)

-- the last test
pub last : (x : Refusal) (met ok : Bool) (r : Result Unit Refusal) → r ≡ test ok x → ok ≡ met → Tested ((number_of x, met) ∷ []) r
last x met ok r e f = tests.test [] ok met (Ok tt) r x e f tt

pub by_range : (ok : Bool) → Tested ((3, true) ∷ (4, ok) ∷ (6, true) ∷ []) (test ok Range)
by_range true = (refl, (refl, (refl, tt)))
by_range false = later here

pub no_tests : Tested [] (Ok tt)
no_tests = tt

-- ---- line after line

-- lines that meet their tests stand before the first that does not
first_line_lem : {c : ℕ} (k : ℕ) (rss : List (List Test)) → All Met (take k rss) → k < length rss → First c (get_or rss k []) → FirstLine c (suc k) rss
first_line_lem k [] m h f = absurd (omega arith)
first_line_lem zero (rs ∷ rss) m h f = texts.here f
first_line_lem (suc k) (rs ∷ rss) (m, ms) h f = texts.later m (first_line_lem k rss ms (omega arith) f)

-- the first k lines meet theirs
abbrev pub Passed : (u : List ℕ) → ℕ → Type 0
Passed u k = All Met (take k (table_tests (held u)))

module _ (u : List ℕ) where
  module _ (k : ℕ) (p : Passed u k) where
    pub all_passed : before_end u ≤ k → Valid (held u)
    all_passed h = passes_valid (held u) (wishes_held u) (rw (take_all k (table_tests (held u)) (omega (arith, length_tests u))) at p)

    module _ (h : k < before_end u) (r : Result Unit Refusal) (f : Tested (line_tests u k) r) where
      pub fault_found : {e : Refusal} → r ≡ Err e → TablesRead (held u) (refused (number_of e) (k + 1) 0)
      fault_found e = rw add-one (at_fault (first_line_lem k (table_tests (held u)) p (omega (arith, length_tests u)) (rw e at f)))

      pub next_passed : r ≡ Ok tt → Passed u (k + 1)
      next_passed e =
          let i : k < length (table_tests (held u)) = omega (arith, length_tests u) in
          rw (add-one, take-suc (table_tests (held u)) k []) (all_snoc Met (take k (table_tests (held u))) (line_tests u k) p (rw e at f))
