-- What the lines so far say is within the limits. Assumes nothing.
use Rattle.std.specs.Prelude.{ℕ, zero, suc, ◌≤◌, ◌<◌, Bool, List, [], ◌∷◌, ◌++◌, length}
use Rattle.std.proofs.Common.{arith, ltb-true}
use Rattle.std.proofs.Math.Option.{Option, none, some}
use Rattle.scope.specs.Sheet.{Number, Sheet, Layout, Letter, H, N, A, O, R, W, Z, Line, most_switches, most_faults, most_gates, most_rules, most_wishes}
use Rattle.scope.specs.Causes.{up_to, at, tests, started, make, Met}
use Rattle.scope.specs.Reading.{tests_of, add, line_at, tests_at}
use Rattle.scope.proofs.Laws.Scans.{before, Passed}
use Rattle.scope.proofs.Laws.Tests.{both}
use Rattle.scope.proofs.Laws.Lists.{length_snoc}
use Rattle.scope.proofs.Laws.Steps.{up_plus}

pub record Bounds (t : Sheet) : Type 0 where
  pub switches : t.switches ≤ most_switches
  pub faults : t.faults ≤ most_faults
  pub gates : length t.gates ≤ most_gates
  pub rules : length t.rules ≤ most_rules
  pub wishes : length t.wishes ≤ most_wishes

started_bounds : Bounds (started 0 0)
started_bounds = record { switches = omega arith; faults = omega arith; gates = omega arith; rules = omega arith; wishes = omega arith }

module _ (y : Layout) (t : Sheet) (k : ℕ) (last : Bool) (b : Bounds t) where
  still_within : {E : Type 0} (l : List E) (a : E) (m : ℕ) → length l < m → length (l ++ a ∷ []) ≤ m
  still_within l a m h = omega (arith, length_snoc l a)

  make_bounds : (c : Letter) (xs : List Number) → Met (tests y t k last c xs) → Bounds (make y t c xs)
  unfolding tests make
  make_bounds H xs (_, (e, _)) =
      let (p, q) = both (up_to most_switches (at xs 0)) (up_to most_faults (at xs 1)) e in
      record { switches = (up_plus most_switches (at xs 0) p).1; faults = (up_plus most_faults (at xs 1) q).1; gates = omega arith; rules = omega arith; wishes = omega arith }
  make_bounds N xs (_, (e, _)) = record { switches = b.switches; faults = b.faults; gates = still_within t.gates _ most_gates (ltb-true (length t.gates) most_gates e); rules = b.rules; wishes = b.wishes }
  make_bounds A xs (_, (e, _)) = record { switches = b.switches; faults = b.faults; gates = still_within t.gates _ most_gates (ltb-true (length t.gates) most_gates e); rules = b.rules; wishes = b.wishes }
  make_bounds O xs (_, (e, _)) = record { switches = b.switches; faults = b.faults; gates = still_within t.gates _ most_gates (ltb-true (length t.gates) most_gates e); rules = b.rules; wishes = b.wishes }
  make_bounds R xs (_, (e, _)) = record { switches = b.switches; faults = b.faults; gates = b.gates; rules = still_within t.rules _ most_rules (ltb-true (length t.rules) most_rules e); wishes = b.wishes }
  make_bounds W xs (_, (e, _)) = record { switches = b.switches; faults = b.faults; gates = b.gates; rules = b.rules; wishes = still_within t.wishes _ most_wishes (ltb-true (length t.wishes) most_wishes e) }
  make_bounds Z xs m = b

  add_bounds : (o : Option Line) → Met (tests_of y t k last o) → Bounds (add y t o)
  add_bounds none m = b
  add_bounds (some l) m = make_bounds l.letter l.fields m

module _ (y : Layout) (s : List ℕ) where
  pub before_bounds : (k : ℕ) → ((j : ℕ) → j < k → Passed y s j) → Bounds (before y s k)
  unfolding before tests_at
  before_bounds zero p = started_bounds
  before_bounds (suc k) p = add_bounds y (before y s k) k _ (before_bounds k (λ j h. p j (omega arith))) (line_at y s k) (p k (omega arith))
