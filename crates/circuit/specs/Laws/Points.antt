-- The truth of the points of a sheet, as the code goes through them. Assumes nothing.
-- A theorem that was given stays, though nothing cites it: `few_inputs`, `in_room`.
use Rattle.std.specs.Prelude.{ℕ, suc, ◌+◌, ◌-◌, ◌≤◌, ◌<◌, Bool, true, false, not, ◌≢◌, ◌≡◌, length, get_or}
use Prim.Native.Char.{code}
use Rattle.std.proofs.Common.{arith, ap, sym, ◌∙◌}
use Rattle.scope.specs.Sheet.{Gate, Sheet, most_switches, most_faults, most_gates, points, Among, Names, Valid}
use Rattle.scope.specs.Meaning.{bits, nth, gate_truth, switch_on, truth}
use Rattle.scope.specs.Words.{no_gate}
use Rattle.scope.proofs.Laws.Points.{truth_switch, truth_fault, truth_gate}
use Rattle.words.specs.declared.counts.Counts.{Counts}
use Rattle.words.specs.Entries.{counts_from}
use Rattle.circuit.specs.Laws.Gates.{kind_of, left_of, right_of, decides_of, names_at, names_left, names_right, truth_not, truth_first, truth_second}

pub few_inputs : {t : Sheet} {k : Counts} → Valid t → k ≡ counts_from t → (k.switches ≤ most_switches) × (k.faults ≤ most_faults)
few_inputs v e = rw e (v.switches, v.faults)

-- ---- switches and faults are digits; k are the counts of t
module _ (t : Sheet) {k : Counts} (counts : k ≡ counts_from t) (plan pattern p : ℕ) where
  pub at_switch : Among k.switches p → nth (bits k.switches plan) p ≡ truth t plan pattern p
  unfolding switch_on
  at_switch = rw counts (λ m. sym (truth_switch t plan pattern p m))

  pub at_fault_lem : k.switches < p → p ≤ k.switches + k.faults → nth (bits k.faults pattern) (p - k.switches) ≡ truth t plan pattern p
  at_fault_lem = rw counts (λ l m.
      let e : t.switches + (p - t.switches) ≡ p = omega arith in
      sym (ap (truth t plan pattern) (sym e) ∙ truth_fault t plan pattern (p - t.switches) (omega arith, omega arith)))

-- ---- later points are gates

-- point p of a valid sheet is the gate g
pub record IsGate (t : Sheet) (p : ℕ) (g : Gate) : Type 0 where
  pub valid : Valid t
  pub after : t.switches + t.faults < p
  pub last : p ≤ points t
  pub is : g ≡ get_or t.gates (p - (t.switches + t.faults) - 1) no_gate

pub is_gate : {t : Sheet} {k : Counts} {p : ℕ} {g : Gate} → Valid t → k ≡ counts_from t → k.switches + k.faults < p → p ≤ points t → g ≡ get_or t.gates (p - (k.switches + k.faults) - 1) no_gate → IsGate t p g
is_gate {t} {k} {p} {g} v counts = rw counts (λ a l e. record { valid = v; after = a; last = l; is = e })

module _ {t : Sheet} {p : ℕ} {g : Gate} (h : IsGate t p g) where
  abbrev i : ℕ
  i = p - (t.switches + t.faults) - 1

  listed : i < length t.gates
  listed = omega (arith, h.after, h.last)

  pub in_room : i < most_gates
  in_room = omega (arith, listed, h.valid.few_gates)

  -- it names points before its own
  pub names_before : Names (p - 1) g
  names_before =
      let n : t.switches + t.faults + i ≡ p - 1 = omega (arith, h.after) in
      rw (h.is, ← n) (names_at (t.switches + t.faults) t.gates no_gate i h.valid.gates listed)

  pub left_before : Among (p - 1) (left_of g)
  left_before = names_left (p - 1) g names_before

  pub right_before : kind_of g ≢ code "N" → Among (p - 1) (right_of g)
  right_before n = names_right (p - 1) g n names_before

  -- and is what they make it
  pub at_gate : (plan pattern : ℕ) → gate_truth (truth t plan pattern) g ≡ truth t plan pattern p
  at_gate plan pattern =
      let v : ℕ → Bool = truth t plan pattern in
      let n : t.switches + t.faults + suc i ≡ p = omega (arith, h.after) in
      ap (gate_truth v) h.is ∙ sym (truth_gate t plan pattern h.valid.gates no_gate i listed) ∙ ap v n

  -- a not by its point, and another gate by its first point where that decides, and else by its second
  module _ (plan pattern : ℕ) where
    abbrev at : ℕ → Bool
    at = truth t plan pattern

    pub at_not : (x : Bool) → kind_of g ≡ code "N" → x ≡ at (left_of g) → not x ≡ at p
    at_not x n e = truth_not at g x n e ∙ at_gate plan pattern

    pub at_first : (x : Bool) → kind_of g ≢ code "N" → decides_of (kind_of g) x ≡ true → x ≡ at (left_of g) → x ≡ at p
    at_first x n d e = truth_first at g x n d e ∙ at_gate plan pattern

    pub at_second : (x y : Bool) → kind_of g ≢ code "N" → decides_of (kind_of g) x ≡ false → x ≡ at (left_of g) → y ≡ at (right_of g) → y ≡ at p
    at_second x y n d e f = truth_second at g x y n d e f ∙ at_gate plan pattern
