-- A sheet is a source. Assumes nothing.
use Rattle.std.specs.Prelude.{ℕ, ◌%◌, ◌≤◌, true, ◌&&◌, List, ◌≡◌, eqb, leb, ltb, length}
use Rattle.std.proofs.Common.{arith, leb-true}
use Rattle.scope.specs.Sheet.{weighted, field_count}
use Rattle.scope.specs.Causes.{line_size, most_bytes, length_ok, line_count}
use Rattle.scope.specs.Reading.{read}
use Rattle.scope.proofs.Laws.Scans.{Cause, size, line}
use Rattle.scope.specs.Source.{Refusal, Source}
use Rattle.scope.proofs.Laws.Tests.{both}
use Rattle.scope.proofs.Laws.Refusals.{refused_iff, cause_number, figures_within}
use Rattle.scope.proofs.Laws.Inverse.{read_iff}

count_small : (s : List ℕ) → length_ok (field_count weighted) (length s) ≡ true → line_count (field_count weighted) s ≤ 530
count_small s e =
    let (a, r) = both (ltb 0 (length s)) (leb (length s) (most_bytes (field_count weighted)) && eqb (length s % line_size (field_count weighted)) 0) e in
    let (b, d) = both (leb (length s) (most_bytes (field_count weighted))) (eqb (length s % line_size (field_count weighted)) 0) r in
    omega (arith, leb-true (length s) (most_bytes (field_count weighted)) b)

cause_small : (s : List ℕ) {c place column : ℕ} → Cause weighted s c place column → place ≤ 530
cause_small s (size h) = omega arith
cause_small s (line k h l p f w) = omega (arith, count_small s h)

cause_refusal : (s : List ℕ) {c place column : ℕ} → Cause weighted s c place column → Refusal c place column
cause_refusal s h =
    let (low, own, high, within) = figures_within (cause_number weighted s h) in
    record { some = low; own = λ e. omega (arith, own e); number = omega arith; place = omega (arith, cause_small s h); column = omega arith }

pub sheet_source : (s : List ℕ) → Source (read weighted s)
sheet_source s = record {
  valid = λ t e. ((read_iff weighted s t).0 e).1;
  refusal = λ c place column e. cause_refusal s ((refused_iff weighted s c place column).0 e);
}
