-- Tests as the code makes and lists them: in no promise of an exported call. Assumes nothing.
use Rattle.std.specs.Prelude.{ℕ, zero, suc, Bool, true, ◌&&◌, List, map}
use Rattle.scope.specs.Sheet.{Number}
use Rattle.scope.specs.Causes.{Test, point, at}
use Rattle.field.specs.Columns.{number_from}
use Rattle.field.specs.declared.Number as made
use Rattle.words.specs.Refusals.{number_of}
use Rattle.words.specs.declared.refusal.Refusal.{Refusal}

abbrev pub point_test : ℕ → made.Number → Bool
point_test m x = point m (number_from x)

-- whether the first k fields are points of m
abbrev pub are_points : ℕ → ℕ → List Number → Bool
are_points m zero xs = true
are_points m (suc k) xs = are_points m k xs && point m (at xs k)

-- each with the refusal that it spares
abbrev pub tests_from : List (Bool × Refusal) → List Test
tests_from ts = map (λ t. (number_of t.1, t.0)) ts
