-- The invariant: what is held is what the walk over the first i columns holds. So those columns begin a number; where one more leaves
-- nothing no number begins so, and after all five the walk holds the number of the field.
use Rattle.std.proofs.Common.{◌≡◌, ◌-◌, take}
use Rattle.std.specs.Prelude.{Some}
use Rattle.scope.specs.Sheet.{field_size}
use Rattle.field.specs.declared.Scan.TheVariants.{Blank}
use Rattle.field.specs.Columns.{walk}
use Rattle.field.proofs.field_at.Given as goal

abbrev pub invariant-loop-i : goal.invariant-loop-i
invariant-loop-i l = Some l.scan ≡ walk (Some Blank) (take l.i l.columns) (field_size - l.i)
