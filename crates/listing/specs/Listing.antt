-- What a listing has, row by row. Assumes nothing.
use Rattle.std.specs.Prelude.{ℕ, ◌+◌, List, [], ◌∷◌, ◌++◌, length, Option, Some, None}
use Rattle.scope.specs.Program.{Row, row, each, pattern_row, plan_rows, ended}
use Rattle.circuit.specs.declared.planned.Planned.{Planned}
use Rattle.listing.specs.declared.head.Head.{Head}

-- the switches and wishes, if a plan was found, and how many rows they take
abbrev pub plan_rows_of : Option Planned → List Row
plan_rows_of None = []
plan_rows_of (Some f) = plan_rows f.sheet.now f.plan.0

abbrev pub plan_count : Option Planned → ℕ
plan_count None = 0
plan_count (Some f) = f.sheet.now.switches + length f.sheet.now.wishes

-- A, the plan's rows, the patterns and Z
abbrev pub listing_rows : Head → Option Planned → List ℕ → List Row
listing_rows h f list = ended (row "A" h.number h.place h.figure ∷ plan_rows_of f ++ each pattern_row 1 list)

abbrev pub row_count : Option Planned → List ℕ → ℕ
row_count f list = 2 + plan_count f + length list
