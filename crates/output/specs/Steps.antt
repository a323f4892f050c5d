-- What steps of the code give: in no promise of an exported call. Assumes nothing.
use Rattle.std.specs.Prelude.{◌<◌, ◌≡◌}
use Rattle.scope.specs.Jobs.{Result}
use Rattle.scope.specs.Program.{third}
use Rattle.listing.specs.declared.head.Head.{Head}
use Rattle.listing.specs.Rows.{field_end}

-- the figures of the A line fit their fields
pub record Printable (r : Result) : Type 0 where
  pub number : r.number < field_end
  pub place : r.place < field_end
  pub figure : third r < field_end

-- and stand in it
pub record Heads (r : Result) (h : Head) : Type 0 where
  pub number : h.number ≡ r.number
  pub place : h.place ≡ r.place
  pub figure : h.figure ≡ third r
