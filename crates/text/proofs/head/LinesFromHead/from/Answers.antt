-- The faults of the two lines go through `first_of` one after the other, from none.
use Rattle.std.proofs.Common.{refl}
use Rattle.text.specs.Laws.Lines.{head_fault}
use Rattle.text.proofs.head.LinesFromHead.from.Goals as goal

pub returns : goal.returns
returns c = record {
  at = refl;
  gates = refl;
  rules = refl;
  wishes = refl;
  fault = head_fault _ _ _ _ (rw c.require.ensures at c.first_of-first.ensures) (rw c.require-2.ensures at c.first_of-fault.ensures);
}
