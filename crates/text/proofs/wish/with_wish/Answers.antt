-- The line's tests come out as those of the definition: first those that a rule has too, and then that of the weight.
use Rattle.std.proofs.Common.{List, ◌∷◌, [], ltb, refl, subst}
use Rattle.scope.specs.Sheet.{plus, most_wishes}
use Rattle.scope.specs.Causes.{Test, is_weight}
use Rattle.words.specs.Refusals.{Tested}
use Rattle.words.specs.declared.refusal.Refusal.TheVariants.{Weight}
use Rattle.text.specs.Lines.{room_tests}
use Rattle.text.specs.Laws.Lines.{last_test, tests_and}
use Rattle.text.proofs.wish.with_wish.Goals as goal

pub returns : goal.returns
returns c =
    let a = c.args in
    let first : List Test = room_tests (ltb a.l.wishes most_wishes) a.known in
    let last : List Test = (14, is_weight (plus a.weight.value)) ∷ [] in
    let met = subst (λ b. Tested ((14, b) ∷ []) c.require-weighs.result) c.is_weight.ensures (rw (← c.require-weighs.ensures) at (last_test 14 c.is_weight.result Weight refl)) in
    record { at = refl; gates = refl; rules = refl; wishes = refl; fault = λ rss h e. c.fault_with.ensures rss _ h (rw c.and-tested.ensures (tests_and first last _ _ c.tests.ensures met)) e }
