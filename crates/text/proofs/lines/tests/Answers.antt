-- The tests in their order: the first that is not met stops.
use Rattle.std.proofs.Common.{refl, [], ◌∷◌}
use Rattle.words.specs.declared.refusal.Refusal.TheVariants.{Fields}
use Rattle.scanner.specs.Laws.Tokens.{handed_on}
use Rattle.text.specs.Laws.Lines.{last_test, test_stops, test_met}
use Rattle.text.proofs.lines.tests.Goals as goal

pub returns-in_err-require : goal.returns-in_err-require
returns-in_err-require c = rw (handed_on _ c.from_residual.ensures.1) (test_stops 5 c.args.room _ _ _ refl c.in_err-require.ensures)

pub returns : goal.returns
returns c = test_met 5 c.args.room ((6, c.args.known) ∷ []) _ _ c.in_ok-require.ensures _ (rw c.require-2.ensures (last_test 6 c.args.known Fields refl))
