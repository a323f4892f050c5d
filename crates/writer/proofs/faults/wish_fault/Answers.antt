-- Beyond the limit nothing else is tested; within it the literals are, and then the weight.
use Rattle.std.proofs.Common.{[], ◌∷◌, ap, ◌∙◌}
use Rattle.scope.specs.Sheet.{plus}
use Rattle.scope.specs.Causes.{is_weight}
use Rattle.scope.specs.Words.{word}
use Rattle.words.specs.declared.refusal.Refusal.TheVariants.{Fields, Weight}
use Rattle.writer.specs.Laws.Passed.{entry_over, entry_within, not_met, is_met, last}
use Rattle.writer.proofs.faults.wish_fault.Goals as goal

pub returns-in_err-require : goal.returns-in_err-require
returns-in_err-require c = entry_over _ ((6, _) ∷ (14, _) ∷ []) _ c.require.ensures c.in_err-require.was c.from_residual.ensures.1

pub returns-in_err-require-2 : goal.returns-in_err-require-2
returns-in_err-require-2 c =
    let e = rw (c.wish_at.ensures, c.counts_of-c.ensures) at c.is_clause.ensures in
    entry_within _ ((6, _) ∷ (14, _) ∷ []) _ c.require.ensures c.in_ok-require.was (not_met _ Fields (rw e at c.require-2.ensures) ((14, _) ∷ []) _ c.in_err-require-2.was c.from_residual-in_err-require-2.ensures.1)

pub returns : goal.returns
returns c =
    let e = rw (c.wish_at.ensures, c.counts_of-c.ensures) at c.is_clause.ensures in
    entry_within _ ((6, _) ∷ (14, _) ∷ []) _ c.require.ensures c.in_ok-require.was (is_met _ Fields (rw e at c.require-2.ensures) ((14, _) ∷ []) _ c.in_ok-require-2.was (last Weight _ _ _ c.require-3.ensures (c.is_weight.ensures ∙ ap (λ w. is_weight (plus (word w 3))) c.wish_at.ensures)))
