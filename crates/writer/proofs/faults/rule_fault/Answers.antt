-- Beyond the limit nothing else is tested; below it the fields are.
use Rattle.std.proofs.Common.{[], ◌∷◌, ◌+◌, ap, ap₂, ◌∙◌}
use Rattle.scope.specs.Sheet.{plus}
use Rattle.scope.specs.Causes.{point}
use Rattle.words.specs.declared.refusal.Refusal.TheVariants.{Fields}
use Rattle.writer.specs.Laws.Passed.{entry_over, entry_within, last}
use Rattle.writer.proofs.faults.rule_fault.Goals as goal

pub returns-in_err-require : goal.returns-in_err-require
returns-in_err-require c = entry_over _ ((6, _) ∷ []) _ c.require.ensures c.in_err-require.was c.from_residual.ensures.1

pub returns : goal.returns
returns c = entry_within _ ((6, _) ∷ []) _ c.require.ensures c.in_ok-require.was (last Fields _ _ _ c.require-2.ensures (c.is_point.ensures ∙ ap₂ point (c.points.ensures ∙ ap (λ k. k.switches + k.faults + k.gates) c.counts_of.ensures) (c.from-point.ensures ∙ ap plus c.rule_at.ensures)))
