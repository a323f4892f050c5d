-- No pattern is too high, so the best plan over the patterns gives the figures.
use Rattle.std.proofs.Common.{◌≡◌, ◌^◌, refl, sym, ap, ◌∙◌}
use Rattle.std.proofs.Math.Option.{none}
use Rattle.scope.specs.Causes.{accepted}
use Rattle.scope.specs.Meaning.{patterns}
use Rattle.scope.specs.Jobs.{first_high}
use Rattle.jobs.specs.Laws.Jobs.{short_low}
use Rattle.jobs.proofs.answer.short_run.Goals as goal

pub returns : goal.returns
returns c =
    let t = c.args.sheet.now in
    let l = c.args.patterns.now in
    let n : c.power.result ≡ patterns t = c.power.ensures ∙ ap (λ k. 2 ^ k.faults) c.counts.ensures.counts in
    let h : first_high (patterns t) 1 l ≡ none = sym (c.in_default.ensures.first ∙ ap (λ m. first_high m 1 l) n) in
    c.best.ensures ∙ sym (short_low (accepted t) t refl l c.best_plan.result h c.best_plan.ensures.0 c.best_plan.ensures.1)
