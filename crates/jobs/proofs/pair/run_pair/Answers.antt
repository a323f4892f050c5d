-- Each call gives its job's result, the last two over the words listed and over the first of them, and demand 3 follows.
use Rattle.std.proofs.Common.{take, ap, ◌∙◌}
use Rattle.std.proofs.lemmas.List.{take_min}
use Rattle.scope.specs.Causes.{accepted}
use Rattle.scope.specs.Jobs.{short_of}
use Rattle.jobs.specs.Laws.Pairs.{pair_runs}
use Rattle.jobs.proofs.pair.run_pair.Goals as goal

pub returns : goal.returns
returns c =
    let r = accepted c.args.sheet.now in
    let full = c.answer-full.result in
    let listed = take full.length c.answer-full.new.list in
    pair_runs r c.args.list.now c.answer-full.new.list c.args.j full c.short_run-short.result c.short_run-front.result c.answer-full.ensures.answer c.short_run-short.ensures
    (c.short_run-front.ensures ∙ ap (λ m. short_of r (take m listed)) c.min.ensures ∙ ap (short_of r) (take_min c.args.j listed))
