-- The two counts are tested as the numbers that they would be on their line.
use Rattle.std.proofs.Common.{◌&&◌, ap, ap₂, ◌∙◌}
use Rattle.scope.specs.Sheet.{most_switches, most_faults, plus}
use Rattle.scope.specs.Causes.{up_to}
use Rattle.writer.specs.Laws.Passed.{by_range}
use Rattle.writer.proofs.faults.head_fault.Goals as goal

pub returns : goal.returns
returns c =
    let e = c.is_head.ensures ∙ ap₂ (λ x y. up_to most_switches x && up_to most_faults y) c.from.ensures c.from-2.ensures ∙ ap (λ k. up_to most_switches (plus k.switches) && up_to most_faults (plus k.faults)) c.counts_of-c.ensures in
    rw (c.require.ensures, e) (by_range _)
