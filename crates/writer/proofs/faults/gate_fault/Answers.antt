-- Beyond the limit nothing else is tested; below it words that are no gate's name no point, and those of a gate what it names.
use Rattle.std.specs.Prelude.{false, [], ◌∷◌, Err}
use Rattle.std.proofs.Common.{refl, sym, ap, ◌∙◌, rules, ◌+◌}
use Rattle.std.proofs.lemmas.Result.{err_from_is_err_and}
use Rattle.scope.specs.Words.{word}
use Rattle.words.specs.Entries.{gate_of_words}
use Rattle.words.specs.Laws.Held.{gate_is, gate_none}
use Rattle.writer.specs.Tested.{named}
use Rattle.writer.specs.Laws.Words.{nothing_named}
use Rattle.words.specs.declared.refusal.Refusal.TheVariants.{Fields}
use Rattle.writer.specs.Laws.Passed.{entry_over, entry_within, last}
use Rattle.writer.proofs.faults.gate_fault.Goals as goal

pub returns-in_err-require : goal.returns-in_err-require
returns-in_err-require c = entry_over _ ((6, _) ∷ []) _ c.require.ensures c.in_err-require.was c.from_residual.ensures.1

pub returns-in_err-gate : goal.returns-in_err-gate
returns-in_err-gate c =
    let u = c.args.words.now in
    let m = word u 0 + word u 1 + c.args.i in
    let p = err_from_is_err_and c.from_residual-in_err-gate.result c.from_residual-in_err-gate.ensures.1 in
    let none = rw c.gate_words.ensures at (gate_none c.gate_words.result (search rules) c.in_err-gate.ensures.1) in
    entry_within _ ((6, _) ∷ []) _ c.require.ensures c.in_ok-require.was (last Fields _ false _ (p.1 ∙ ap Err (p.2 ∙ c.in_err-gate.ensures.0)) (sym (ap (named m) none ∙ nothing_named m)))

pub returns : goal.returns
returns c =
    let u = c.args.words.now in
    let m = word u 0 + word u 1 + c.args.i in
    let e = gate_is _ _ c.in_ok-gate.ensures ∙ ap gate_of_words c.gate_words.ensures in
    entry_within _ ((6, _) ∷ []) _ c.require.ensures c.in_ok-require.was (last Fields _ _ _ c.require-2.ensures (rw (c.names.ensures, c.points.ensures, c.counts_of.ensures, e) refl))
