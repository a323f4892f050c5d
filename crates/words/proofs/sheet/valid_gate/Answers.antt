-- The words of a gate of a valid sheet are its own, so they are not refused.
use Rattle.std.proofs.Common.{◌<◌, arith, refl, sym, ap, ◌∙◌, rules}
use Rattle.scope.specs.Words.{word}
use Rattle.words.specs.Entries.{gate_of_words}
use Rattle.words.specs.Laws.Held.{three_words, held_gates, held_gate, gate_kept, gate_is}
use Rattle.words.proofs.sheet.valid_gate.Goals as goal

pub unreachable-requires : goal.unreachable-requires
unreachable-requires c =
    let s = c.args.words.now in
    let i = c.args.i in
    let n : i < word s 2 = omega (arith, c.requires.listed, held_gates s) in
    let e = three_words c.gate_words.result (search rules) refl refl refl in
    c.in_default.ensures.1 (gate_of_words c.gate_words.result) (rw (← c.gate_words.ensures) at (gate_kept s c.requires.valid i n) ∙ sym e)

pub returns : goal.returns
returns c =
    let s = c.args.words.now in
    let i = c.args.i in
    let n : i < word s 2 = omega (arith, c.requires.listed, held_gates s) in
    gate_is _ _ c.in-Ok.ensures ∙ ap gate_of_words c.gate_words.ensures ∙ sym (held_gate s i n)
