-- Where the byte that is looked at is the one asked for, one more is counted; where it is not, or the word has ended, no more are.
use Rattle.std.proofs.Common.{◌≡◌, sym, ◌∙◌, ◌+◌, arith, get_or, eqb-true}
use Rattle.std.proofs.lemmas.Bool.{eqb-false}
use Rattle.scanner.specs.Look.{look}
use Rattle.scanner.specs.Laws.Walks.{stands, standing_on, standing_off, standing_end}
use Rattle.scanner.proofs.reader.same_bytes.Goals as goal

pub returns-clause-value : goal.returns-clause-value
returns-clause-value c =
    let a = c.args in
    let l = c.loop-i in
    omega (arith, standing_end a.text.now a.word.now a.at l.i c.loop-i-test.false)

pub loop-i-preserved : goal.loop-i-preserved
loop-i-preserved c =
    let a = c.args in
    let l = c.loop-i in
    let b = c.type_inv.word l.i in
    let e : look a.text.now (a.at + l.i) ≡ get_or a.word.now l.i 0 = eqb-true _ _ (sym c.next_is.ensures ∙ c.if-not-next_is.false) in
    (omega (arith, standing_on a.text.now a.word.now a.at l.i c.loop-i-test.true (omega arith) e), omega (arith, stands a.text.now (a.at + l.i) (omega arith)))

pub returns-then-not-next_is-clause-value : goal.returns-then-not-next_is-clause-value
returns-then-not-next_is-clause-value c =
    let a = c.args in
    let l = c.loop-i in
    omega (arith, standing_off a.text.now a.word.now a.at l.i c.loop-i-test.true (eqb-false _ _ (sym c.next_is.ensures ∙ c.if-not-next_is.true)))
