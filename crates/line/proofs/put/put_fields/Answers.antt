-- The first i numbers stand in their columns, and each turn puts the next one behind them: in the end they fill the buffer.
use Rattle.std.proofs.Common.{arith, sym, ap, ◌∙◌, take_all}
use Rattle.std.proofs.lemmas.List.{length-map}
use Rattle.field.specs.Columns.{number_from}
use Rattle.line.specs.Lines.{numbers_from, fields_front}
use Rattle.line.proofs.Buffers.{put, put_nothing, put_whole}
use Rattle.line.proofs.Printed.{length_front, next_field, fit_at, columns_put}
use Rattle.line.proofs.put.put_fields.Goals as goal

pub loop-i-init : goal.loop-i-init
unfolding fields_front
loop-i-init c = sym (put_nothing _ _)

pub field_bytes-requires : goal.field_bytes-requires
field_bytes-requires c = fit_at _ _ c.requires.fit c.loop-i-test.true

pub loop-i-preserved : goal.loop-i-preserved
loop-i-preserved c =
    let n = length-map c.args.numbers.now number_from in
    let h = c.loop-i-test.true in
    next_field c.args.out.now 0 (numbers_from c.args.numbers.now) c.requires.fit (omega (arith, n, c.requires.whole)) c.loop-i.i c.loop-i.out _ c.loop-i.invariant (omega (arith, h, n))
    (columns_put c.args.numbers.now c.loop-i.i c.requires.fit h c.loop-i.out _ _ (omega arith) (c.put_columns.ensures ∙ c.field_bytes.ensures))

pub returns : goal.returns
returns c =
    let xs = numbers_from c.args.numbers.now in
    let n = length-map c.args.numbers.now number_from in
    let all = take_all c.loop-i.i xs (omega (arith, c.loop-i-test.false, n)) in
    c.loop-i.invariant ∙ ap (λ r. put c.args.out.now 0 (fields_front r)) all ∙ put_whole c.args.out.now (fields_front xs) (omega (arith, length_front xs c.requires.fit, n, c.requires.whole))
