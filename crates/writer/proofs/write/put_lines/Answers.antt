-- Each turn puts the next line behind those that are there.
use Rattle.std.proofs.Common.{◌∷◌, arith, sym, subst, ap, ◌∙◌}
use Rattle.scope.specs.Sheet.{line_bytes, fields_bytes}
use Rattle.scope.specs.Reading.{Fit}
use Rattle.line.specs.Lines.{layout_of, numbers_from}
use Rattle.line.specs.Laws.Lines.{line_fills}
use Rattle.writer.specs.Laws.Filled.{sized}
use Rattle.writer.specs.Laws.Printed.{few_lines, needed, need_fits, line_room, line_good, none_put, next_put, all_put}
use Rattle.writer.proofs.write.put_lines.Goals as goal

pub overflow_add-k-end : goal.overflow_add-k-end
overflow_add-k-end g c = omega (arith, few_lines (layout_of g.row.N) c.args.lines.words.now c.requires.valid)

pub loop-k-init : goal.loop-k-init
loop-k-init g c =
    let s = c.args.lines in
    let z = sized s.fields c.line_size-size.ensures in
    (omega arith, none_put (layout_of g.row.N) c.args.lines.words.now c.requires.valid _ z c.args.out.now)

pub overflow_mul-at : goal.overflow_mul-at
overflow_mul-at g c =
    let s = c.args.lines in
    let z = sized s.fields c.line_size-size.ensures in
    let u = c.args.lines.words.now in
    omega (arith, line_room (layout_of g.row.N) u c.requires.valid _ z c.loop-k.k (omega arith), needed (layout_of g.row.N) u c.requires.valid _ z, need_fits (layout_of g.row.N) u c.requires.valid _ z)

pub overflow_add-at : goal.overflow_add-at
overflow_add-at g c =
    let s = c.args.lines in
    let z = sized s.fields c.line_size-size.ensures in
    let u = s.words.now in
    omega (arith, line_room (layout_of g.row.N) u c.requires.valid _ z c.loop-k.k (omega arith), needed (layout_of g.row.N) u c.requires.valid _ z, need_fits (layout_of g.row.N) u c.requires.valid _ z)

pub slice_bounds-put_line-end : goal.slice_bounds-put_line-end
slice_bounds-put_line-end g c =
    let s = c.args.lines in
    let z = sized s.fields c.line_size-size.ensures in
    omega (arith, line_room (layout_of g.row.N) c.args.lines.words.now c.requires.valid _ z c.loop-k.k (omega arith))

pub put_line-requires-clause-fit : goal.put_line-requires-clause-fit
put_line-requires-clause-fit g c =
    let s = c.args.lines in
    let z = sized s.fields c.line_size-size.ensures in
    subst Fit (sym (ap (λ l. l.fields) c.at-line.ensures)) (line_good (layout_of g.row.N) c.args.lines.words.now c.requires.valid _ z c.loop-k.k (omega arith)).fit

pub loop-k-preserved : goal.loop-k-preserved
loop-k-preserved g c =
    let s = c.args.lines in
    let z = sized s.fields c.line_size-size.ensures in
    let l = c.at-line in
    let b = c.from.result ∷ fields_bytes (numbers_from l.result.numbers) in
    let filled = line_fills _ b _ _ c.put_line.auto.out c.put_line.ensures (omega arith) in
    let put = filled ∙ ap (λ b. b ∷ fields_bytes (numbers_from l.result.numbers)) c.from.ensures ∙ ap line_bytes l.ensures in
    (c.loop-k.invariant.0, next_put (layout_of g.row.N) c.args.lines.words.now c.requires.valid _ z c.loop-k.k _ c.loop-k.out c.put_line.new.out (omega arith) (omega arith) c.loop-k.invariant.1 (omega arith) put)

pub returns : goal.returns
returns g c =
    let s = c.args.lines in
    let z = sized s.fields c.line_size-size.ensures in
    all_put (layout_of g.row.N) c.args.lines.words.now c.requires.valid _ z c.loop-k.k c.loop-k.out (omega arith) (omega arith) c.loop-k.invariant.1
