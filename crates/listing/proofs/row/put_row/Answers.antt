-- The row's bytes are those of a line of its numbers.
use Rattle.std.proofs.Common.{ℕ, false, ◌≡◌, ◌<◌, ◌∷◌, map, get_or, arith, sym, ap₂, ◌∙◌, rules, length-take-le, ext_get_or}
use Rattle.std.proofs.Math.ListN.{get_or-map}
use Rattle.std.proofs.lemmas.List.{length-map}
use Rattle.scope.specs.Sheet.{plus, fields_bytes}
use Rattle.field.specs.Columns.{number_from}
use Rattle.field.specs.declared.Number.{Number}
use Rattle.line.specs.Lines.{numbers_from}
use Rattle.line.specs.Laws.Lines.{line_fills}
use Rattle.listing.specs.Rows.{row_size, byte_of, row_of}
use Rattle.listing.specs.Laws.Rows.{wrote_row}
use Rattle.listing.proofs.row.put_row.Goals as goal

pub returns : goal.returns
returns c =
    let xs = c.args.numbers in
    let ys = c.map.result in
    let b = c.from.ensures in
    let o : Number = record { minus = false; size = 0 } in
    let eaches : (i : ℕ) → i < 3 → number_from (get_or ys i o) ≡ plus (get_or xs i 0) = λ i h. let k = c.map.ensures.items.at i 0 o h in search rules in
    let e : numbers_from ys ≡ map plus xs = ext_get_or (plus 0) (numbers_from ys) (map plus xs) (length-map ys number_from ∙ c.map.ensures.items.long ∙ sym (length-map xs plus ∙ search rules)) (λ i h. get_or-map number_from ys i o ∙ eaches i (omega (arith, length-map ys number_from, c.map.ensures.items.long)) ∙ sym (get_or-map plus xs i 0)) in
    let m = c.put_line.auto.out ∙ length-take-le row_size c.args.out.now (omega arith) in
    let filled = line_fills _ (c.from.result ∷ fields_bytes (numbers_from ys)) _ _ c.put_line.auto.out c.put_line.ensures (omega (arith, m, c.map.ensures.items.long)) in
    wrote_row c.args.out.now c.put_line.new.out (row_of (byte_of c.args.letter) xs) (filled ∙ ap₂ (λ a xs. a ∷ fields_bytes xs) b e) m
