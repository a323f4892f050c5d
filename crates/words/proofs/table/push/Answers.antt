-- Where there is room the entry takes the first free place, which lies within the words, and the count goes up.
use Rattle.std.specs.Prelude.{set}
use Rattle.std.proofs.Common.{ℕ, ◌+◌, ◌*◌, ◌≤◌, ◌≡◌, arith, ap, length, length-drop, length-take-le, lt-ltb, slice_index_or}
use Rattle.std.proofs.Math.Nat.{suc-mul, mul-le-mul_right}
use Rattle.scope.specs.Words.{word_count}
use Rattle.words.proofs.Parts.{part_sets}
use Rattle.words.proofs.table.push.Goals as goal

pub returns : goal.returns
returns g c =
    let n : ℕ = slice_index_or c.args.words.now c.args.table.count 0 in
    let at : ℕ = c.args.table.first + n * g.row.N in
    let space : at + g.row.N ≤ word_count = omega (arith, c.args.table.inside, suc-mul n g.row.N, mul-le-mul_right {m = n + 1} {n = c.args.table.most} g.row.N (omega (arith, c.if-table-n.false))) in
    let size : length c.args.entry ≡ g.row.N = omega (arith, space, c.told-words, ap length c.copy_from_slice.ensures.after, c.copy_from_slice.ensures.len, length-take-le g.row.N (Rattle.std.specs.Prelude.drop at c.args.words.now) (omega (arith, space, c.told-words, length-drop at c.args.words.now)), length-drop at c.args.words.now) in
    rw (lt-ltb n c.args.table.most (omega (arith, c.if-table-n.false))) (ap (λ s. set s c.args.table.count (n + 1)) (part_sets _ _ _ _ _ c.copy_from_slice.ensures.after (omega (arith, size)) (omega (arith, space, c.told-words))))
