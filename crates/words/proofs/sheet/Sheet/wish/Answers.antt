-- The literals that the codes of a wish's words stand for are those of the wish, as none stands behind a code 0.
use Rattle.std.proofs.Common.{◌<◌, arith, sym, ap, ◌∙◌, rules, tests}
use Rattle.std.specs.Prelude.{[], ◌∷◌, None}
use Rattle.scope.specs.Sheet.{wish as wishOf}
use Rattle.scope.specs.Words.{word}
use Rattle.words.specs.Entries.{wish_of_words}
use Rattle.words.specs.Laws.Held.{held_wishes, held_wish, wish_allowed}
use Rattle.words.specs.Laws.Literals.{clause_mapped}
use Rattle.words.proofs.sheet.Sheet.wish.Goals as goal

pub returns : goal.returns
returns c =
    let s = c.self.inside.words.now in
    let i = c.args.i in
    let w = c.wish_at.result in
    let n : i < word s 4 = omega (arith, rw (← c.self.view_is) at c.requires, held_wishes s) in
    let v = rw (← c.wish_at.ensures) at (wish_allowed s c.self.invariant i n) in
    rw (← c.self.view_is) (ap (λ k. wishOf k (word w 3)) (clause_mapped (word s 0) (word w 0 ∷ word w 1 ∷ word w 2 ∷ []) c.map.result (search rules) c.map.ensures.items.long (λ k h. let e = c.map.ensures.items.at k 0 None h in search (rules, tests)) v.literals) ∙ ap wish_of_words c.wish_at.ensures ∙ sym (held_wish s i n))
