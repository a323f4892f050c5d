-- A fault of an earlier line stays the first, and after none the line's own is the first, if it has one.
use Rattle.std.proofs.Common.{◌≡◌, rules}
use Rattle.std.specs.Option.{option_map}
use Rattle.std.specs.Result.{result_err}
use Rattle.words.specs.declared.refusal.Refusal.{Refusal}
use Rattle.text.specs.Laws.Lines.{fault, first_fault}
use Rattle.text.proofs.lines.first_of.Goals as goal

pub returns : goal.returns
returns c =
    let a = c.args in
    let m : c.map.result ≡ option_map (λ (e : Refusal). fault e a.line) (result_err a.tested) = search rules in
    rw (c.or.ensures, m) (first_fault a.f a.tested a.line)
