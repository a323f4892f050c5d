-- A line of which the fields are not formed is none, and one put into a buffer of as many bytes fills it. Assumes nothing.
use Rattle.std.proofs.Math.Option.{Option, none, some}
use Rattle.std.specs.Prelude.{ℕ, List, ◌++◌, ◌≡◌, refl, length, drop}
use Rattle.std.proofs.Common.{arith, append-nil, ap, ◌∙◌, drop_of_length-le}
use Rattle.scope.specs.Causes.{line_size}
use Rattle.scope.specs.Sheet.{Letter}
use Rattle.scope.specs.Reading.{joined}

pub joined_none : (o : Option Letter) → joined o none ≡ none
joined_none none = refl
joined_none (some c) = refl

-- the line s of n fields put at the beginning of a buffer of as many bytes
pub line_fills : (n : ℕ) (s out now : List ℕ) → length now ≡ length out → now ≡ s ++ drop (line_size n) out → length now ≡ line_size n → now ≡ s
line_fills n s out now l p e = p ∙ ap (λ r. s ++ r) (drop_of_length-le out {i = line_size n} (omega (arith, l, e))) ∙ append-nil s
