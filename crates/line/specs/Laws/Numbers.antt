-- The numbers of a line as the code holds them. Assumes nothing.
use Rattle.std.specs.Prelude.{ℕ, ◌≤◌, ◌<◌, false, List, ◌≡◌, length, get_or, take}
use Rattle.std.proofs.Common.{arith, sym, ◌∙◌, length-take-le, take-take, get_or-take}
use Rattle.std.proofs.lemmas.List.{length-map}
use Rattle.std.proofs.Math.ListN.{get_or-map}
use Rattle.scope.specs.Sheet.{plus}
use Rattle.scope.specs.Causes.{at}
use Rattle.field.specs.Columns.{number_from}
use Rattle.field.specs.declared.Number.{Number}
use Rattle.line.specs.Lines.{numbers_from}

-- number i of them all
pub number_at : (i : ℕ) (xs : List Number) → number_from (get_or xs i (record { minus = false; size = 0 })) ≡ at (numbers_from xs) i
number_at i xs = sym (get_or-map number_from xs i (record { minus = false; size = 0 }))

-- and of the first n
pub at_numbers : (n i : ℕ) (xs : List Number) → i < n → number_from (get_or xs i (record { minus = false; size = 0 })) ≡ at (take n (numbers_from xs)) i
at_numbers n i xs h = number_at i xs ∙ sym (get_or-take n (numbers_from xs) i (plus 0) h)

pub length_numbers : (n : ℕ) (xs : List Number) → n ≤ length xs → length (take n (numbers_from xs)) ≡ n
length_numbers n xs h = length-take-le n (numbers_from xs) (omega (arith, length-map xs number_from))

-- the first m of the first n
pub front_numbers : (m n : ℕ) (xs : List Number) → m ≤ n → take m (take n (numbers_from xs)) ≡ take m (numbers_from xs)
front_numbers m n xs h = take-take m n (numbers_from xs) h
