-- The tests of a line's fields, one field at a time. Assumes nothing.
use Rattle.std.specs.Prelude.{ℕ, zero, suc, ◌+◌, ◌≤◌, ◌<◌, Bool, true, false, cond, ◌&&◌, List, [], ◌∷◌, ◌≡◌, refl, length, get_or, take, drop, slice_range}
use Rattle.std.proofs.Common.{add-one, arith, sym, ap, ap₂, ◌∙◌, drop-cons}
use Rattle.std.specs.List.{list_all, drop-map}
use Rattle.std.proofs.Math.ListN.{drop_of_length-le}
use Rattle.std.proofs.lemmas.Slice.{between_to_end}
use Rattle.std.proofs.lemmas.List.Folds.{list_all_more}
use Rattle.scope.specs.Causes.{is, point, literal, zeros, literals}
use Rattle.field.specs.Columns.{number_from}
use Rattle.field.specs.declared.Number.{Number}
use Rattle.line.specs.Lines.{numbers_from}
use Rattle.line.specs.Laws.Numbers.{number_at}
use Rattle.causes.specs.Tests.{point_test, are_points}

abbrev zero_number : Number
zero_number = record { minus = false; size = 0 }

pub all_zeros : (xs : List Number) → list_all (λ x. is 0 (number_from x)) xs ≡ zeros (numbers_from xs)
unfolding zeros
all_zeros [] = refl
all_zeros (x ∷ xs) = ap (λ t. is 0 (number_from x) && t) (all_zeros xs)

-- no field is left
pub literals_end : (a : ℕ) (xs : List Number) (i : ℕ) → length xs ≤ i → literals a (numbers_from (drop i xs)) ≡ true
unfolding literals
literals_end a xs i h = ap (λ s. literals a (numbers_from s)) (drop_of_length-le xs {i = i} h)

-- x is field i
module _ (a : ℕ) (xs : List Number) (i : ℕ) (d : Number) (h : i < length xs) where
  abbrev x : Number
  x = get_or xs i d

  abbrev from : ℕ → Bool
  from k = literals a (numbers_from (drop k xs))

  next : from i ≡ cond (is 0 (number_from x)) (zeros (numbers_from (drop (i + 1) xs))) (literal a (number_from x) && from (i + 1))
  unfolding literals
  next = ap (λ s. literals a (numbers_from s)) (drop-cons xs i d h) ∙ rw add-one refl

  pub literals-fill : is 0 (number_from x) ≡ true → zeros (numbers_from (slice_range xs (i + 1) (length xs))) ≡ from i
  literals-fill z = ap (λ s. zeros (numbers_from s)) (between_to_end xs (i + 1) (length xs) (omega arith)) ∙ sym (rw z at next)

  pub literals-go-on : is 0 (number_from x) ≡ false → literal a (number_from x) ≡ true → from (i + 1) ≡ from i
  literals-go-on z l = sym (rw (z, l) at next)

  pub literals-stop : is 0 (number_from x) ≡ false → literal a (number_from x) ≡ false → false ≡ from i
  literals-stop z l = sym (rw (z, l) at next)

-- the first k are points of m
pub all_points : (m k : ℕ) (xs : List Number) → k ≤ length xs → list_all (point_test m) (take k xs) ≡ are_points m k (numbers_from xs)
all_points m zero xs h = refl
all_points m (suc k) xs h =
    let e : list_all (point_test m) (take (suc k) xs) ≡ (list_all (point_test m) (take k xs) && point_test m (get_or xs k zero_number)) = rw (← add-one k) (list_all_more (point_test m) xs k zero_number (omega arith)) in
    e ∙ ap₂ (λ a b. a && b) (all_points m k xs (omega arith)) (ap (point m) (number_at k xs))

-- and the others hold 0
pub others_unused : (k : ℕ) (xs : List Number) → zeros (numbers_from (drop k xs)) ≡ zeros (drop k (numbers_from xs))
others_unused k xs = ap zeros (sym (drop-map number_from k xs))
