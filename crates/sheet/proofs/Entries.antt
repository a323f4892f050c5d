-- One more line in the words of a sheet, for each letter. Assumes nothing.
use Rattle.std.specs.Prelude.{ℕ, List, ◌≡◌, false, get_or, take}
use Rattle.std.proofs.Common.{sym, ap}
use Rattle.scope.specs.Sheet.{wish, Layout, line, H, N, A, O, R, W, most_literals}
use Rattle.scope.specs.Sheet as scope
use Rattle.scope.specs.Causes.{at, clause, weight_on, make}
use Rattle.scope.specs.Words.{wish_words}
use Rattle.field.specs.declared.Number.{Number}
use Rattle.words.specs.Entries.{HeadPut, GatePut, RulePut, WishPut}
use Rattle.line.specs.Lines.{numbers_from}
use Rattle.line.specs.Laws.Numbers.{number_at}
use Rattle.sheet.specs.Steps.{Takes}

module _ (lay : Layout) (ys : List Number) (s u : List ℕ) where
  abbrev xs : List scope.Number
  xs = numbers_from ys

  -- what the code puts for field i
  abbrev size : ℕ → ℕ
  size i = (get_or ys i (record { minus = false; size = 0 })).size

  size_is : (i : ℕ) → (at xs i).size ≡ size i
  size_is i = ap (λ x. x.size) (sym (number_at i ys))

  pub head-taken : HeadPut (size 0) (size 1) s u → Takes lay (line H xs) s u
  unfolding make
  head-taken p t z k = rw (size_is 0, size_is 1) (rw (z.0, z.1, z.2) at (p t k))

  pub not_taken : GatePut (scope.Gate.not (size 0)) s u → Takes lay (line N xs) s u
  unfolding make
  not_taken p t z k = rw (size_is 0) (p t k)

  pub and-taken : GatePut (scope.Gate.and (size 0) (size 1)) s u → Takes lay (line A xs) s u
  unfolding make
  and-taken p t z k = rw (size_is 0, size_is 1) (p t k)

  pub or-taken : GatePut (scope.Gate.or (size 0) (size 1)) s u → Takes lay (line O xs) s u
  unfolding make
  or-taken p t z k = rw (size_is 0, size_is 1) (p t k)

  pub rule-taken : RulePut (size 0) s u → Takes lay (line R xs) s u
  unfolding make
  rule-taken p t z k = rw (size_is 0) (p t k)

  pub wish-taken : (w : List ℕ) → w ≡ wish_words (wish (clause (take most_literals xs)) (weight_on lay xs).size) → WishPut w s u → Takes lay (line W xs) s u
  unfolding make
  wish-taken w h p t z k = p t (wish (clause (take most_literals xs)) (weight_on lay xs).size) h k
