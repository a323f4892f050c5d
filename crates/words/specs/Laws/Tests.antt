-- Tests as the code makes them, one before others. Assumes nothing.
use Rattle.std.specs.Prelude.{Bool, true, false, cond, List, [], ◌∷◌, ◌≡◌, refl, Result, Ok, Err}
use Rattle.scope.specs.Causes.{Test, here, later}
use Rattle.words.specs.declared.refusal.Refusal.{Refusal}
use Rattle.words.specs.Refusals.{number_of, Tested}

pub none_left : Tested [] (Ok tt)
none_left = tt

-- a test that is not met
pub not_met : (rs : List Test) (x : Refusal) → Tested ((number_of x, false) ∷ rs) (Err x)
not_met rs x = here

-- the code tests `made`, and the scope `ok`; `more` is what later tests tell
pub test : (rs : List Test) (made ok : Bool) (more r : Result (Unit {0}) Refusal) (x : Refusal) → r ≡ cond made more (Err x) → made ≡ ok → Tested rs more → Tested ((number_of x, ok) ∷ rs) r
test rs made true more r x e t f = rw (e, t) (go more f)
  where
    go : (m : Result (Unit {0}) Refusal) → Tested rs m → Tested ((number_of x, true) ∷ rs) m
    go (Ok u) h = (refl, h)
    go (Err y) h = later h
test rs made false more r x e t f = rw (e, t) (not_met rs x)
