-- Tests that are made one after another: what the result of one tells of all from it on. Assumes nothing.
use Rattle.std.specs.Prelude.{ℕ, ◌+◌, ◌<◌, Bool, true, false, cond, List, ◌∷◌, ◌≡◌, refl, length, get_or, drop, Result, Ok, Err}
use Rattle.std.proofs.Common.{add-one, sym, ap, ◌∙◌, drop-cons}
use Rattle.scope.specs.Causes.{Test, First}
use Rattle.words.specs.Refusals.{number_of, Tested}
use Rattle.words.specs.declared.refusal.Refusal.{Refusal}
use Rattle.causes.specs.Tests.{tests_from}

abbrev Told : Type 0
Told = Result (Unit {0}) Refusal

abbrev required : Bool → Refusal → Told
required b x = cond b (Ok tt) (Err x)

-- the test b, which spares the refusal x, told q, and r is what all from it on tell
module _ (b : Bool) (x : Refusal) (q : Told) (told : q ≡ required b x) (ts : List Test) where
  lost : (e : Refusal) → q ≡ Err e → Tested ((number_of x, b) ∷ ts) (Err e)
  lost e w = go b (sym told ∙ w)
    where
      go : (b : Bool) → required b x ≡ Err e → First (number_of e) ((number_of x, b) ∷ ts)
      go true h = cc
      go false h = let y : x ≡ e = cc in rw y First.here

  kept : (u : Unit {0}) → q ≡ Ok u → (r : Told) → Tested ts r → Tested ((number_of x, b) ∷ ts) r
  kept u w = go b (sym told ∙ w)
    where
      go : (b : Bool) → required b x ≡ Ok u → (r : Told) → Tested ts r → Tested ((number_of x, b) ∷ ts) r
      go true h (Ok v) m = (refl, m)
      go true h (Err e) m = First.later m
      go false h r m = cc

-- the same of test i of the list
module _ (ts : List (Bool × Refusal)) (i : ℕ) (d : Bool × Refusal) (h : i < length ts) (q : Told) (told : q ≡ required (get_or ts i d).0 (get_or ts i d).1) where
  next : tests_from (drop i ts) ≡ (number_of (get_or ts i d).1, (get_or ts i d).0) ∷ tests_from (drop (i + 1) ts)
  next = ap tests_from (drop-cons ts i d h) ∙ rw add-one refl

  pub not_met : (e : Refusal) → q ≡ Err e → Tested (tests_from (drop i ts)) (Err e)
  not_met e w = rw next (lost (get_or ts i d).0 (get_or ts i d).1 q told (tests_from (drop (i + 1) ts)) e w)

  pub is_met : (u : Unit {0}) → q ≡ Ok u → (r : Told) → Tested (tests_from (drop (i + 1) ts)) r → Tested (tests_from (drop i ts)) r
  is_met u w r m = rw next (kept (get_or ts i d).0 (get_or ts i d).1 q told (tests_from (drop (i + 1) ts)) u w r m)
