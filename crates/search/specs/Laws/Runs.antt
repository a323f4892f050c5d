-- A run into a lent list, round by round. Assumes nothing.
use Rattle.std.specs.Prelude.{ℕ, suc, ◌+◌, ◌-◌, ◌≤◌, ◌<◌, List, [], ◌∷◌, ◌++◌, ◌≡◌, refl, length, take, drop, set, Option, Ok, Err}
use Rattle.std.proofs.Common.{arith, add-one, sym, ap, ◌∙◌, length-set, take-append-drop, length-take-le, take-suc-set, drop-set-lt, drop-drop}
use Rattle.std.proofs.Math.Nat.{sub-zero}
use Rattle.std.proofs.Math.Option.{none, some}
use Rattle.scope.specs.Rule.{Task, best, next, short, rule}
use Rattle.scope.specs.Jobs.{over}
use Rattle.scope.proofs.Laws.Rules.{rule_stop, rule_full, rule_more}
use Rattle.search.specs.declared.best.Candidate.{Candidate}
use Rattle.search.specs.declared.run.NoRoom.{NoRoom}
use Rattle.search.specs.Answers.{best_of, Priced, Ran}

-- ---- the lent list: n patterns listed, the rest as it was

pub record Kept (lent l : List ℕ) (n : ℕ) : Type 0 where
  pub same : length l ≡ length lent
  pub fits : n ≤ length l
  pub rest : drop n l ≡ drop n lent

pub kept_none : (l : List ℕ) → Kept l l 0
kept_none l = record { same = refl; fits = omega arith; rest = refl }

pub kept_more : (lent l : List ℕ) (n x : ℕ) → n < length l → Kept lent l n → Kept lent (set l n x) (n + 1)
kept_more lent l n x h k = record {
  same = length-set l n x ∙ k.same;
  fits = rw (length-set l n x) (omega arith);
  rest = drop-set-lt (n + 1) l n x (omega arith) ∙ sym (drop-drop 1 n l) ∙ ap (drop 1) k.rest ∙ drop-drop 1 n lent;
}

kept_over : (lent l : List ℕ) (n : ℕ) → Kept lent l n → l ≡ over (take n l) lent
kept_over lent l n k = rw (length-take-le n l k.fits, ← k.rest) (sym (take-append-drop n l))

pub listed_more : (l : List ℕ) (n x : ℕ) → n < length l → take (n + 1) (set l n x) ≡ take n l ++ x ∷ []
listed_more l n x h = rw (add-one n) (take-suc-set l n x h)

-- ---- the rule goes on from what is listed, with the room that is left
abbrev pub Onward : Task → List ℕ → List ℕ → ℕ → Type 0
Onward t lent l n = rule t (length lent) [] ≡ rule t (length l - n) (take n l)

pub on_start : (t : Task) (lent : List ℕ) → Onward t lent lent 0
on_start t lent = rw sub-zero

module _ (t : Task) (lent l : List ℕ) (n : ℕ) (k : Kept lent l n) (o : Onward t lent l n) where
  pub on_more : (x : ℕ) → next t (take n l) ≡ some x → n < length l → Onward t lent (set l n x) (n + 1)
  on_more x e h =
      let m : length l - n ≡ suc (length l - (n + 1)) = omega arith in
      o ∙ rw (m, length-set l n x, listed_more l n x h) (rule_more t (length l - (n + 1)) (take n l) e)

  pub on_done : (b : Option Candidate) → next t (take n l) ≡ none → best_of b ≡ best t (take n l) → Priced t b → Ran t lent (record { best = Ok b; length = n }) l
  unfolding short
  on_done b s p q = record {
    fits = omega (arith, k.fits, k.same);
    ruled = o ∙ rule_stop t (length l - n) (take n l) s ∙ rw p;
    list = kept_over lent l n k;
    priced = q;
  }

  pub on_full : (e : NoRoom) (x : ℕ) → next t (take n l) ≡ some x → length l ≤ n → Ran t lent (record { best = Err e; length = n }) l
  on_full e x s h =
      let m : length l - n ≡ 0 = omega arith in
      record {
        fits = omega (arith, k.fits, k.same);
        ruled = o ∙ rw m (rule_full t (take n l) s);
        list = kept_over lent l n k;
        priced = tt;
      }
