-- How a reader fills the words: with a sheet that is accepted, or not. Assumes nothing.
use Rattle.std.specs.Prelude.{ℕ, List, ◌≡◌, Ok, Err}
use Rattle.std.proofs.Common.{sym, ap, ◌∙◌}
use Rattle.scope.specs.Sheet.{Sheet, Valid}
use Rattle.scope.specs.Causes.{Read, accepted, refused}
use Rattle.scope.specs.Words.{held, words_of}
use Rattle.scope.proofs.Laws.Words.{held_words}
use Rattle.words.specs.declared.refusal.Cause.{Cause}
use Rattle.words.specs.Refusals.{number_of}
use Rattle.words.specs.Told.{Fills}

module _ (R : Read → Type 0) where
  pub fills_accepted : (t : Sheet) (s : List ℕ) → R (accepted t) → Valid t → s ≡ words_of t → Fills R (Ok tt) s
  fills_accepted t s r v e =
      let h : held s ≡ t = ap held e ∙ held_words t v in
      record { read = rw h r; zeros = e ∙ sym (ap words_of h) }

  pub fills_refused : (c : Cause) (s : List ℕ) → R (refused (number_of c.refusal) c.place c.column) → Fills R (Err c) s
  fills_refused c s r = record { read = r; zeros = tt }
