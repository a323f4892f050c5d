-- What was read, as a reader tells it and as the jobs take it. Assumes nothing.
use Rattle.std.specs.Prelude.{ℕ, List, ◌≡◌, Result, Ok, Err, IfOk}
use Rattle.scope.specs.Sheet.{Sheet}
use Rattle.scope.specs.Causes.{Read, accepted, refused}
use Rattle.scope.specs.Words.{held, words_of}
use Rattle.words.specs.declared.refusal.Cause.{Cause}
use Rattle.words.specs.Refusals.{number_of}

-- the valid sheet, or the cause to turn it down
abbrev pub told : Result Sheet Cause → Read
told (Ok t) = accepted t
told (Err c) = refused (number_of c.refusal) c.place c.column

-- the same, where the sheet is the one that words hold
abbrev pub told_words : Result Unit Cause → List ℕ → Read
told_words (Ok u) w = accepted (held w)
told_words (Err c) w = refused (number_of c.refusal) c.place c.column

-- what is told is what R says is read; where a sheet is accepted, words beyond its counts are 0
pub record Fills (R : Read → Type 0) (r : Result Unit Cause) (w : List ℕ) : Type 0 where
  pub read : R (told_words r w)
  pub zeros : IfOk r (λ u. w ≡ words_of (held w))
