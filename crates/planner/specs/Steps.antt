-- What steps of the code give: in no promise of an exported call. Assumes nothing.
use Rattle.std.specs.Prelude.{ℕ, List, ◌≡◌, Result, Ok, Err}
use Rattle.words.specs.declared.refusal.Cause.{Cause}

-- the words stand in the lent ones, or these are as they were
abbrev pub Handed : Result Unit Cause → (words before after : List ℕ) → Type 0
Handed (Ok u) words before after = after ≡ words
Handed (Err c) words before after = after ≡ before
