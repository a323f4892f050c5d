-- What stands on the lines of a held sheet: in no promise of an exported call. Assumes nothing.
use Rattle.std.specs.Prelude.{ℕ, suc, ◌+◌, ◌<◌, List, ◌≡◌}
use Rattle.scope.specs.Words.{word}
use Rattle.writer.specs.declared.entries.Entry.{Entry}
use Rattle.writer.specs.declared.entries.Entry.TheVariants.{Head, Gate, Rule, Wish, End}

-- the lines before Z
abbrev pub before_end : (u : List ℕ) → ℕ
before_end u = 1 + word u 2 + word u 3 + word u 4

-- line k of the sheet that the words u hold, counted from 0, is of this entry
abbrev pub LineOf : (u : List ℕ) → ℕ → Entry → Type 0
LineOf u k Head = k ≡ 0
LineOf u k (Gate i) = (i < word u 2) × (k ≡ suc i)
LineOf u k (Rule i) = (i < word u 3) × (k ≡ suc (word u 2 + i))
LineOf u k (Wish i) = (i < word u 4) × (k ≡ suc (word u 2 + (word u 3 + i)))
LineOf u k End = k ≡ before_end u
