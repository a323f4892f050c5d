-- The words of a sheet: those of none, their counts, and room for those of a valid one. Assumes nothing.
use Rattle.std.specs.Prelude.{◌≡◌, refl, length, replicate}
use Rattle.scope.specs.Sheet.{Sheet, Valid}
use Rattle.scope.specs.Causes.{started}
use Rattle.scope.specs.Words.{word_count, room, flat, words_of}
use Rattle.words.specs.Entries.{counts_at, Within}

-- what `[0u32; WORDS]` is, from which a reader starts
pub zero_words : replicate word_count 0 ≡ words_of (started 0 0)
unfolding words_of room flat
zero_words = refl

pub counts_words : (t : Sheet) → counts_at (words_of t) ≡ record { switches = t.switches; faults = t.faults; gates = length t.gates; rules = length t.rules; wishes = length t.wishes }
unfolding words_of
counts_words t = refl

pub valid_within : (t : Sheet) → Valid t → Within t
valid_within t v = record { gates = v.few_gates; rules = v.few_rules; wishes = v.few_wishes }
