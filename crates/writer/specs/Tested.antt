-- The tests of the lines of a held sheet, as they are made on its words: in no promise of an exported call. Assumes nothing.
use Rattle.std.specs.Prelude.{ℕ, ◌+◌, Bool, true, ◌&&◌, List, [], ◌∷◌, leb, ltb, get_or, Result, Ok, Err}
use Rattle.scope.specs.Sheet.{Number, plus, Gate, not, and, or, most_switches, most_faults, most_gates, most_rules, most_wishes, Valid}
use Rattle.scope.specs.Causes.{point, literals, is_weight, Test}
use Rattle.scope.specs.Words.{word, literal_from, rule_at, held}
use Rattle.scope.specs.Writing.{table_tests, TablesRead}
use Rattle.words.specs.Told.{told}
use Rattle.words.specs.Entries.{gate_of_words, gate_words_at, wish_words_at}
use Rattle.words.specs.declared.refusal.Cause.{Cause}
use Rattle.writer.specs.declared.entries.Entry.{Entry}
use Rattle.writer.specs.declared.entries.Entry.TheVariants.{Head, Rule, End}

-- what a gate names are points of m
unfoldable pub named : ℕ → Gate → Bool
named m (not p) = point m (plus p)
named m (and p q) = point m (plus p) && point m (plus q)
named m (or p q) = point m (plus p) && point m (plus q)

abbrev pub literals_of : (wish : List ℕ) → List Number
literals_of w = literal_from (word w 0) ∷ literal_from (word w 1) ∷ literal_from (word w 2) ∷ []

-- the tests of the line of an entry: it stands in its place, and its unused fields hold 0
abbrev pub tests_of : (u : List ℕ) → Entry → List Test
tests_of u Head = (3, true) ∷ (4, leb (word u 0) most_switches && leb (word u 1) most_faults) ∷ (6, true) ∷ []
tests_of u (Entry.Gate i) = (3, true) ∷ (5, ltb i most_gates) ∷ (6, named (word u 0 + word u 1 + i) (gate_of_words (gate_words_at u i))) ∷ []
tests_of u (Rule i) = (3, true) ∷ (5, ltb i most_rules) ∷ (6, point (word u 0 + word u 1 + word u 2) (plus (rule_at u i))) ∷ []
tests_of u (Entry.Wish i) = (3, true) ∷ (5, ltb i most_wishes) ∷ (6, literals (word u 0) (literals_of (wish_words_at u i))) ∷ (14, is_weight (plus (word (wish_words_at u i) 3))) ∷ []
tests_of u End = []

-- of line k, counted from 0, where u are the words
abbrev pub line_tests : (u : List ℕ) → ℕ → List Test
line_tests u k = get_or (table_tests (held u)) k []

-- the sheet that the words u hold is valid, or r is the first cause to turn it down
abbrev pub Caused : (u : List ℕ) → (r : Result Unit Cause) → Type 0
Caused u (Ok _) = Valid (held u)
Caused u (Err c) = TablesRead (held u) (told (Err c))
