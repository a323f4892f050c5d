-- Entries as the code holds them, and what one more of them makes of the words of a sheet: in no promise of an exported call. Assumes nothing.
use Rattle.std.specs.Prelude.{ℕ, ◌≤◌, cond, List, [], ◌∷◌, ◌++◌, ◌≡◌, ◌≢◌, eqb, length, Option, Some, None, Result, Ok, Err}
use Rattle.scope.specs.Sheet.{Sheet, sheet, number, Clause, wish as wishOf, most_gates, most_rules, most_wishes}
use Rattle.scope.specs.Sheet as scope
use Rattle.scope.specs.Causes.{add_gate, add_rule, add_wish}
use Rattle.scope.specs.Words.{gate_size, wish_size, gates_from, wishes_from, word, gate_words, gate_of, literal_from, clause_of, wish_words, words_of}
use Rattle.words.specs.Tables.{entry_at}
use Rattle.words.specs.declared.counts.Counts.{Counts}
use Rattle.words.specs.declared.gate.Gate.{Gate}
use Rattle.words.specs.declared.gate.Gate.TheVariants.{Not, And, Or}
use Rattle.words.specs.declared.literal.Literal.{Literal}
use Rattle.words.specs.declared.wish.Wish.{Wish}
use Rattle.words.specs.declared.refusal.Refusal.{Refusal}
use Rattle.words.specs.declared.refusal.Refusal.TheVariants.{Fields}

-- ---- what the code's values stand for

abbrev pub gate_from : Gate → scope.Gate
gate_from (Not p) = scope.not p
gate_from (And p q) = scope.and p q
gate_from (Or p q) = scope.or p q

abbrev pub literal_of : Literal → scope.Number
literal_of l = number l.minus l.switch

-- the literals that there are
abbrev pub literals_there : Option Literal → Clause
literals_there None = []
literals_there (Some l) = literal_of l ∷ []

unfoldable pub clause_there : List (Option Literal) → Clause
clause_there [] = []
clause_there (x ∷ w) = literals_there x ++ clause_there w

-- the literals of a code: 0 is none
unfoldable pub literals_of : ℕ → Clause
literals_of c = cond (eqb c 0) [] (literal_from c ∷ [])

abbrev pub wish_from : Wish → scope.Wish
wish_from w = wishOf (clause_there w.clause) w.weight

-- a gate by its three words, a clause by those of its literals, and a wish by its four
abbrev pub gate_of_words : List ℕ → scope.Gate
gate_of_words g = gate_of (word g 0) (word g 1) (word g 2)

abbrev pub clause_from : List ℕ → Clause
clause_from w = clause_of (word w 0) (word w 1) (word w 2)

abbrev pub wish_of_words : List ℕ → scope.Wish
wish_of_words w = wishOf (clause_from w) (word w 3)

-- the words are those of the gate, or of none
abbrev pub GateRead : List ℕ → Result Gate Refusal → Type 0
GateRead w (Ok g) = gate_words (gate_from g) ≡ w
GateRead w (Err r) = (r ≡ Fields) × ((g : scope.Gate) → gate_words g ≢ w)

-- ---- entries of words

abbrev pub counts_at : List ℕ → Counts
counts_at s = record { switches = word s 0; faults = word s 1; gates = word s 2; rules = word s 3; wishes = word s 4 }

abbrev pub gate_words_at : List ℕ → ℕ → List ℕ
gate_words_at s i = entry_at gates_from gate_size s i

abbrev pub wish_words_at : List ℕ → ℕ → List ℕ
wish_words_at s i = entry_at wishes_from wish_size s i

-- ---- the counts of a sheet

abbrev pub counts_from : Sheet → Counts
counts_from t = record { switches = t.switches; faults = t.faults; gates = length t.gates; rules = length t.rules; wishes = length t.wishes }

-- ---- the words of a sheet that is being read, and one entry more

-- there is room for its entries
pub record Within (t : Sheet) : Type 0 where
  pub gates : length t.gates ≤ most_gates
  pub rules : length t.rules ≤ most_rules
  pub wishes : length t.wishes ≤ most_wishes

-- the words are those of t, as long as there is room
abbrev pub Kept : Sheet → List ℕ → Type 0
Kept t s = Within t → s ≡ words_of t

abbrev pub HeadPut : (a f : ℕ) (before after : List ℕ) → Type 0
HeadPut a f s u = (t : Sheet) → Kept t s → Kept (sheet a f t.gates t.rules t.wishes) u

abbrev pub GatePut : scope.Gate → (before after : List ℕ) → Type 0
GatePut g s u = (t : Sheet) → Kept t s → Kept (add_gate t g) u

abbrev pub RulePut : (point : ℕ) (before after : List ℕ) → Type 0
RulePut p s u = (t : Sheet) → Kept t s → Kept (add_rule t p) u

-- w are the words of a wish
abbrev pub WishPut : (w : List ℕ) (before after : List ℕ) → Type 0
WishPut w s u = (t : Sheet) (x : scope.Wish) → w ≡ wish_words x → Kept t s → Kept (add_wish t x) u
