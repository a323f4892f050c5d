-- Examples of tables written as sheets, and of sheets read into tables, by computation. Assumes nothing.
use Rattle.std.specs.Prelude.{ℕ, zero, suc, ◌+◌, ◌-◌, ◌*◌, ◌≤◌, List, [], ◌∷◌, ◌++◌, ◌≡◌, refl, length, set, replicate}
use Prim.Native.Char.{code}
use Prim.Native.String.{String}
use Rattle.std.proofs.Common.{arith, sym, ap, ap₂, ◌∙◌, get_or-set_other}
use Rattle.scope.specs.Text.{lines}
use Rattle.scope.specs.Sheet.{Gate, Sheet, sheet, decimal, field, fields_bytes, text, body, weighted, most_gates, most_rules, most_wishes, All, Ordered, Valid}
use Rattle.scope.specs.Causes.{zeros, literals, clause, tests, make, refused}
use Rattle.scope.specs.Sheets.{SheetRead}
use Rattle.scope.specs.Reading.{field_of, fields_of, letter_of, line_of, column_of, line_at, column_at, tests_at, read_from, read}
use Rattle.scope.specs.Parsing.{first_line}
use Rattle.scope.specs.Pick.{pick}
use Rattle.scope.specs.Words.{gate_size, wish_size, gates_from, word_count, no_gate, gate_of, clause_of, entries, gate_at, held, flat, room, words_of}
use Rattle.scope.specs.Filling.{ReadResult, read_result, read_into, IsRead}
use Rattle.scope.specs.Writing.{tests_from, WriteResult, written, written_of, IsWritten}
use Rattle.scope.specs.Checking.{read_tables}
use Rattle.scope.proofs.Claims.{sheet_gives, tables_give, words_hold}
use Rattle.scope.proofs.Laws.Alls.{all_imply}

-- three gates, a rule and two wishes: of switch 1 off or 2 on, and of nothing
abbrev pub sample : List String
sample = "H    2    1    0    0" ∷ "N    1    0    0    0" ∷ "A    2    3    0    0" ∷ "O    4    5    0    0" ∷ "R    6    0    0    0" ∷ "W   -1    2    0    1" ∷ "W    0    0    0   12" ∷ "Z    7    0    0    0" ∷ []

-- ---- words laid out: the counts, and the first words of each room, which x fills up

abbrev pub filled_up : (x n : ℕ) → List ℕ → List ℕ
filled_up x n s = s ++ replicate (n - length s) x

abbrev pub laid_out : (x a f gates rules wishes : ℕ) → (gate_words rule_words wish_words : List ℕ) → List ℕ
laid_out x a f gates rules wishes gs rs ws = a ∷ f ∷ gates ∷ rules ∷ wishes ∷ filled_up x (most_gates * gate_size) gs ++ (filled_up x most_rules rs ++ filled_up x (most_wishes * wish_size) ws)

abbrev pub sample_words : (x : ℕ) → List ℕ
sample_words x = laid_out x 2 1 3 1 2 (code "N" ∷ 1 ∷ 0 ∷ code "A" ∷ 2 ∷ 3 ∷ code "O" ∷ 4 ∷ 5 ∷ []) (6 ∷ []) (3 ∷ 4 ∷ 0 ∷ 1 ∷ 0 ∷ 0 ∷ 0 ∷ 12 ∷ [])

-- one switch, and one gate or wish
abbrev pub gate : (kind left right : ℕ) → List ℕ
gate k p q = laid_out 0 1 0 1 0 0 (k ∷ p ∷ q ∷ []) [] []

abbrev pub wish : (first second third weight : ℕ) → List ℕ
wish x y z n = laid_out 0 1 0 0 0 1 [] [] (x ∷ y ∷ z ∷ n ∷ [])

-- the words of k wishes of nothing, each of weight 1
abbrev pub ones : ℕ → List ℕ
ones zero = []
ones (suc k) = 0 ∷ 0 ∷ 0 ∷ 1 ∷ ones k

-- ---- what is written, where, and what is returned

abbrev pub Example : Type 0
Example = List ℕ × List ℕ × WriteResult

abbrev pub turned : (number place : ℕ) → WriteResult
turned c place = written c place 0 0 []

abbrev pub examples : List Example
examples =
    -- bytes after the sheet keep their content
    (sample_words 0, replicate 180 7, written 0 0 0 176 (lines sample ++ replicate 4 7))
    -- words beyond the counts are ignored
    ∷ (sample_words 9, replicate 176 7, written 0 0 0 176 (lines sample))
    -- one byte short
    ∷ (sample_words 0, replicate 175 7, written 13 0 0 0 (replicate 175 7))
    -- too many switches or faults, also where there is no room
    ∷ (laid_out 0 21 0 0 0 0 [] [] [], [], turned 4 1)
    ∷ (laid_out 0 20 17 1 0 0 [] [] [], [], turned 4 1)
    -- the first line at fault comes before gate 401; rule 65 and wish 65
    ∷ (laid_out 0 1 0 405 0 0 (code "N" ∷ 1 ∷ 0 ∷ code "N" ∷ 1 ∷ 0 ∷ code "N" ∷ 0 ∷ 0 ∷ []) [] [], [], turned 6 4)
    ∷ (laid_out 0 1 0 0 65 0 [] (replicate 64 1) [], [], turned 5 66)
    ∷ (laid_out 0 1 0 0 0 65 [] [] (ones 64), [], turned 5 66)
    -- a gate of no kind, N with a second point, the gate's own point
    ∷ (gate (code "R") 1 0, [], turned 6 2)
    ∷ (gate (code "N") 1 1, [], turned 6 2)
    ∷ (gate (code "A") 1 2, [], turned 6 2)
    -- -0, a literal after a 0, one of no switch
    ∷ (wish 1 0 0 1, [], turned 6 2)
    ∷ (wish 0 2 0 1, [], turned 6 2)
    ∷ (wish 4 0 0 0, [], turned 6 2)
    -- a weight that is too small, or too large
    ∷ (wish 2 0 0 0, [], turned 14 2)
    ∷ (wish 2 0 0 1000, [], turned 14 2)
    -- no words at all
    ∷ ([], replicate 44 7, written 0 0 0 44 (lines ("H    0    0    0    0" ∷ "Z    1    0    0    0" ∷ [])))
    ∷ []

computed : All (λ e. e.2 ≡ written_of (read_tables (held e.0)) e.1) examples
unfolding read_tables first_line entries gate_of clause_of tests_from tests make zeros literals clause body text fields_bytes field decimal
computed = (refl, (refl, (refl, (refl, (refl, (refl, (refl, (refl, (refl, (refl, (refl, (refl, (refl, (refl, (refl, (refl, (refl, tt)))))))))))))))))

pub writing : All (λ e. IsWritten e.0 e.1 e.2) examples
writing = all_imply (λ e. e.2 ≡ written_of (read_tables (held e.0)) e.1) (λ e. IsWritten e.0 e.1 e.2) (λ e. (tables_give e.0 (λ r. written_of r e.1) e.2).0) examples computed

-- ---- gate 401: the words of one switch and 400 gates N 1, with a count of one more. What they hold is proved, since to compute it takes long

abbrev pub full : Sheet
full = sheet 1 0 (replicate most_gates (Gate.not 1)) [] []

abbrev pub crowded : List ℕ
crowded = set (words_of full) 2 (suc most_gates)

full_valid : Valid full
full_valid = record { switches = omega arith; faults = omega arith; few_gates = omega arith; few_rules = omega arith; few_wishes = omega arith; gates = ordered most_gates 1 (omega arith); rules = tt; wishes = tt }
  where
    ordered : (k n : ℕ) → 1 ≤ n → Ordered n (replicate k (Gate.not 1))
    ordered zero n h = tt
    ordered (suc k) n h = ((omega arith, h), ordered k (suc n) (omega arith))

-- another count leaves the gates as they are
gate_as_was : (s : List ℕ) (c i : ℕ) → gate_at (set s 2 c) i ≡ gate_at s i
gate_as_was s c i = rw (get_or-set_other s 2 (i * gate_size + gates_from) c 0 (λ e. omega arith), get_or-set_other s 2 (i * gate_size + (gates_from + 1)) c 0 (λ e. omega arith), get_or-set_other s 2 (i * gate_size + (gates_from + 2)) c 0 (λ e. omega arith))

gates_as_were : (s : List ℕ) (c k : ℕ) → entries (gate_at (set s 2 c)) k ≡ entries (gate_at s) k
unfolding entries
gates_as_were s c zero = refl
gates_as_were s c (suc k) = ap₂ (λ gs g. gs ++ g ∷ []) (gates_as_were s c k) (gate_as_was s c k)

one_more : {A : Type 0} (f : ℕ → A) (k : ℕ) → entries f (suc k) ≡ entries f k ++ f k ∷ []
unfolding entries
one_more f k = refl

-- where the rules stand there is no gate
none_after : gate_at (words_of full) most_gates ≡ no_gate
unfolding words_of room flat gate_of
none_after = refl

full_gates : entries (gate_at (words_of full)) most_gates ≡ replicate most_gates (Gate.not 1)
unfolding words_of
full_gates = ap (λ t. t.gates) (words_hold full full_valid)

crowded_gates : entries (gate_at crowded) (suc most_gates) ≡ replicate most_gates (Gate.not 1) ++ no_gate ∷ []
crowded_gates = gates_as_were (words_of full) (suc most_gates) (suc most_gates) ∙ one_more (gate_at (words_of full)) most_gates ∙ ap₂ (λ gs g. gs ++ g ∷ []) full_gates none_after

crowded_held : held crowded ≡ sheet 1 0 (replicate most_gates (Gate.not 1) ++ no_gate ∷ []) [] []
unfolding words_of entries
crowded_held = ap (λ gs. sheet 1 0 gs [] []) crowded_gates

crowded_computed : read_tables (sheet 1 0 (replicate most_gates (Gate.not 1) ++ no_gate ∷ []) [] []) ≡ refused 5 402 0
unfolding read_tables first_line tests_from tests make zeros body
crowded_computed = refl

pub crowded_written : IsWritten crowded [] (turned 5 402)
crowded_written = (tables_give crowded (λ r. written_of r []) (turned 5 402)).0 (ap (λ r. written_of r []) (sym crowded_computed) ∙ ap (λ t. written_of (read_tables t) []) (sym crowded_held))

-- ---- a sheet read into words that hold 7: they are filled, or left as they were

abbrev pub lent : List ℕ
lent = replicate word_count 7

abbrev pub fillings : List (List String × ReadResult)
fillings = (sample, read_result 0 0 0 (sample_words 0)) ∷ ("H    2    1    0    0" ∷ "N   +1    0    0    0" ∷ [], read_result 2 2 5 lent) ∷ []

fillings_computed : All (λ e. e.1 ≡ read_into (read weighted (lines e.0)) lent) fillings
unfolding words_of room flat read read_from tests_at line_at column_at column_of fields_bytes line_of letter_of fields_of field_of field decimal tests zeros make literals clause pick
fillings_computed = (refl, (refl, tt))

pub filling : All (λ e. IsRead (SheetRead weighted (lines e.0)) lent e.1) fillings
filling = all_imply (λ e. e.1 ≡ read_into (read weighted (lines e.0)) lent) (λ e. IsRead (SheetRead weighted (lines e.0)) lent e.1) (λ e. (sheet_gives weighted (lines e.0) (λ r. read_into r lent) e.1).0) fillings fillings_computed
