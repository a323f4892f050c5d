-- Why a sheet is turned down: what may stand in a field, the tests of a line, what a line adds, and what comes out. Assumes nothing.
use Rattle.std.specs.Prelude.{ℕ, suc, ◌+◌, ◌*◌, ◌/◌, ◌%◌, Bool, true, false, cond, not, ◌&&◌, List, [], ◌∷◌, ◌++◌, ◌≡◌, eqb, leb, ltb, length, get_or, take, drop}
use Rattle.scope.specs.Sheet.{Number, plus, Clause, Gate, Wish, wish, Sheet, sheet, points, field_size, Letter, H, N, A, O, R, W, Z, Layout, plain, weighted, most_switches, most_faults, most_gates, most_rules, most_wishes, most_literals, most_weight, All}

-- ---- what may stand in a field

abbrev pub is : ℕ → Number → Bool
is n x = not x.minus && eqb x.size n

abbrev pub up_to : ℕ → Number → Bool
up_to m x = not x.minus && leb x.size m

-- a point of m, a literal of a switches
abbrev pub point : ℕ → Number → Bool
point m x = up_to m x && ltb 0 x.size

abbrev pub literal : ℕ → Number → Bool
literal a x = leb x.size a && ltb 0 x.size

unfoldable pub zeros : List Number → Bool
zeros [] = true
zeros (x ∷ xs) = is 0 x && zeros xs

-- literals come first and zeros fill up
unfoldable pub literals : ℕ → List Number → Bool
literals a [] = true
literals a (x ∷ xs) = cond (is 0 x) (zeros xs) (literal a x && literals a xs)

-- the literals before the first 0
unfoldable pub clause : List Number → Clause
clause [] = []
clause (x ∷ xs) = cond (is 0 x) [] (x ∷ clause xs)

abbrev pub at : List Number → ℕ → Number
at xs i = get_or xs i (plus 0)

-- the weight on the line of a wish, 1 where it has no number for it
abbrev pub weight_on : Layout → List Number → Number
weight_on plain xs = plus 1
weight_on weighted xs = at xs most_literals

-- from 1 to 999
abbrev pub is_weight : Number → Bool
is_weight x = point most_weight x

-- ---- the tests of a line: t is what the k lines before say, and `last` is whether no line comes after

abbrev pub empty : {A : Type 0} → List A → Bool
empty s = eqb (length s) 0

-- a test, and the number of the refusal that it spares
abbrev pub Test : Type 0
Test = ℕ × Bool

-- every test is met
abbrev pub Met : List Test → Type 0
Met ts = All (λ x. x.1 ≡ true) ts

-- the first test that is not met is that of c: those before it are
pub data First (c : ℕ) : List Test → Type 0 where
  here : {ts : List Test} → First c ((c, false) ∷ ts)
  later : {m : ℕ} {ts : List Test} → First c ts → First c ((m, true) ∷ ts)

abbrev first : ℕ → Bool
first k = eqb k 0

abbrev between : ℕ → Bool → Bool
between k last = not (first k) && not last

abbrev pub gate_tests : Sheet → ℕ → Bool → Bool → List Test
gate_tests t k last fields = (3, between k last && (empty t.rules && empty t.wishes)) ∷ (5, ltb (length t.gates) most_gates) ∷ (6, fields) ∷ []

module _ (y : Layout) (t : Sheet) (k : ℕ) (last : Bool) where
  -- 3: letter not allowed at this line; 4: a or f outside its range; 5: gate 401, rule 65 or wish 65;
  -- 6: point or literal not allowed, unused field not 0, literal after a 0; 7: n in Z wrong; 14: weight of a wish outside 1 to 999
  unfoldable pub tests : Letter → List Number → List Test
  tests H xs = (3, first k && not last) ∷ (4, up_to most_switches (at xs 0) && up_to most_faults (at xs 1)) ∷ (6, zeros (drop 2 xs)) ∷ []
  tests N xs = gate_tests t k last (point (points t) (at xs 0) && zeros (drop 1 xs))
  tests A xs = gate_tests t k last ((point (points t) (at xs 0) && point (points t) (at xs 1)) && zeros (drop 2 xs))
  tests O xs = gate_tests t k last ((point (points t) (at xs 0) && point (points t) (at xs 1)) && zeros (drop 2 xs))
  tests R xs = (3, between k last && empty t.wishes) ∷ (5, ltb (length t.rules) most_rules) ∷ (6, point (points t) (at xs 0) && zeros (drop 1 xs)) ∷ []
  tests W xs = (3, between k last) ∷ (5, ltb (length t.wishes) most_wishes) ∷ (6, literals t.switches (take most_literals xs)) ∷ (14, is_weight (weight_on y xs)) ∷ []
  tests Z xs = (3, not (first k) && last) ∷ (6, zeros (drop 1 xs)) ∷ (7, is k (at xs 0)) ∷ []

-- ---- the sheet with one more line

abbrev pub started : ℕ → ℕ → Sheet
started a f = sheet a f [] [] []

abbrev pub add_gate : Sheet → Gate → Sheet
add_gate t g = sheet t.switches t.faults (t.gates ++ g ∷ []) t.rules t.wishes

abbrev pub add_rule : Sheet → ℕ → Sheet
add_rule t p = sheet t.switches t.faults t.gates (t.rules ++ p ∷ []) t.wishes

abbrev pub add_wish : Sheet → Wish → Sheet
add_wish t w = sheet t.switches t.faults t.gates t.rules (t.wishes ++ w ∷ [])

unfoldable pub make : Layout → Sheet → Letter → List Number → Sheet
make y t H xs = started (at xs 0).size (at xs 1).size
make y t N xs = add_gate t (Gate.not (at xs 0).size)
make y t A xs = add_gate t (Gate.and (at xs 0).size (at xs 1).size)
make y t O xs = add_gate t (Gate.or (at xs 0).size (at xs 1).size)
make y t R xs = add_rule t (at xs 0).size
make y t W xs = add_wish t (wish (clause (take most_literals xs)) (weight_on y xs).size)
make y t Z xs = t

-- ---- what comes out: the sheet, or number, place and column of the first cause; place 0 is no line

pub data Read : Type 0 where
  accepted : Sheet → Read
  refused : (number place column : ℕ) → Read

-- ---- how long a sheet with n numbers on each line may be, and which bytes are line k, counted from 0

module _ (n : ℕ) where
  abbrev pub line_size : ℕ
  line_size = 1 + n * field_size + 1

  -- H, Z and as many others as there may be
  abbrev pub most_bytes : ℕ
  most_bytes = (most_gates + most_rules + most_wishes + 2) * line_size

  abbrev pub length_ok : ℕ → Bool
  length_ok m = ltb 0 m && (leb m most_bytes && eqb (m % line_size) 0)

  abbrev pub line_count : List ℕ → ℕ
  line_count s = length s / line_size

  abbrev pub bytes_at : List ℕ → ℕ → List ℕ
  bytes_at s k = take line_size (drop (k * line_size) s)

  -- no line comes after line k
  abbrev pub is_last : List ℕ → ℕ → Bool
  is_last s k = eqb (suc k) (line_count s)
