-- What the steps over wish lines give: in no promise of an exported call. Assumes nothing.
use Rattle.std.specs.Prelude.{ℕ, ◌+◌, ◌≤◌, Bool, false, not, ◌&&◌, Result, Ok, Err, List, [], ◌∷◌, ◌++◌, ◌≡◌, eqb, leb, ltb, length}
use Prim.Native.Char.{code}
use Rattle.scope.specs.Sheet.{plus, Clause, Wish, wish as wishOf, most_wishes, most_literals}
use Rattle.scope.specs.Causes.{Test, is_weight}
use Rattle.scope.specs.Meaning.{all}
use Rattle.scope.specs.Typed.{Formula, Typed, typed, most_number}
use Rattle.scope.specs.Text.{bytes}
use Rattle.scope.specs.Parsing.{State, word, digits, literal, wish_line, wish, ended, add_wish}
use Rattle.scope.specs.Words.{literal_at}
use Rattle.words.specs.Entries.{literal_of}
use Rattle.words.specs.declared.literal.Literal.{Literal}
use Rattle.scanner.specs.Look.{look}
use Rattle.scanner.specs.Tokens.{StuckAt, Came}
use Rattle.scanner.specs.declared.token.Stuck.{Stuck}
use Rattle.scanner.specs.declared.token.Token.{Token}
use Rattle.formula.specs.declared.points.Points.{Points}
use Rattle.text.specs.declared.lines.Lines.{Lines}
use Rattle.text.specs.declared.wish.Literals.{Literals}
use Rattle.text.specs.Lines.{room_tests, FirstWith, Told, LinesRead}

-- ---- literals

-- where a literal begins, and where its name does
abbrev pub one_literal : Typed → Clause → State
one_literal v xs = wish v xs

abbrev pub named : Bool → Typed → Clause → State
named minus v xs = word (bytes "s") (digits (literal v xs minus))

-- one literal from `at` on, which ends before n
pub record LiteralGood (From : Typed → Clause → State) (s : List ℕ) (at : ℕ) (x : Literal) (n : ℕ) : Type 0 where
  pub few : x.switch ≤ most_number
  pub came : (v : Typed) (xs : Clause) → Came s (From v xs) at (ended v (xs ++ literal_of x ∷ [])) n

abbrev pub LiteralRead : (From : Typed → Clause → State) (s : List ℕ) (at : ℕ) → Result (Literal × ℕ) Stuck → Type 0
LiteralRead From s at (Ok p) = LiteralGood From s at p.0 p.1
LiteralRead From s at (Err e) = (v : Typed) (xs : Clause) → StuckAt s (From v xs) at e.0

-- the words of a wish before its weight
abbrev pub codes_of : Clause → List ℕ
codes_of xs = literal_at 0 xs ∷ literal_at 1 xs ∷ literal_at 2 xs ∷ []

-- w holds the codes of these literals, on a sheet with a switches
pub record Codes (a : ℕ) (w : Literals) (xs : Clause) : Type 0 where
  pub count : w.count ≡ length xs
  pub codes : w.codes ≡ codes_of xs
  pub known : w.known ≡ all xs (λ x. leb x.size a)

-- and one more
pub record WithLiteral (a : ℕ) (w : Literals) (x : Literal) (n : ℕ) (r : Literals) : Type 0 where
  pub at : r.at ≡ n
  pub count : r.count ≡ w.count + 1
  pub literals : (xs : Clause) → Codes a w xs → Codes a r (xs ++ literal_of x ∷ [])

-- one more literal is read from `at` on
pub record More (s : List ℕ) (a at : ℕ) (w r : Literals) : Type 0 where
  pub literal : Literal
  pub good : LiteralGood one_literal s at literal r.at
  pub one : WithLiteral a w literal r.at r

abbrev pub OneMore : List ℕ → (a at : ℕ) → Literals → Result Literals Stuck → Type 0
OneMore s a at w (Ok r) = More s a at w r
OneMore s a at w (Err e) = (v : Typed) (xs : Clause) → StuckAt s (one_literal v xs) at e.0

abbrev pub weight_letter : ℕ
weight_letter = code "w"

-- a space stands at n, and no weight begins after it
unfoldable pub literal_follows : List ℕ → (n : ℕ) → Bool
literal_follows s n = eqb (look s n) (code " ") && not (eqb (look s (n + 1)) weight_letter)

unfoldable pub more_literals : List ℕ → Literals → Bool
more_literals s w = ltb w.count most_literals && literal_follows s w.at

-- the literals of a wish from `at` on
pub record LiteralsGood (s : List ℕ) (a at : ℕ) (w : Literals) : Type 0 where
  pub few : w.count ≤ most_literals
  pub clause : Clause
  pub codes : Codes a w clause
  pub came : (v : Typed) → Came s (wish v []) at (ended v clause) w.at

abbrev pub LiteralsRead : List ℕ → (a at : ℕ) → Result Literals Stuck → Type 0
LiteralsRead s a at (Ok w) = LiteralsGood s a at w × (more_literals s w ≡ false)
LiteralsRead s a at (Err e) = (v : Typed) → StuckAt s (wish v []) at e.0

-- ---- the weight, and the line feed

-- no literal comes after these
abbrev pub NoLiteral : List ℕ → Clause → (n : ℕ) → Type 0
NoLiteral s xs n = (ltb (length xs) most_literals && literal_follows s n) ≡ false

abbrev pub WeightRead : List ℕ → (at : ℕ) → Result Token Stuck → Type 0
WeightRead s at (Ok t) = (v : Typed) (xs : Clause) → NoLiteral s xs at → Came s (ended v xs) at (wish_line (add_wish v (wishOf xs t.value))) t.at
WeightRead s at (Err e) = (v : Typed) (xs : Clause) → NoLiteral s xs at → StuckAt s (ended v xs) at e.0

-- ---- wishes

pub record WishesTold (s : List ℕ) (c : Points) (l : Lines) (u : List ℕ) : Type 0 where
  pub rules : List Formula
  pub wishes : List Wish
  pub told : Told wish_line s (typed c.switches c.faults rules wishes) l u

abbrev pub WishesRead : (s : List ℕ) (c : Points) → Result Lines Stuck → (u : List ℕ) → Type 0
WishesRead s c r u = LinesRead (λ l. WishesTold s c l u) s r

abbrev pub wish_tests : (room known : Bool) (weight : ℕ) → List Test
wish_tests room known weight = room_tests room known ++ (14, is_weight (plus weight)) ∷ []

pub record WithWish (l : Lines) (known : Bool) (weight : Token) (r : Lines) : Type 0 where
  pub at : r.at ≡ weight.at
  pub gates : r.gates ≡ l.gates
  pub rules : r.rules ≡ l.rules
  pub wishes : r.wishes ≡ l.wishes + 1
  pub fault : FirstWith l.fault (wish_tests (ltb l.wishes most_wishes) known weight.value) (l.rules + l.wishes + 3) r.fault
