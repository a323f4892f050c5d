-- What the steps over formulas give: in no promise of an exported call. Assumes nothing.
use Rattle.std.specs.Prelude.{ℕ, ◌+◌, ◌≤◌, ◌<◌, Bool, false, cond, ◌||◌, Result, Ok, Err, List, ◌++◌, ◌≢◌, ◌≡◌, eqb, leb, length}
use Prim.Native.Char.{code}
use Rattle.scope.specs.Sheet.{Sheet, sheet}
use Rattle.scope.specs.Sheet as scope
use Rattle.scope.specs.Typed.{Formula, Level, ors, ands, factor, most_text, most_nested, operators, point, gates_of, known}
use Rattle.scope.specs.Parsing.{Around, first, head, nested, operand, after, operand_done, joined_or, outside, Slot, digits, zero_ok}
use Rattle.words.specs.Entries.{Kept, GatePut}
use Rattle.scanner.specs.Look.{look, skip}
use Rattle.scanner.specs.Tokens.{StuckAt, Came, SlotGood}
use Rattle.scanner.specs.declared.token.Digits.TheVariants.{Two}
use Rattle.formula.specs.declared.parsed.Parsed.{Parsed}
use Rattle.formula.specs.declared.points.Points.{Points}
use Rattle.scanner.specs.declared.token.Stuck.{Stuck}
use Rattle.scanner.specs.declared.token.Token.{Token}

-- ---- a formula and its gates

-- with g gates before it, r is x read from a place on
pub record Built (c : Points) (g at : ℕ) (x : Formula) (r : Parsed) : Type 0 where
  pub ahead : operators x + at < r.at
  pub gates : r.gates ≡ g + operators x
  pub known : r.known ≡ known c.switches c.faults x
  pub point : r.point ≡ point c.switches c.faults g x

-- the words of a sheet before and after these gates are put
abbrev pub Filled : List scope.Gate → (before after : List ℕ) → Type 0
Filled gs u v = (t : Sheet) → Kept t u → Kept (sheet t.switches t.faults (t.gates ++ gs) t.rules t.wishes) v

-- ---- the walk over a formula at each level

-- the last of the formulas that are joined by `|` is y
pub record OrsCome (s : List ℕ) (k : Around ors) (at : ℕ) (x : Formula) (n : ℕ) : Type 0 where
  pub inner : Around ands
  pub last : Formula
  pub around : outside inner ≡ k
  pub whole : joined_or inner last ≡ x
  pub came : Came s (operand (head (first k))) at (after inner last) n

-- from `at` it comes past x to n; nots and brackets in x may be so deep
abbrev pub LevelCame : Level → List ℕ → (depth at : ℕ) → Formula → (n : ℕ) → Type 0
LevelCame factor s depth at x n = (k : Around factor) → nested k + depth ≡ most_nested → Came s (operand k) at (operand_done k x) n
LevelCame ands s depth at x n = (k : Around ands) → nested k + depth ≡ most_nested → Came s (operand (head k)) at (after k x) n
LevelCame ors s depth at x n = (k : Around ors) → nested k + depth ≡ most_nested → OrsCome s k at x n

-- it is stuck at n
abbrev pub LevelStuck : Level → List ℕ → (depth at n : ℕ) → Type 0
LevelStuck factor s depth at n = (k : Around factor) → nested k + depth ≡ most_nested → StuckAt s (operand k) at n
LevelStuck ands s depth at n = (k : Around ands) → nested k + depth ≡ most_nested → StuckAt s (operand (head k)) at n
LevelStuck ors s depth at n = (k : Around ors) → nested k + depth ≡ most_nested → StuckAt s (operand (head (first k))) at n

-- ---- what was read of a formula at a level, with the words of the sheet before and after

pub record Good (l : Level) (s : List ℕ) (depth : ℕ) (c : Points) (g at : ℕ) (p : Parsed) (before after : List ℕ) : Type 0 where
  pub formula : Formula
  pub within : p.at ≤ length s
  pub few : p.gates ≤ most_text
  pub came : LevelCame l s depth at formula p.at
  pub built : Built c g at formula p
  pub filled : Filled (gates_of c.switches c.faults g formula) before after

-- nothing was read: no legal text goes on at n
pub record Halted (l : Level) (s : List ℕ) (depth at n : ℕ) : Type 0 where
  pub within : n ≤ length s
  pub bad : LevelStuck l s depth at n

abbrev pub LevelRead : (l : Level) (s : List ℕ) (depth : ℕ) (c : Points) (g at : ℕ) → Result Parsed Stuck → (before after : List ℕ) → Type 0
LevelRead l s depth c g at (Ok p) u v = Good l s depth c g at p u v
LevelRead l s depth c g at (Err e) u v = Halted l s depth at e.0

-- a single number, with so many points before its own
pub record NumberIs (s : List ℕ) (at before most g : ℕ) (p : Parsed) : Type 0 where
  pub number : Token
  pub read : SlotGood digits s false Two at number
  pub is : p ≡ record { at = number.at; point = before + number.value; known = leb number.value most; gates = g }

abbrev pub Numbered : (s : List ℕ) (at before most g : ℕ) → Result Parsed Stuck → Type 0
Numbered s at before most g (Ok p) = NumberIs s at before most g p
Numbered s at before most g (Err e) = (slot : Slot) → zero_ok slot ≡ false → StuckAt s (digits slot) at e.0

-- a switch or a fault: no gate
abbrev pub AtomRead : List ℕ → Points → (g at : ℕ) → Result Parsed Stuck → Type 0
AtomRead s c g at r = (depth : ℕ) (u : List ℕ) → LevelRead factor s depth c g at r u u

-- what is asked of a place where a formula is to be read
pub record Asked (s : List ℕ) (g at : ℕ) : Type 0 where
  pub within : at ≤ length s
  pub short : length s ≤ most_text
  pub few : g ≤ at

-- ---- signs

abbrev pub not_sign : ℕ
not_sign = code "!"

abbrev pub open_sign : ℕ
open_sign = code "("

abbrev pub and_sign : ℕ
and_sign = code "&"

abbrev pub or_sign : ℕ
or_sign = code "|"

-- these two signs
unfoldable pub goes_deeper : ℕ → Bool
goes_deeper b = eqb b not_sign || eqb b open_sign

-- the sign that comes next
abbrev pub sign_at : List ℕ → ℕ → ℕ
sign_at s n = look s (skip s n)

-- where the operand after it begins
abbrev pub operand_at : List ℕ → ℕ → ℕ
operand_at s n = skip s (skip s n + 1)

-- after a level no sign of that level comes
abbrev pub Ends : List ℕ → ℕ → Result Parsed Stuck → Type 0
Ends s b (Ok p) = sign_at s p.at ≢ b
Ends s b (Err e) = Unit {0}

-- ---- one more gate

abbrev pub gated : Points → Bool → Parsed → Parsed
gated c known p = record { at = p.at; point = c.switches + c.faults + (p.gates + 1); known = known; gates = p.gates + 1 }

pub record Gated (c : Points) (gate : scope.Gate) (known : Bool) (p r : Parsed) (before after : List ℕ) : Type 0 where
  pub is : r ≡ gated c known p
  pub puts : GatePut gate before after

-- ---- the bracket or the line feed after a formula

abbrev pub moved : Parsed → ℕ → Parsed
moved p n = record { at = n; point = p.point; known = p.known; gates = p.gates }

-- the byte b at n
unfoldable pub ended_of : List ℕ → Parsed → (n b : ℕ) → Result Parsed Stuck
ended_of s p n b = cond (eqb (look s n) b) (Ok (moved p (n + 1))) (Err record { 0 = skip s p.at })

abbrev pub closed_of : List ℕ → Parsed → Result Parsed Stuck
closed_of s p = ended_of s p (skip s p.at) (code ")")

abbrev pub fed_of : List ℕ → Parsed → Result Parsed Stuck
fed_of s p = ended_of s p p.at (code "\n")
