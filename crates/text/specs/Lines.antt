-- What the steps over the head and the rule lines give: in no promise of an exported call. Assumes nothing.
use Rattle.std.specs.Prelude.{ℕ, ◌+◌, ◌≤◌, ◌<◌, Bool, ◌&&◌, Option, None, Some, Result, Ok, Err, List, [], ◌∷◌, ◌++◌, ◌≢◌, ◌≡◌, leb, ltb, length}
use Prim.Native.Char.{code}
use Rattle.scope.specs.Sheet.{All, most_gates, most_rules}
use Rattle.scope.specs.Causes.{Test, Met}
use Rattle.scope.specs.Typed.{Formula, Typed, typed, most_text, all_gates, line_tests, sheet_of}
use Rattle.scope.specs.Texts.{FirstLine}
use Rattle.scope.specs.Parsing.{State, start, rule_line}
use Rattle.words.specs.Entries.{Kept}
use Rattle.words.specs.Refusals.{number_of, Tested}
use Rattle.words.specs.declared.refusal.Refusal.{Refusal}
use Rattle.scanner.specs.Look.{look}
use Rattle.scanner.specs.Tokens.{StuckAt, Came}
use Rattle.scanner.specs.declared.token.Stuck.{Stuck}
use Rattle.formula.specs.declared.parsed.Parsed.{Parsed}
use Rattle.formula.specs.declared.points.Points.{Points}
use Rattle.text.specs.declared.head.Head.{Head}
use Rattle.text.specs.declared.lines.Fault.{Fault}
use Rattle.text.specs.declared.lines.Lines.{Lines}

-- ---- the first fault

abbrev pub Faulted : List (List Test) → Option Fault → Type 0
Faulted rss None = All Met rss
Faulted rss (Some f) = FirstLine (number_of f.refusal) f.line rss

-- with one more line
abbrev pub FirstOf : Option Fault → Result Unit Refusal → (line : ℕ) → Option Fault → Type 0
FirstOf f tested line r = (rss : List (List Test)) (rs : List Test) → Faulted rss f → Tested rs tested → line ≡ length rss + 1 → Faulted (rss ++ rs ∷ []) r

-- the tests of a rule, and the first ones of a wish: whether there is room for it, and whether its numbers are on the sheet
abbrev pub room_tests : (room known : Bool) → List Test
room_tests room known = (5, room) ∷ (6, known) ∷ []

-- with one more rule or wish, whose tests these are
abbrev pub FirstWith : Option Fault → List Test → (line : ℕ) → Option Fault → Type 0
FirstWith f rs line r = (rss : List (List Test)) → Faulted rss f → line ≡ length rss + 1 → Faulted (rss ++ rs ∷ []) r

-- ---- the first two lines

abbrev pub HeadRead : List ℕ → Result Head Stuck → Type 0
HeadRead s (Ok h) = Came s start 0 (rule_line (typed h.points.switches h.points.faults [] [])) h.at
HeadRead s (Err e) = StuckAt s start 0 e.0

-- as lines, with their faults
pub record HeadLines (h : Head) (r : Lines) : Type 0 where
  pub at : r.at ≡ h.at
  pub gates : r.gates ≡ 0
  pub rules : r.rules ≡ 0
  pub wishes : r.wishes ≡ 0
  pub fault : Faulted (line_tests (typed h.points.switches h.points.faults [] [])) r.fault

-- ---- lines

abbrev pub rule_letter : ℕ
rule_letter = code "r"

abbrev pub wish_letter : ℕ
wish_letter = code "w"

-- they are read: either P holds of them, or no legal text goes on
abbrev pub LinesRead : (P : Lines → Type 0) → List ℕ → Result Lines Stuck → Type 0
LinesRead P s (Ok l) = P l
LinesRead P s (Err e) = StuckAt s start 0 e.0

-- no line with this first letter comes next
abbrev pub NoMore : List ℕ → ℕ → Result Lines Stuck → Type 0
NoMore s b (Ok l) = look s l.at ≢ b
NoMore s b (Err e) = Unit {0}

-- they end later
abbrev pub Later : ℕ → Result Lines Stuck → Type 0
Later n (Ok l) = n < l.at
Later n (Err e) = Unit {0}

-- ---- what the lines so far say

-- they say v, after them the walk is at `at v`, and the words are those of v's sheet, as long as there is room
pub record Told (at : Typed → State) (s : List ℕ) (v : Typed) (l : Lines) (u : List ℕ) : Type 0 where
  pub short : length s ≤ most_text
  pub few : l.gates + l.rules + l.wishes ≤ l.at
  pub came : Came s start 0 (at v) l.at
  pub gates : l.gates ≡ length (all_gates v.switches v.faults 0 v.rules)
  pub rules : l.rules ≡ length v.rules
  pub wishes : l.wishes ≡ length v.wishes
  pub kept : Kept (sheet_of v) u
  pub fault : Faulted (line_tests v) l.fault

-- ---- rules

-- no wish stands before them (so this is no case of the record for wishes, which has a list of them)
pub record RulesTold (s : List ℕ) (c : Points) (l : Lines) (u : List ℕ) : Type 0 where
  pub rules : List Formula
  pub told : Told rule_line s (typed c.switches c.faults rules []) l u

abbrev pub RulesRead : (s : List ℕ) (c : Points) → Result Lines Stuck → (u : List ℕ) → Type 0
RulesRead s c r u = LinesRead (λ l. RulesTold s c l u) s r

pub record WithRule (l : Lines) (p : Parsed) (r : Lines) : Type 0 where
  pub at : r.at ≡ p.at
  pub gates : r.gates ≡ p.gates
  pub rules : r.rules ≡ l.rules + 1
  pub wishes : r.wishes ≡ l.wishes
  pub fault : FirstWith l.fault (room_tests (leb p.gates most_gates && ltb l.rules most_rules) p.known) (l.rules + l.wishes + 3) r.fault
