-- What reading a typed text gives, byte by byte; `text_read` (Claims) says all of it in plain quantifiers. Assumes nothing.
use Rattle.std.specs.Prelude.{ℕ, suc, ◌+◌, ◌-◌, ◌*◌, Bool, true, false, cond, ◌&&◌, List, [], ◌∷◌, ◌++◌, eqb, leb, ltb, length}
use Prim.Native.Char.{code}
use Rattle.std.proofs.Math.Option.{Option, none, some}
use Rattle.scope.specs.Text.{bytes}
use Rattle.scope.specs.Sheet.{number, Clause, Wish, wish as wishOf, most_literals}
use Rattle.scope.specs.Causes.{Test, Read, accepted, refused}
use Rattle.scope.specs.Reading.{first_fault, unless_fault, when}
use Rattle.scope.specs.Typed.{Formula, Typed, typed, Level, ors, ands, factor, most_nested, most_text, line_tests, sheet_of}

-- ---- where a text has come to

-- what a formula at a level is a part of: the formulas to its left, and the nots and brackets around it
pub data Around : Level → Type 0 where
  line : Typed → Around ors
  bracket : Around factor → Around ors
  first : Around ors → Around ands
  bar : Formula → Around ors → Around ands
  head : Around ands → Around factor
  amp : Formula → Around ands → Around factor
  bang : Around factor → Around factor

-- brackets and nots
unfoldable pub nested : {l : Level} → Around l → ℕ
nested (line v) = 0
nested (bracket k) = suc (nested k)
nested (first o) = nested o
nested (bar x o) = nested o
nested (head a) = nested a
nested (amp x a) = nested a
nested (bang k) = suc (nested k)

-- what a number is for
pub data Slot : Type 0 where
  switches : Slot
  faults : ℕ → Slot
  switch fault : Around factor → Slot
  literal : Typed → Clause → Bool → Slot
  weight : Typed → Clause → Slot

pub data State : Type 0 where
  -- these bytes, and then more
  word : List ℕ → State → State
  -- a number's first digit, and the next if there is one
  digits : Slot → State
  further : Slot → ℕ → State
  -- a line after the lines of a typed sheet that has no wish yet, or has some
  rule_line wish_line : Typed → State
  -- an operand, which a space may precede or not
  spaced operand : Around factor → State
  -- a sign after an operand, which a space may precede or not
  after sign : Around ands → Formula → State
  -- a literal of a wish, what comes after it, and after a space there: one more literal, or the weight
  wish : Typed → Clause → State
  ended : Typed → Clause → State
  another : Typed → Clause → State

abbrev pub feed : List ℕ
feed = code "\n" ∷ []

abbrev pub add_rule : Typed → Formula → Typed
add_rule v x = typed v.switches v.faults (v.rules ++ x ∷ []) v.wishes

abbrev pub add_wish : Typed → Wish → Typed
add_wish v w = typed v.switches v.faults v.rules (v.wishes ++ w ∷ [])

-- an operand is complete, and with it the nots before it
unfoldable pub operand_done : Around factor → Formula → State
operand_done (head a) x = after a x
operand_done (amp y a) x = after a (Formula.and y x)
operand_done (bang k) x = operand_done k (Formula.not x)

-- a number is complete
unfoldable pub number_done : Slot → ℕ → State
number_done switches n = word (feed ++ bytes "faults ") (digits (faults n))
number_done (faults a) n = word feed (rule_line (typed a n [] []))
number_done (switch k) n = operand_done k (Formula.switch n)
number_done (fault k) n = operand_done k (Formula.fault n)
number_done (literal v w minus) n = ended v (w ++ number minus n ∷ [])
number_done (weight v w) n = word feed (wish_line (add_wish v (wishOf w n)))

-- a formula with those to its left, and what it is a part of then
abbrev pub joined_or : Around ands → Formula → Formula
joined_or (first o) x = x
joined_or (bar y o) x = Formula.or y x

abbrev pub outside : Around ands → Around ors
outside (first o) = o
outside (bar y o) = o

-- a formula is complete: by a bracket, and by a line feed
abbrev pub closed : Around ors → Formula → Option State
closed (line v) x = none
closed (bracket k) x = some (operand_done k x)

abbrev pub fed : Around ors → Formula → Option State
fed (line v) x = some (rule_line (add_rule v x))
fed (bracket k) x = none

-- ---- one more byte

abbrev pub is_digit : ℕ → Bool
is_digit b = leb (code "0") b && leb b (code "9")

abbrev pub digit_of : ℕ → ℕ
digit_of b = b - code "0"

-- a number of switches or faults, and a weight, may be 0
abbrev pub zero_ok : Slot → Bool
zero_ok switches = true
zero_ok (faults a) = true
zero_ok (switch k) = false
zero_ok (fault k) = false
zero_ok (literal v w minus) = false
zero_ok (weight v w) = true

-- numbers below these have fewer digits than two, and than four
abbrev pub two_digits : ℕ
two_digits = 10

abbrev pub four_digits : ℕ
four_digits = 1000

-- a number below this may have one more digit
abbrev pub room : Slot → ℕ
room switches = two_digits
room (faults a) = two_digits
room (switch k) = two_digits
room (fault k) = two_digits
room (literal v w minus) = two_digits
room (weight v w) = four_digits

unfoldable pub grown : Slot → ℕ → State
grown slot n = cond (ltb n (room slot)) (further slot n) (number_done slot n)

-- the state after the byte b, if b is the one asked for; otherwise what comes next in the list
abbrev pub Arm : Type 0
Arm = ℕ × Option State

abbrev pub on : ℕ → List Arm → Option State
on b [] = none
on b (r ∷ rs) = cond (eqb b r.0) r.1 (on b rs)

unfoldable pub nested_more : Around factor → State → Option State
nested_more k st = when (ltb (nested k) most_nested) st

abbrev pub operand_arms : Around factor → List Arm
operand_arms k = (code "s", some (digits (switch k))) ∷ (code "f", some (digits (fault k))) ∷ (code "!", nested_more k (spaced (bang k))) ∷ (code "(", nested_more k (spaced (head (first (bracket k))))) ∷ []

abbrev pub sign_arms : Around ands → Formula → List Arm
sign_arms a x = (code "&", some (spaced (amp x a))) ∷ (code "|", some (spaced (head (bar (joined_or a x) (outside a))))) ∷ (code ")", closed (outside a) (joined_or a x)) ∷ []

abbrev pub literal_arms : Typed → Clause → List Arm
literal_arms v w = (code "s", some (digits (Slot.literal v w false))) ∷ (code "!", some (word (bytes "s") (digits (Slot.literal v w true)))) ∷ []

unfoldable pub move : State → ℕ → Option State
move (word [] st) b = none
move (word (c ∷ []) st) b = on b ((c, some st) ∷ [])
move (word (c ∷ d ∷ s) st) b = on b ((c, some (word (d ∷ s) st)) ∷ [])
move (digits slot) b = cond (eqb b (code "0")) (when (zero_ok slot) (number_done slot 0)) (when (is_digit b) (further slot (digit_of b)))
move (further slot n) b = none
move (rule_line v) b = on b ((code "r", some (word (bytes "ule ") (operand (head (first (line v)))))) ∷ (code "w", some (word (bytes "ish ") (wish v []))) ∷ [])
move (wish_line v) b = on b ((code "w", some (word (bytes "ish ") (wish v []))) ∷ [])
move (operand k) b = on b (operand_arms k)
move (spaced k) b = on b ((code " ", some (operand k)) ∷ operand_arms k)
move (sign a x) b = on b (sign_arms a x)
move (after a x) b = on b ((code " ", some (sign a x)) ∷ (code "\n", fed (outside a) (joined_or a x)) ∷ sign_arms a x)
move (wish v w) b = on b (literal_arms v w)
move (ended v w) b = on b ((code " ", some (another v w)) ∷ (code "\n", some (wish_line (add_wish v (wishOf w 1)))) ∷ [])
move (another v w) b = on b ((code "w", some (word (bytes "eight ") (digits (Slot.weight v w)))) ∷ cond (ltb (length w) most_literals) (literal_arms v w) [])

-- one more digit, or what may come after the number
unfoldable pub step : State → ℕ → Option State
step (further slot n) b = cond (is_digit b) (some (grown slot (n * 10 + digit_of b))) (move (number_done slot n) b)
step (word s st) b = move (word s st) b
step (digits slot) b = move (digits slot) b
step (rule_line v) b = move (rule_line v) b
step (wish_line v) b = move (wish_line v) b
step (operand k) b = move (operand k) b
step (spaced k) b = move (spaced k) b
step (sign a x) b = move (sign a x) b
step (after a x) b = move (after a x) b
step (wish v w) b = move (wish v w) b
step (ended v w) b = move (ended v w) b
step (another v w) b = move (another v w) b

-- ---- the whole

-- the value of a legal text, or how many bytes are left where none goes on
pub data Outcome : Type 0 where
  legal : Typed → Outcome
  stuck : ℕ → Outcome

-- a text may end after a line
unfoldable pub at_end : State → Outcome
at_end (rule_line v) = legal v
at_end (wish_line v) = legal v
at_end (word s st) = stuck 0
at_end (digits slot) = stuck 0
at_end (further slot n) = stuck 0
at_end (operand k) = stuck 0
at_end (spaced k) = stuck 0
at_end (sign a x) = stuck 0
at_end (after a x) = stuck 0
at_end (wish v w) = stuck 0
at_end (ended v w) = stuck 0
at_end (another v w) = stuck 0

abbrev pub go_on : Option State → ℕ → (State → Outcome) → Outcome
go_on none left more = stuck left
go_on (some st) left more = more st

unfoldable pub walk : State → List ℕ → Outcome
walk st [] = at_end st
walk st (b ∷ s) = go_on (step st b) (suc (length s)) (λ st. walk st s)

abbrev pub start : State
start = word (bytes "switches ") (digits switches)

-- the first line with a fault, from line k on
unfoldable pub first_line : ℕ → List (List Test) → Read → Read
first_line k [] more = more
first_line k (rs ∷ rss) more = unless_fault (first_fault rs) k 0 (first_line (suc k) rss more)

-- 12: the text is too long or not legal
abbrev pub text_of : ℕ → Outcome → Read
text_of n (legal v) = first_line 1 (line_tests v) (accepted (sheet_of v))
text_of n (stuck left) = refused 12 (suc (n - left)) 0

unfoldable pub read_text : List ℕ → Read
read_text s = cond (leb (length s) most_text) (text_of (length s) (walk start s)) (refused 12 0 0)
