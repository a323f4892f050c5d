-- The planning sheet: its value, how it is printed, and when it is valid. Assumes nothing.
use Rattle.std.specs.Prelude.{ℕ, zero, suc, ◌+◌, ◌-◌, ◌/◌, ◌%◌, ◌≤◌, Bool, true, false, cond, ◌&&◌, List, [], ◌∷◌, ◌++◌, map, ◌≡◌, leb, ltb, length, replicate}
use Prim.Native.Char.{code}

-- ---- the value

-- a whole number by sign and size
pub record Number : Type 0 where
  pub minus : Bool
  pub size : ℕ

abbrev pub number : Bool → ℕ → Number
number m n = record { minus = m; size = n }

abbrev pub plus : ℕ → Number
plus n = number false n

-- A clause of switch literals: k means switch k on, and -k means off.
abbrev pub Clause : Type 0
Clause = List Number

-- A wish is a clause and its weight, which is what breaking it costs.
pub record Wish : Type 0 where
  pub clause : Clause
  pub weight : ℕ

abbrev pub wish : Clause → ℕ → Wish
wish w n = record { clause = w; weight = n }

-- Points are numbered 1 to a for switches, a+1 to a+f for faults, then one for each gate in line order.
pub data Gate : Type 0 where
  not : ℕ → Gate
  and or : ℕ → ℕ → Gate

pub record Sheet : Type 0 where
  pub switches : ℕ
  pub faults : ℕ
  pub gates : List Gate
  pub rules : List ℕ
  pub wishes : List Wish

abbrev pub sheet : ℕ → ℕ → List Gate → List ℕ → List Wish → Sheet
sheet a f gs rs ws = record { switches = a; faults = f; gates = gs; rules = rs; wishes = ws }

abbrev pub points : Sheet → ℕ
points t = t.switches + t.faults + length t.gates

-- ---- a number, right-justified with spaces in five columns

abbrev pub field_size : ℕ
field_size = 5

abbrev pub digit : ℕ → ℕ
digit d = code "0" + d

-- up to w digits, no leading zero
unfoldable pub decimal : ℕ → ℕ → List ℕ
decimal zero n = []
decimal (suc w) n = cond (ltb n 10) (digit n ∷ []) (decimal w (n / 10) ++ digit (n % 10) ∷ [])

-- a minus stands directly before the first digit
abbrev pub signed : Bool → List ℕ → List ℕ
signed true s = code "-" ∷ s
signed false s = s

abbrev pub justified : ℕ → List ℕ → List ℕ
justified w s = replicate (w - length s) (code " ") ++ s

unfoldable pub field : Number → List ℕ
field x = justified field_size (signed x.minus (decimal field_size x.size))

-- from -9999 to 99999, and "-0" is none
abbrev pub fits : Number → Bool
fits x = cond x.minus (ltb 0 x.size && leb x.size 9999) (leb x.size 99999)

-- ---- a line: one letter, its fields, one line feed

pub data Letter : Type 0 where
  H N A O R W Z : Letter

abbrev pub letter_byte : Letter → ℕ
letter_byte H = code "H"
letter_byte N = code "N"
letter_byte A = code "A"
letter_byte O = code "O"
letter_byte R = code "R"
letter_byte W = code "W"
letter_byte Z = code "Z"

pub record Line : Type 0 where
  pub letter : Letter
  pub fields : List Number

abbrev pub line : Letter → List Number → Line
line c xs = record { letter = c; fields = xs }

unfoldable pub fields_bytes : List Number → List ℕ
fields_bytes [] = code "\n" ∷ []
fields_bytes (x ∷ xs) = field x ++ fields_bytes xs

abbrev pub line_bytes : Line → List ℕ
line_bytes l = letter_byte l.letter ∷ fields_bytes l.fields

unfoldable pub text : List Line → List ℕ
text [] = []
text (l ∷ ls) = line_bytes l ++ text ls

-- ---- two layouts of a sheet: H, then gates, R lines, W lines, and Z

-- `plain` lines have three numbers, 17 bytes, and every wish weighs 1; `weighted` ones have four, 22 bytes
pub data Layout : Type 0 where
  plain weighted : Layout

abbrev pub field_count : Layout → ℕ
field_count plain = 3
field_count weighted = 4

-- unused fields hold 0
abbrev pub filled : ℕ → List Number → List Number
filled n xs = xs ++ replicate (n - length xs) (plus 0)

abbrev pub most_literals : ℕ
most_literals = 3

-- the fourth number of a wish
abbrev pub weight_field : Layout → ℕ → List Number
weight_field plain n = []
weight_field weighted n = plus n ∷ []

module _ (y : Layout) where
  abbrev pub head_line : ℕ → ℕ → Line
  head_line a f = line H (filled (field_count y) (plus a ∷ plus f ∷ []))

  abbrev pub gate_line : Gate → Line
  gate_line (not p) = line N (filled (field_count y) (plus p ∷ []))
  gate_line (and p q) = line A (filled (field_count y) (plus p ∷ plus q ∷ []))
  gate_line (or p q) = line O (filled (field_count y) (plus p ∷ plus q ∷ []))

  abbrev pub rule_line : ℕ → Line
  rule_line p = line R (filled (field_count y) (plus p ∷ []))

  abbrev pub wish_line : Wish → Line
  wish_line w = line W (filled most_literals w.clause ++ weight_field y w.weight)

  abbrev pub end_line : ℕ → Line
  end_line k = line Z (filled (field_count y) (plus k ∷ []))

  -- all but Z
  unfoldable pub body : Sheet → List Line
  body t = head_line t.switches t.faults ∷ map gate_line t.gates ++ map rule_line t.rules ++ map wish_line t.wishes

  -- Z counts the lines before it
  abbrev pub sheet_lines : Sheet → List Line
  sheet_lines t = body t ++ end_line (length (body t)) ∷ []

  abbrev pub sheet_bytes : Sheet → List ℕ
  sheet_bytes t = text (sheet_lines t)

-- ---- what a sheet may say

abbrev pub most_switches : ℕ
most_switches = 20

abbrev pub most_faults : ℕ
most_faults = 16

abbrev pub most_gates : ℕ
most_gates = 400

abbrev pub most_rules : ℕ
most_rules = 64

abbrev pub most_wishes : ℕ
most_wishes = 64

abbrev pub most_weight : ℕ
most_weight = 999

abbrev pub All : {A : Type 0} → (A → Type 0) → List A → Type 0
All P [] = Unit {0}
All P (a ∷ s) = P a × All P s

-- p is one of the numbers 1 to n
abbrev pub Among : ℕ → ℕ → Type 0
Among n p = (1 ≤ p) × (p ≤ n)

abbrev pub Names : ℕ → Gate → Type 0
Names n (not p) = Among n p
Names n (and p q) = Among n p × Among n q
Names n (or p q) = Among n p × Among n q

-- a gate names only points before its own; n points stand before the first
abbrev pub Ordered : ℕ → List Gate → Type 0
Ordered n [] = Unit {0}
Ordered n (g ∷ gs) = Names n g × Ordered (suc n) gs

-- a wish over a switches
pub record Allowed (a : ℕ) (w : Wish) : Type 0 where
  pub few : length w.clause ≤ most_literals
  pub literals : All (λ x. Among a x.size) w.clause
  pub weight : Among most_weight w.weight

pub record Valid (t : Sheet) : Type 0 where
  pub switches : t.switches ≤ most_switches
  pub faults : t.faults ≤ most_faults
  pub few_gates : length t.gates ≤ most_gates
  pub few_rules : length t.rules ≤ most_rules
  pub few_wishes : length t.wishes ≤ most_wishes
  pub gates : Ordered (t.switches + t.faults) t.gates
  pub rules : All (Among (points t)) t.rules
  pub wishes : All (Allowed t.switches) t.wishes

-- these wishes can be said in a layout: without a number for it every weight is 1
abbrev pub Sayable : Layout → List Wish → Type 0
Sayable plain ws = All (λ w. w.weight ≡ 1) ws
Sayable weighted ws = Unit {0}
