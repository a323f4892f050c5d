-- The typed sheet: its value, the texts that can be written for it, and the sheet that it stands for. Assumes nothing.
use Rattle.std.specs.Prelude.{ℕ, suc, ◌+◌, ◌≤◌, Bool, cond, ◌&&◌, ◌||◌, List, [], ◌∷◌, ◌++◌, ◌≡◌, leb, ltb, length}
use Prim.Native.Char.{code}
use Rattle.std.proofs.Math.Bool as bool
use Rattle.scope.specs.Text.{bytes}
use Rattle.scope.specs.Sheet.{Number, plus, Clause, Gate, Wish, Sheet, sheet, decimal, All, Among, most_switches, most_faults, most_gates, most_rules, most_wishes, most_literals}
use Rattle.scope.specs.Causes.{is_weight, Test}
use Rattle.scope.specs.Meaning.{all}

-- ---- the value

pub data Formula : Type 0 where
  switch fault : ℕ → Formula
  not : Formula → Formula
  and or : Formula → Formula → Formula

pub record Typed : Type 0 where
  pub switches : ℕ
  pub faults : ℕ
  pub rules : List Formula
  pub wishes : List Wish

abbrev pub typed : ℕ → ℕ → List Formula → List Wish → Typed
typed a f rs ws = record { switches = a; faults = f; rules = rs; wishes = ws }

-- ---- words

-- the bytes of a text
abbrev pub most_text : ℕ
most_text = 16384

-- the largest number in a text that is no weight, and the largest weight
abbrev pub most_number : ℕ
most_number = 99

abbrev pub most_stated : ℕ
most_stated = 9999

abbrev pub most_digits : ℕ
most_digits = 4

-- up to four digits, and no leading zero
abbrev pub numeral : ℕ → List ℕ
numeral n = decimal most_digits n

-- words and signs of a formula may be parted by single spaces
pub data Gap : List ℕ → Type 0 where
  none : Gap []
  space : Gap (code " " ∷ [])

-- ---- a formula: `!` binds before `&`, and `&` before `|`, each from the left

pub data Level : Type 0 where
  ors ands factor : Level

-- brackets and nots together
abbrev pub most_nested : ℕ
most_nested = 32

-- s can be written for a formula at a level, with brackets and nots at most d deep
pub data Written : Level → (d : ℕ) → Formula → (s : List ℕ) → Type 0 where
  switch : {d k : ℕ} → Among most_number k → Written factor d (Formula.switch k) (code "s" ∷ numeral k)
  fault : {d k : ℕ} → Among most_number k → Written factor d (Formula.fault k) (code "f" ∷ numeral k)
  not : {d : ℕ} {x : Formula} {g s : List ℕ} → Gap g → Written factor d x s → Written factor (suc d) (Formula.not x) (code "!" ∷ g ++ s)
  bracket : {d : ℕ} {x : Formula} {g s h : List ℕ} → Gap g → Written ors d x s → Gap h → Written factor (suc d) x (code "(" ∷ g ++ s ++ h ++ code ")" ∷ [])
  alone : {d : ℕ} {x : Formula} {s : List ℕ} → Written factor d x s → Written ands d x s
  and : {d : ℕ} {x y : Formula} {s g h t : List ℕ} → Written ands d x s → Gap g → Gap h → Written factor d y t → Written ands d (Formula.and x y) (s ++ g ++ code "&" ∷ h ++ t)
  single : {d : ℕ} {x : Formula} {s : List ℕ} → Written ands d x s → Written ors d x s
  or : {d : ℕ} {x y : Formula} {s g h t : List ℕ} → Written ors d x s → Gap g → Gap h → Written ands d y t → Written ors d (Formula.or x y) (s ++ g ++ code "|" ∷ h ++ t)

-- ---- lines, each with a line feed

-- rules, if any
pub data RuleLines : List Formula → List ℕ → Type 0 where
  none : RuleLines [] []
  next : {x : Formula} {xs : List Formula} {s t : List ℕ} → Written ors most_nested x s → RuleLines xs t → RuleLines (x ∷ xs) (bytes "rule " ++ s ++ code "\n" ∷ t)

-- a literal -k is written with one `!` directly before it
abbrev pub literal_bytes : Number → List ℕ
literal_bytes x = cond x.minus (code "!" ∷ code "s" ∷ numeral x.size) (code "s" ∷ numeral x.size)

-- literals, each after one space
unfoldable pub literals_bytes : Clause → List ℕ
literals_bytes [] = []
literals_bytes (x ∷ xs) = code " " ∷ literal_bytes x ++ literals_bytes xs

-- one to three literals
abbrev pub Writable : Clause → Type 0
Writable w = (1 ≤ length w) × (length w ≤ most_literals) × All (λ x. Among most_number x.size) w

-- a weight after the literals; it is 1 where it is missing
pub data Weight : ℕ → List ℕ → Type 0 where
  missing : Weight 1 []
  stated : {n : ℕ} → n ≤ most_stated → Weight n (bytes " weight " ++ numeral n)

-- wishes, if any
pub data WishLines : List Wish → List ℕ → Type 0 where
  none : WishLines [] []
  next : {w : Wish} {ws : List Wish} {s t : List ℕ} → Writable w.clause → Weight w.weight s → WishLines ws t → WishLines (w ∷ ws) (bytes "wish" ++ literals_bytes w.clause ++ s ++ code "\n" ∷ t)

-- s is a legal text for v, whatever its length
pub record Legal (v : Typed) (s : List ℕ) : Type 0 where
  pub switches : v.switches ≤ most_number
  pub faults : v.faults ≤ most_number
  pub rules : List ℕ
  pub written : RuleLines v.rules rules
  pub wishes : List ℕ
  pub wished : WishLines v.wishes wishes
  pub text : s ≡ bytes "switches " ++ numeral v.switches ++ code "\n" ∷ bytes "faults " ++ numeral v.faults ++ code "\n" ∷ rules ++ wishes

-- ---- what a formula means

unfoldable pub formula_true : (switch_on fault_on : ℕ → Bool) → Formula → Bool
formula_true s f (Formula.switch k) = s k
formula_true s f (Formula.fault k) = f k
formula_true s f (Formula.not x) = bool.not (formula_true s f x)
formula_true s f (Formula.and x y) = formula_true s f x && formula_true s f y
formula_true s f (Formula.or x y) = formula_true s f x || formula_true s f y

-- ---- the sheet: a gate for each operator, in the order in which they are complete, left to right, none shared

unfoldable pub operators : Formula → ℕ
operators (Formula.switch k) = 0
operators (Formula.fault k) = 0
operators (Formula.not x) = suc (operators x)
operators (Formula.and x y) = suc (operators x + operators y)
operators (Formula.or x y) = suc (operators x + operators y)

-- with a switches and f faults; n gates stand before those of the formula
module _ (a f : ℕ) where
  -- the point of a formula: its last gate, if it has any
  unfoldable pub point : ℕ → Formula → ℕ
  point n (Formula.switch k) = k
  point n (Formula.fault k) = a + k
  point n (Formula.not x) = a + f + (n + operators (Formula.not x))
  point n (Formula.and x y) = a + f + (n + operators (Formula.and x y))
  point n (Formula.or x y) = a + f + (n + operators (Formula.or x y))

  unfoldable pub gates_of : ℕ → Formula → List Gate
  gates_of n (Formula.switch k) = []
  gates_of n (Formula.fault k) = []
  gates_of n (Formula.not x) = gates_of n x ++ Gate.not (point n x) ∷ []
  gates_of n (Formula.and x y) = gates_of n x ++ gates_of (n + operators x) y ++ Gate.and (point n x) (point (n + operators x) y) ∷ []
  gates_of n (Formula.or x y) = gates_of n x ++ gates_of (n + operators x) y ++ Gate.or (point n x) (point (n + operators x) y) ∷ []

  -- of several, one after the other
  unfoldable pub all_gates : ℕ → List Formula → List Gate
  all_gates n [] = []
  all_gates n (x ∷ xs) = gates_of n x ++ all_gates (n + operators x) xs

  unfoldable pub all_points : ℕ → List Formula → List ℕ
  all_points n [] = []
  all_points n (x ∷ xs) = point n x ∷ all_points (n + operators x) xs

  -- ---- the causes, tested line by line: n gates, i rules or j wishes stand before

  -- the numbers that a formula names are on the sheet
  unfoldable pub known : Formula → Bool
  known (Formula.switch k) = leb k a
  known (Formula.fault k) = leb k f
  known (Formula.not x) = known x
  known (Formula.and x y) = known x && known y
  known (Formula.or x y) = known x && known y

  -- 5: gate 401 or rule 65; 6: a number that is not on the sheet
  unfoldable pub rule_tests : ℕ → ℕ → List Formula → List (List Test)
  rule_tests n i [] = []
  rule_tests n i (x ∷ xs) = ((5, leb (n + operators x) most_gates && ltb i most_rules) ∷ (6, known x) ∷ []) ∷ rule_tests (n + operators x) (suc i) xs

  -- 5: wish 65; 6: a literal that is not on the sheet; 14: a weight outside 1 to 999
  unfoldable pub wish_tests : ℕ → List Wish → List (List Test)
  wish_tests j [] = []
  wish_tests j (w ∷ ws) = ((5, ltb j most_wishes) ∷ (6, all w.clause (λ x. leb x.size a)) ∷ (14, is_weight (plus w.weight)) ∷ []) ∷ wish_tests (suc j) ws

unfoldable pub sheet_of : Typed → Sheet
sheet_of v = sheet v.switches v.faults (all_gates v.switches v.faults 0 v.rules) (all_points v.switches v.faults 0 v.rules) v.wishes

-- 4: a or f outside its range, on line 1 or 2
unfoldable pub line_tests : Typed → List (List Test)
line_tests v = ((4, leb v.switches most_switches) ∷ []) ∷ ((4, leb v.faults most_faults) ∷ []) ∷ rule_tests v.switches v.faults 0 0 v.rules ++ wish_tests v.switches v.faults 0 v.wishes
