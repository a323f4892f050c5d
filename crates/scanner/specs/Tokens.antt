-- What the steps over words and numbers give: in no promise of an exported call. Assumes nothing.
use Rattle.std.specs.Prelude.{ℕ, ◌+◌, ◌-◌, ◌*◌, ◌≤◌, ◌<◌, Option, None, Some, Bool, List, [], ◌∷◌, ◌≡◌, length, drop, Result, Ok, Err}
use Rattle.scope.specs.Parsing.{Slot, State, stuck, word, digits, zero_ok, room, number_done, walk, two_digits, four_digits}
use Rattle.scanner.specs.Look.{digit}
use Rattle.scanner.specs.declared.token.Digits.{Digits}
use Rattle.scanner.specs.declared.token.Digits.TheVariants.{Two, Four}
use Rattle.scanner.specs.declared.token.Stuck.{Stuck}
use Rattle.scanner.specs.declared.token.Token.{Token}

-- from place `at` no legal text goes on at place n
pub record StuckAt (s : List ℕ) (st : State) (at n : ℕ) : Type 0 where
  pub within : n ≤ length s
  pub walk : walk st (drop at s) ≡ stuck (length s - n)

-- the walk comes from one place to a later one
pub record Came (s : List ℕ) (st : State) (at : ℕ) (to : State) (n : ℕ) : Type 0 where
  pub ahead : at < n
  pub within : n ≤ length s
  pub walk : walk st (drop at s) ≡ walk to (drop n s)

-- what is left of a word, and then st
abbrev pub rest : List ℕ → State → State
rest [] st = st
rest (c ∷ s) st = word (c ∷ s) st

-- the bytes w from `at` on
abbrev pub WordRead : (s w : List ℕ) (at : ℕ) → Result ℕ Stuck → Type 0
WordRead s w at (Ok n) = (st : State) → Came s (word w st) at st n
WordRead s w at (Err e) = (st : State) → StuckAt s (word w st) at e.0

-- a number below this may have one more digit
abbrev pub room_of : Digits → ℕ
room_of Two = two_digits
room_of Four = four_digits

-- a number with one more digit, if one comes
abbrev pub with_digit : Token → Option ℕ → Token
with_digit t None = t
with_digit t (Some n) = record { at = t.at + 1; value = t.value * 10 + n }

unfoldable pub longer : List ℕ → Token → Token
longer s t = with_digit t (digit s t.at)

-- t is read from `at` on, where the walk is at `From` of a slot; whether it may be 0
pub record SlotGood (From : Slot → State) (s : List ℕ) (zero : Bool) (most : Digits) (at : ℕ) (t : Token) : Type 0 where
  pub came : (slot : Slot) → zero_ok slot ≡ zero → room slot ≡ room_of most → Came s (From slot) at (number_done slot t.value) t.at
  pub few : t.value < room_of most * 10

abbrev pub SlotRead : (From : Slot → State) (s : List ℕ) (zero : Bool) (most : Digits) (at : ℕ) → Result Token Stuck → Type 0
SlotRead From s zero most at (Ok t) = SlotGood From s zero most at t
SlotRead From s zero most at (Err e) = (slot : Slot) → zero_ok slot ≡ zero → StuckAt s (From slot) at e.0

abbrev pub NumberRead : (s : List ℕ) (zero : Bool) (most : Digits) (at : ℕ) → Result Token Stuck → Type 0
NumberRead = SlotRead digits

-- the bytes w, and then a number
abbrev pub NamedRead : (s w : List ℕ) (zero : Bool) (most : Digits) (at : ℕ) → Result Token Stuck → Type 0
NamedRead s w = SlotRead (λ slot. word w (digits slot)) s
