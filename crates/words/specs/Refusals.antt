-- The refusals by the papers' numbers, and tests that are made one after another. Assumes nothing.
use Rattle.std.specs.Prelude.{ℕ, List, Result, Ok, Err}
use Rattle.scope.specs.Causes.{Test, Met, First}
use Rattle.words.specs.declared.refusal.Refusal.{Refusal}
use Rattle.words.specs.declared.refusal.Refusal.TheVariants.{Length, Malformed, Order, Range, Limit, Fields, Count, NoPlan, NoRoom, HighPlan, HighPattern, Illegal, TooShort, Weight}

abbrev pub number_of : Refusal → ℕ
number_of Length = 1
number_of Malformed = 2
number_of Order = 3
number_of Range = 4
number_of Limit = 5
number_of Fields = 6
number_of Count = 7
number_of NoPlan = 8
number_of NoRoom = 9
number_of HighPlan = 10
number_of HighPattern = 11
number_of Illegal = 12
number_of TooShort = 13
number_of Weight = 14

-- every test is met, or the first that is not is that of the refusal
abbrev pub Tested : List Test → Result Unit Refusal → Type 0
Tested rs (Ok u) = Met rs
Tested rs (Err r) = First (number_of r) rs
