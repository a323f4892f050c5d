-- Examples, from the bytes as they are typed, by computation. Assumes nothing.
use Rattle.std.specs.Prelude.{ℕ, true, List, [], ◌∷◌, ◌++◌, replicate}
use Prim.Native.String.{String}
use Rattle.std.proofs.Math.Option.{none, some}
use Rattle.scope.specs.Text.{lines}
use Rattle.scope.specs.Sheet.{Gate, wish, sheet, number, plus, weighted}
use Rattle.scope.specs.Causes.{Read, accepted, refused}
use Rattle.scope.specs.Jobs.{Answer, Result, Rating, answered, refusal, found, IsAnswer, IsShortRun, rated, unrated, IsRating}
use Rattle.scope.specs.Source.{Gives}
use Rattle.scope.specs.Program.{output, sheet_input}
use Rattle.scope.specs.Sheets.{SheetRead}

-- the sample sheet of docs/FORMAT.md
abbrev pub sample : List String
sample = "H    2    2    0    0" ∷ "O    1    2    0    0" ∷ "O    3    4    0    0" ∷ "O    5    6    0    0" ∷ "R    7    0    0    0" ∷ "W   -1    0    0    1" ∷ "W   -2    0    0    1" ∷ "Z    7    0    0    0" ∷ []

-- ---- reading

-- a sheet, and what is read from it
abbrev pub Example : Type 0
Example = List String × Read

abbrev pub examples : List Example
examples =
    -- E1, E3
    ([], refused 1 0 0)
    ∷ (sample, accepted (sheet 2 2 (Gate.or 1 2 ∷ Gate.or 3 4 ∷ Gate.or 5 6 ∷ []) (7 ∷ []) (wish (number true 1 ∷ []) 1 ∷ wish (number true 2 ∷ []) 1 ∷ [])))
    -- E11
    ∷ ("H   20   16    0    0" ∷ "Z    1    0    0    0" ∷ [], accepted (sheet 20 16 [] [] []))
    ∷ ("H   21    0    0    0" ∷ "Z    1    0    0    0" ∷ [], refused 4 1 0)
    ∷ ("H   20   17    0    0" ∷ "Z    1    0    0    0" ∷ [], refused 4 1 0)
    -- E12: point 2 is the gate itself
    ∷ ("H    1    0    0    0" ∷ "O    1    2    0    0" ∷ "Z    2    0    0    0" ∷ [], refused 6 2 0)
    -- E13
    ∷ ("H    1    0    0    0" ∷ "W    0    1    0    1" ∷ "Z    2    0    0    0" ∷ [], refused 6 2 0)
    ∷ ("H    0    0    0    0" ∷ "Z    2    0    0    0" ∷ [], refused 7 2 0)
    ∷ ("H    0    0    0    0" ∷ [], refused 3 1 0)
    -- malformed, with the column: a minus zero, a leading zero, a blank field, a letter that is none
    ∷ ("H    0   -0    0    0" ∷ "Z    1    0    0    0" ∷ [], refused 2 1 11)
    ∷ ("H    0    0    0    0" ∷ "Z   01    0    0    0" ∷ [], refused 2 2 5)
    ∷ ("H    0    0         0" ∷ "Z    1    0    0    0" ∷ [], refused 2 1 16)
    ∷ ("H    0    0    0    0" ∷ "z    1    0    0    0" ∷ [], refused 2 2 1)
    -- a minus in the last column, a space after a digit, a minus after one, a byte that is no line feed
    ∷ ("H    -    0    0    0" ∷ "Z    1    0    0    0" ∷ [], refused 2 1 6)
    ∷ ("H    0    0    0    0" ∷ "Z    1   1     0    0" ∷ [], refused 2 2 11)
    ∷ ("H    0    0  2-1    0" ∷ "Z    1    0    0    0" ∷ [], refused 2 1 15)
    ∷ ("H    0    0    0    0" ∷ "Z    1    0    0    00H    0    0    0    0" ∷ [], refused 2 2 22)
    -- several causes: the first line counts, and on it the first test
    ∷ ("H   21    0    1    0" ∷ "Q    1    0    0    0" ∷ [], refused 4 1 0)
    ∷ ("H    1    0    0    0" ∷ "Z    9    9    0    0" ∷ "R    7    0    0    0" ∷ [], refused 3 2 0)
    ∷ ("H    1    0    0    0" ∷ "Z    9    9    0    0" ∷ [], refused 6 2 0)
    ∷ ("H    1    0    0    0" ∷ replicate 64 "R    1    0    0    0" ++ "R    0    0    0    0" ∷ "Z   66    0    0    0" ∷ [], refused 5 66 0)
    ∷ ("H    1    0    0    0" ∷ "W    1    0    0    1" ∷ replicate 64 "R    1    0    0    0" ++ "R    0    0    0    0" ∷ "Z   67    0    0    0" ∷ [], refused 3 3 0)
    -- weights: 1 to 999 are allowed, and tested after the literals; on other lines the number is unused
    ∷ ("H    1    0    0    0" ∷ "W    1    0    0    1" ∷ "W    1   -1    0  999" ∷ "Z    3    0    0    0" ∷ [], accepted (sheet 1 0 [] [] (wish (plus 1 ∷ []) 1 ∷ wish (plus 1 ∷ number true 1 ∷ []) 999 ∷ [])))
    ∷ ("H    1    0    0    0" ∷ "W    1    0    0    0" ∷ "Z    9    0    0    0" ∷ [], refused 14 2 0)
    ∷ ("H    1    0    0    0" ∷ "W    1    0    0   -1" ∷ "Z    2    0    0    0" ∷ [], refused 14 2 0)
    ∷ ("H    1    0    0    0" ∷ "W    1    0    0 1000" ∷ "Z    2    0    0    0" ∷ [], refused 14 2 0)
    ∷ ("H    1    0    0    0" ∷ "W    2    0    0    0" ∷ "Z    2    0    0    0" ∷ [], refused 6 2 0)
    ∷ ("H    1    0    0    1" ∷ "Z    1    0    0    0" ∷ [], refused 6 1 0)
    -- lines of 17 bytes: their length is wrong or, where it fits, the first line stops where its fourth number would begin
    ∷ ("H    0    0    0" ∷ "Z    1    0    0" ∷ [], refused 1 0 0)
    ∷ ("H    1    0    0" ∷ replicate 20 "R    1    0    0" ++ "Z   21    0    0" ∷ [], refused 2 1 17)
    ∷ []

-- the plain layout: lines of 17 bytes, whose wishes weigh 1
abbrev pub plain_examples : List Example
plain_examples =
    ("H    1    0    0" ∷ "W   -1    0    0" ∷ "Z    2    0    0" ∷ [], accepted (sheet 1 0 [] [] (wish (number true 1 ∷ []) 1 ∷ [])))
    ∷ ("H    1    0    0" ∷ "W    2    0    0" ∷ "Z    2    0    0" ∷ [], refused 6 2 0)
    ∷ ("H    0    0    0" ∷ "Z    1    0    00H    0    0    0" ∷ [], refused 2 2 17)
    ∷ ("H    0    0    0    0" ∷ "Z    1    0    0    0" ∷ [], refused 1 0 0)
    ∷ []

-- ---- the jobs: one table, E1 to E10 and E14

-- a job, what it is lent, and what it returns
pub data Job : Type 0 where
  answers : List String → List ℕ → Answer → Job
  runs : List String → List ℕ → Result → Job
  rates : List String → ℕ → Rating → Job

abbrev pub Correct : Job → Type 0
Correct (answers s lent a) = IsAnswer (SheetRead weighted (lines s)) lent a
Correct (runs s l r) = IsShortRun (SheetRead weighted (lines s)) l r
Correct (rates s p r) = IsRating (SheetRead weighted (lines s)) p r

-- room for four words, which hold 7
abbrev room : List ℕ
room = replicate 4 7

abbrev e4 : List String
e4 = "H    0    1    0    0" ∷ "R    1    0    0    0" ∷ "Z    2    0    0    0" ∷ []

-- the sample with other weights
abbrev weighing : List String
weighing = "H    2    2    0    0" ∷ "O    1    2    0    0" ∷ "O    3    4    0    0" ∷ "O    5    6    0    0" ∷ "R    7    0    0    0" ∷ "W   -1    0    0    2" ∷ "W   -2    0    0    3" ∷ "Z    7    0    0    0" ∷ []

abbrev weightless : List String
weightless = "H    1    0    0    0" ∷ "W   -1    0    0    0" ∷ "Z    2    0    0    0" ∷ []

-- with a leading zero
abbrev misprint : List String
misprint = "H    2    2    0    0" ∷ "O    1  002    0    0" ∷ "Z    2    0    0    0" ∷ []

abbrev pub table : List Job
table =
    -- E1: the empty sheet
    answers [] room (answered (refusal 1 0 0 0) room)
    -- E2
    ∷ answers ("H    0    0    0    0" ∷ "Z    1    0    0    0" ∷ []) room (answered (found 0 0 0) room)
    -- E3
    ∷ answers sample room (answered (found 1 1 1) (0 ∷ 7 ∷ 7 ∷ 7 ∷ []))
    -- E4, and E5 with no room
    ∷ answers e4 room (answered (refusal 8 0 0 1) (0 ∷ 7 ∷ 7 ∷ 7 ∷ []))
    ∷ answers e4 [] (answered (refusal 9 0 0 0) [])
    -- E6
    ∷ answers ("H    1    1    0    0" ∷ "R    1    0    0    0" ∷ "W   -1    0    0    1" ∷ "Z    3    0    0    0" ∷ []) room (answered (found 1 1 1) (0 ∷ 7 ∷ 7 ∷ 7 ∷ []))
    -- E7: the list is as long as there are plans, and patterns
    ∷ answers ("H    1    1    0    0" ∷ "N    1    0    0    0" ∷ "N    2    0    0    0" ∷ "A    1    2    0    0" ∷ "A    3    4    0    0" ∷ "O    5    6    0    0" ∷ "R    7    0    0    0" ∷ "Z    7    0    0    0" ∷ []) room (answered (refusal 8 0 0 2) (1 ∷ 0 ∷ 7 ∷ 7 ∷ []))
    -- E8: a wish written twice counts twice
    ∷ answers ("H    1    0    0    0" ∷ "R    1    0    0    0" ∷ "W   -1    0    0    1" ∷ "W   -1    0    0    1" ∷ "Z    4    0    0    0" ∷ []) room (answered (found 1 2 1) (0 ∷ 7 ∷ 7 ∷ 7 ∷ []))
    -- also in another order
    ∷ answers ("H    2    0    0    0" ∷ "R    1    0    0    0" ∷ "R    2    0    0    0" ∷ "W   -1   -2    0    1" ∷ "W   -2   -1    0    1" ∷ "Z    5    0    0    0" ∷ []) room (answered (found 3 2 1) (0 ∷ 7 ∷ 7 ∷ 7 ∷ []))
    -- and with a literal repeated in it: counted once, the two would leave plan 1 the best
    ∷ answers ("H    2    0    0    0" ∷ "O    1    2    0    0" ∷ "R    3    0    0    0" ∷ "W   -2    0    0    1" ∷ "W   -2   -2    0    1" ∷ "W   -1    0    0    1" ∷ "Z    6    0    0    0" ∷ []) room (answered (found 2 1 1) (0 ∷ 7 ∷ 7 ∷ 7 ∷ []))
    -- E9: a wish with no literal is always broken
    ∷ answers ("H    0    0    0    0" ∷ "W    0    0    0    1" ∷ "Z    2    0    0    0" ∷ []) room (answered (found 0 1 0) room)
    -- E10: short runs over no pattern, and over pattern 0
    ∷ runs sample [] (found 0 0 0)
    ∷ runs sample (0 ∷ []) (found 1 1 0)
    -- E14: a pattern and a plan that there is not, and ratings
    ∷ runs sample (3 ∷ 4 ∷ []) (refusal 11 2 0 0)
    ∷ rates sample 3 (rated 2 none)
    ∷ rates sample 0 (rated 0 (some 0))
    ∷ rates sample 4 (unrated 10 0 0)
    -- source 002, Example 1: weights 2 and 3
    ∷ answers weighing room (answered (found 2 2 1) (0 ∷ 7 ∷ 7 ∷ 7 ∷ []))
    ∷ runs weighing (0 ∷ []) (found 2 2 0)
    ∷ rates weighing 3 (rated 5 none)
    -- a wish written twice with different weights counts both
    ∷ answers ("H    1    0    0    0" ∷ "R    1    0    0    0" ∷ "W   -1    0    0    2" ∷ "W   -1    0    0  999" ∷ "Z    4    0    0    0" ∷ []) room (answered (found 1 1001 1) (0 ∷ 7 ∷ 7 ∷ 7 ∷ []))
    -- a weight of 0
    ∷ answers weightless room (answered (refusal 14 2 0 0) room)
    ∷ runs weightless [] (refusal 14 2 0 0)
    ∷ rates weightless 0 (unrated 14 2 0)
    -- a malformed line: every job tells its column
    ∷ answers misprint room (answered (refusal 2 2 9 0) room)
    ∷ runs misprint (0 ∷ []) (refusal 2 2 9 0)
    ∷ rates misprint 4 (unrated 2 2 9)
    ∷ []

-- ---- the program: an input, and what it writes

abbrev pub listings : List (List String × List String)
listings =
    (sample, "A    0    0    1" ∷ "S    1    0    0" ∷ "S    2    1    0" ∷ "W    1    1    0" ∷ "W    2    0    0" ∷ "F    1    0    0" ∷ "Z    6    0    0" ∷ [])
    ∷ (weighing, "A    0    0    2" ∷ "S    1    1    0" ∷ "S    2    0    0" ∷ "W    1    0    0" ∷ "W    2    1    0" ∷ "F    1    0    0" ∷ "Z    6    0    0" ∷ [])
    -- after 14 only A and Z stand
    ∷ (weightless, "A   14    2    0" ∷ "Z    1    0    0" ∷ [])
    -- after 2 the third number of the A line is the column
    ∷ (misprint, "A    2    2    9" ∷ "Z    1    0    0" ∷ [])
    ∷ []

abbrev pub Prints : List String × List String → Type 0
Prints e = Gives (SheetRead weighted (sheet_input (lines e.0))) output (lines e.1)
