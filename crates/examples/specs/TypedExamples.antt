-- Examples of typed texts, from the bytes as they are typed, by computation. Assumes nothing.
use Rattle.std.specs.Prelude.{ℕ, true, List, [], ◌∷◌, ◌++◌, ◌≡◌, refl, replicate}
use Rattle.std.proofs.Math.Option.{none}
use Rattle.scope.specs.Text.{bytes, lines}
use Rattle.scope.specs.Sheet.{Gate, wish, sheet, number, plus, decimal, field, fields_bytes, text, body, All}
use Rattle.scope.specs.Causes.{Read, accepted, refused}
use Rattle.scope.specs.Meaning.{bits, truths, truth, passes, keeps, broken, switch_on, kept, cost}
use Rattle.scope.specs.Typed.{operators, point, gates_of, all_gates, all_points, known, rule_tests, wish_tests, sheet_of, line_tests}
use Rattle.scope.specs.Parsing.{nested, operand_done, number_done, grown, nested_more, move, step, at_end, walk, first_line, read_text}
use Rattle.scope.specs.Pick.{pick}
use Rattle.scope.specs.Rule.{best, missed, short, next, rule}
use Rattle.scope.specs.Jobs.{Answer, answered, refusal, found, answer_of, IsAnswer, short_of, IsShortRun, rated, rating_of, IsRating}
use Rattle.scope.specs.Source.{Gives}
use Rattle.scope.specs.Texts.{TextRead}
use Rattle.scope.specs.Program.{each, rows_bytes, output_rows, output, converted, text_input}
use Rattle.scope.proofs.Claims.{text_read, text_gives}
use Rattle.scope.proofs.Laws.Alls.{all_imply}

-- E3, typed
abbrev pub sample : List ℕ
sample = lines ("switches 2" ∷ "faults 2" ∷ "rule (s1|s2) | (f1|f2)" ∷ "wish !s1" ∷ "wish !s2" ∷ [])

-- a text, and what is read from it
abbrev pub Example : Type 0
Example = List ℕ × Read

abbrev pub examples : List Example
examples =
    (sample, accepted (sheet 2 2 (Gate.or 1 2 ∷ Gate.or 3 4 ∷ Gate.or 5 6 ∷ []) (7 ∷ []) (wish (number true 1 ∷ []) 1 ∷ wish (number true 2 ∷ []) 1 ∷ [])))
    ∷ ([], refused 12 1 0)
    ∷ (lines ("switches 0" ∷ "faults 0" ∷ []), accepted (sheet 0 0 [] [] []))
    -- `!` before `&` before `|`, each from the left
    ∷ (lines ("switches 3" ∷ "faults 1" ∷ "rule s1 & !s2 & s3 | f1" ∷ "rule s1|s2&s3" ∷ []), accepted (sheet 3 1 (Gate.not 2 ∷ Gate.and 1 5 ∷ Gate.and 6 3 ∷ Gate.or 7 4 ∷ Gate.and 2 3 ∷ Gate.or 1 9 ∷ []) (8 ∷ 10 ∷ []) []))
    -- a number that is not on the sheet, though the point is
    ∷ (lines ("switches 3" ∷ "faults 1" ∷ "rule !s1" ∷ "rule s5" ∷ []), refused 6 4 0)
    ∷ (lines ("switches 21" ∷ "faults 17" ∷ []), refused 4 1 0)
    ∷ (lines ("switches 20" ∷ "faults 17" ∷ "rule s20" ∷ []), refused 4 2 0)
    ∷ (lines ("switches 3" ∷ "faults 1" ∷ "wish s1 !s4" ∷ []), refused 6 3 0)
    -- weights: 1 where there is none, up to four digits, tested after the literals
    ∷ (lines ("switches 3" ∷ "faults 1" ∷ "wish s1 !s2 s3 weight 999" ∷ "wish s1 weight 1" ∷ "wish s2" ∷ []), accepted (sheet 3 1 [] [] (wish (plus 1 ∷ number true 2 ∷ plus 3 ∷ []) 999 ∷ wish (plus 1 ∷ []) 1 ∷ wish (plus 2 ∷ []) 1 ∷ [])))
    ∷ (lines ("switches 3" ∷ "faults 1" ∷ "wish s1 weight 0" ∷ []), refused 14 3 0)
    ∷ (lines ("switches 3" ∷ "faults 1" ∷ "wish s1" ∷ "wish s1 weight 1000" ∷ []), refused 14 4 0)
    ∷ (lines ("switches 3" ∷ "faults 1" ∷ "wish s4 weight 9999" ∷ []), refused 6 3 0)
    -- not legal: five digits, a leading zero, a weight before the literals, a literal after the weight
    ∷ (lines ("switches 3" ∷ "faults 1" ∷ "wish s1 weight 10000" ∷ []), refused 12 40 0)
    ∷ (lines ("switches 3" ∷ "faults 1" ∷ "wish s1 weight 01" ∷ []), refused 12 37 0)
    ∷ (lines ("switches 3" ∷ "faults 1" ∷ "wish weight 1" ∷ []), refused 12 26 0)
    ∷ (lines ("switches 3" ∷ "faults 1" ∷ "wish s1 weight 1 s2" ∷ []), refused 12 37 0)
    -- not legal: a leading zero, a space before a line feed, two spaces, no line feed
    ∷ (lines ("switches 01" ∷ []), refused 12 11 0)
    ∷ (bytes "switches 3", refused 12 11 0)
    ∷ (lines ("switches 3" ∷ "faults 1" ∷ "rule s1 " ∷ []), refused 12 29 0)
    ∷ (lines ("switches 3" ∷ "faults 1" ∷ "rule s1  & s2" ∷ []), refused 12 29 0)
    ∷ (lines ("switches 3" ∷ "faults 1" ∷ "wish s1 s2 s3 s1" ∷ []), refused 12 35 0)
    ∷ (bytes "switches 3\nfaults 1\nrule " ++ replicate 40 40, refused 12 58 0)
    ∷ []

computed : All (λ e. read_text e.0 ≡ e.1) examples
unfolding read_text walk step move nested_more nested operand_done number_done grown at_end first_line line_tests sheet_of rule_tests wish_tests known all_gates all_points gates_of point operators
computed = (refl, (refl, (refl, (refl, (refl, (refl, (refl, (refl, (refl, (refl, (refl, (refl, (refl, (refl, (refl, (refl, (refl, (refl, (refl, (refl, (refl, (refl, tt))))))))))))))))))))))

pub reading : All (λ e. TextRead e.0 e.1) examples
reading = all_imply (λ e. read_text e.0 ≡ e.1) (λ e. TextRead e.0 e.1) (λ e. (text_read e.0 e.1).0) examples computed

-- ---- the jobs: a refused text leaves the lent list as it was
abbrev pub room : List ℕ
room = 7 ∷ 7 ∷ 7 ∷ []

-- a text, and what Answer gives and leaves in the list
abbrev pub answers : List (List ℕ × Answer)
answers =
    (sample, answered (found 1 1 1) (0 ∷ 7 ∷ 7 ∷ []))
    -- source 002, Example 1, typed
    ∷ (lines ("switches 2" ∷ "faults 2" ∷ "rule (s1|s2) | (f1|f2)" ∷ "wish !s1 weight 2" ∷ "wish !s2 weight 3" ∷ []), answered (found 2 2 1) (0 ∷ 7 ∷ 7 ∷ []))
    ∷ (bytes "switches 1", answered (refusal 12 11 0 0) room)
    ∷ []

answers_computed : All (λ e. e.1 ≡ answer_of (read_text e.0) room) answers
unfolding read_text walk step move operand_done number_done grown nested_more nested at_end first_line line_tests sheet_of rule_tests wish_tests known all_gates all_points gates_of point operators rule next best missed short pick passes truth truths bits cost broken keeps switch_on
answers_computed = (refl, (refl, (refl, tt)))

pub answered_right : All (λ e. IsAnswer (TextRead e.0) room e.1) answers
answered_right = all_imply (λ e. e.1 ≡ answer_of (read_text e.0) room) (λ e. IsAnswer (TextRead e.0) room e.1) (λ e. (text_gives e.0 (λ r. answer_of r room) e.1).0) answers answers_computed

run_computed : found 1 1 0 ≡ short_of (read_text sample) (0 ∷ [])
unfolding read_text walk step move operand_done number_done grown nested_more nested at_end first_line line_tests sheet_of rule_tests wish_tests known all_gates all_points gates_of point operators rule next best missed short pick passes truth truths bits cost broken keeps switch_on
run_computed = refl

pub run_right : IsShortRun (TextRead sample) (0 ∷ []) (found 1 1 0)
run_right = (text_gives sample (λ r. short_of r (0 ∷ [])) (found 1 1 0)).0 run_computed

rate_computed : rated 2 none ≡ rating_of (read_text sample) 3
unfolding read_text walk step move operand_done number_done grown nested_more nested at_end first_line line_tests sheet_of rule_tests wish_tests known all_gates all_points gates_of point operators rule next best missed short pick passes truth truths bits cost broken keeps switch_on
rate_computed = refl

pub rate_right : IsRating (TextRead sample) 3 (rated 2 none)
rate_right = (text_gives sample (λ r. rating_of r 3) (rated 2 none)).0 rate_computed

-- ---- the second program: what the first prints for the sheet
abbrev pub listing : List ℕ
listing = lines ("A    0    0    1" ∷ "S    1    0    0" ∷ "S    2    1    0" ∷ "W    1    1    0" ∷ "W    2    0    0" ∷ "F    1    0    0" ∷ "Z    6    0    0" ∷ [])

listing_computed : listing ≡ output (read_text (text_input sample))
unfolding read_text walk step move operand_done number_done grown nested_more nested at_end first_line line_tests sheet_of rule_tests wish_tests known all_gates all_points gates_of point operators rule next best missed short pick passes truth truths bits cost broken keeps switch_on output output_rows rows_bytes fields_bytes field decimal each kept
listing_computed = refl

pub printed : Gives (TextRead (text_input sample)) output listing
printed = (text_gives (text_input sample) output listing).0 listing_computed

-- ---- the third program: the sheet that a text stands for, or the listing of its refusal
abbrev pub conversions : List (List ℕ × List ℕ)
conversions =
    (sample, lines ("H    2    2    0    0" ∷ "O    1    2    0    0" ∷ "O    3    4    0    0" ∷ "O    5    6    0    0" ∷ "R    7    0    0    0" ∷ "W   -1    0    0    1" ∷ "W   -2    0    0    1" ∷ "Z    7    0    0    0" ∷ []))
    ∷ (bytes "switches 1", lines ("A   12   11    0" ∷ "Z    1    0    0" ∷ []))
    ∷ []

conversions_computed : All (λ e. e.1 ≡ converted (read_text (text_input e.0))) conversions
unfolding converted read_text walk step move operand_done number_done grown nested_more nested at_end first_line line_tests sheet_of rule_tests wish_tests known all_gates all_points gates_of point operators body text output output_rows rows_bytes fields_bytes field decimal each
conversions_computed = (refl, (refl, tt))

pub converted_right : All (λ e. Gives (TextRead (text_input e.0)) converted e.1) conversions
converted_right = all_imply (λ e. e.1 ≡ converted (read_text (text_input e.0))) (λ e. Gives (TextRead (text_input e.0)) converted e.1) (λ e. (text_gives (text_input e.0) converted e.1).0) conversions conversions_computed
