-- A listing, part by part. Assumes nothing.
use Rattle.std.specs.Prelude.{ℕ, ◌+◌, ◌*◌, ◌/◌, ◌≤◌, List, [], ◌∷◌, ◌++◌, ◌≡◌, refl, length, Option, Some, None, IfSome}
use Rattle.std.proofs.Common.{arith, subst, ◌∙◌, length-append}
use Rattle.scope.specs.Sheet.{Sheet, most_switches, most_wishes, Valid}
use Rattle.scope.specs.Meaning.{bits}
use Rattle.scope.specs.Program.{Row, row, each, switch_row, wish_row, pattern_row}
use Rattle.scope.proofs.Laws.Points.{length_bits}
use Rattle.circuit.specs.declared.planned.Planned.{Planned}
use Rattle.listing.specs.declared.head.Head.{Head}
use Rattle.listing.specs.Rows.{row_size, Wrote}
use Rattle.listing.specs.Listing.{plan_rows_of, plan_count, listing_rows, row_count}
use Rattle.listing.specs.Laws.Rows.{length_each, rest, with_rest, part_left, wrote_more}

pub switch_count : (t : Sheet) (plan : ℕ) → length (each switch_row 1 (bits t.switches plan)) ≡ t.switches
switch_count t plan = length_each switch_row 1 (bits t.switches plan) ∙ length_bits t.switches plan

pub plan_length : (f : Option Planned) → length (plan_rows_of f) ≡ plan_count f
plan_length None = refl
plan_length (Some f) =
    let t : Sheet = f.sheet.now in
    omega (arith, length-append (each switch_row 1 (bits t.switches f.plan.0)) (each (wish_row t f.plan.0) 1 t.wishes), switch_count t f.plan.0, length_each (wish_row t f.plan.0) 1 t.wishes)

-- a valid sheet has few switches and wishes, and without a plan none is shown
pub plan_few : (f : Option Planned) → IfSome f (λ f. Valid f.sheet.now) → plan_count f ≤ most_switches + most_wishes
plan_few None v = omega arith
plan_few (Some f) v = omega (arith, v.switches, v.few_wishes)

-- A and the plan's rows, and then the patterns
abbrev answer_row : Head → Row
answer_row h = row "A" h.number h.place h.figure

abbrev middle_rows : Head → Option Planned → List Row
middle_rows h f = answer_row h ∷ plan_rows_of f

abbrev front_rows : Head → Option Planned → List ℕ → List Row
front_rows h f list = middle_rows h f ++ each pattern_row 1 list

-- four parts, one after another: A, the plan's rows, the patterns, Z
module _ (out : List ℕ) (h : Head) (f : Option Planned) (list : List ℕ) (room : row_size * row_count f list ≤ length out) where
  module _ {o n₁ : List ℕ} {e m₁ : ℕ} (p : Wrote out (answer_row h ∷ []) o e) (q : Wrote (rest e o) (plan_rows_of f) n₁ m₁) where
    middle : Wrote out (middle_rows h f) (with_rest e o n₁) (e + m₁)
    middle = wrote_more p (omega (arith, p.end_is)) q

    middle_end : e + m₁ ≡ row_size * (1 + plan_count f)
    middle_end = omega (arith, middle.end_is, plan_length f)

    pub patterns_room : row_size * length list ≤ length (rest (e + m₁) (with_rest e o n₁))
    patterns_room = omega (arith, part_left middle (omega (arith, middle_end)), middle_end)

    module _ {n₂ : List ℕ} {m₂ : ℕ} (r : Wrote (rest (e + m₁) (with_rest e o n₁)) (each pattern_row 1 list) n₂ m₂) where
      front : Wrote out (front_rows h f list) (with_rest (e + m₁) (with_rest e o n₁) n₂) (e + m₁ + m₂)
      front = wrote_more middle (omega (arith, middle_end)) r

      front_end : e + m₁ + m₂ ≡ row_size * (1 + plan_count f + length list)
      front_end = omega (arith, front.end_is, plan_length f, length_each pattern_row 1 list, length-append (middle_rows h f) (each pattern_row 1 list))

      pub end_room : row_size ≤ length (rest (e + m₁ + m₂) (with_rest (e + m₁) (with_rest e o n₁) n₂))
      end_room = omega (arith, part_left front (omega (arith, front_end)), front_end)

      -- each row has the same size, so that as many stand before Z
      pub lines_before : (e + m₁ + m₂) / row_size ≡ 1 + plan_count f + length list
      lines_before = omega (arith, front_end)

      pub listing_wrote : {n₃ : List ℕ} {m₃ : ℕ} → Wrote (rest (e + m₁ + m₂) (with_rest (e + m₁) (with_rest e o n₁) n₂)) (row "Z" ((e + m₁ + m₂) / row_size) 0 0 ∷ []) n₃ m₃
          → Wrote out (listing_rows h f list) (with_rest (e + m₁ + m₂) (with_rest (e + m₁) (with_rest e o n₁) n₂) n₃) (e + m₁ + m₂ + m₃)
      listing_wrote {n₃} {m₃} z =
          let n : (e + m₁ + m₂) / row_size ≡ length (front_rows h f list) = omega (arith, front.end_is) in
          wrote_more front (omega (arith, front_end)) (subst (λ k. Wrote (rest (e + m₁ + m₂) (with_rest (e + m₁) (with_rest e o n₁) n₂)) (row "Z" k 0 0 ∷ []) n₃ m₃) n z)
