-- The listing of what Answer returned is the program's output. Assumes nothing.
use Rattle.std.specs.Prelude.{ℕ, ◌+◌, ◌≤◌, ◌<◌, Bool, true, false, cond, List, [], ◌∷◌, ◌++◌, ◌≢◌, ◌≡◌, refl, ltb, length, get_or, take, drop, replicate, Option, None, IfSome, Result, Ok, Err}
use Rattle.std.proofs.Common.{arith, sym, ap₂, subst, ◌∙◌, length-append, length-drop, leb-true, lt-ltb, le-ltb, ne_eqb}
use Rattle.std.proofs.Math.Path.{ap}
use Rattle.std.proofs.lemmas.List.{length-replicate}
use Rattle.scope.specs.Sheet.{Sheet, fits, most_switches, most_wishes, All, Valid}
use Rattle.scope.specs.Causes.{Read, accepted}
use Rattle.scope.specs.Source.{Source}
use Rattle.scope.specs.Jobs.{refusal, found, Answer, answered, answer_of, over}
use Rattle.scope.specs.Jobs as jobs
use Rattle.scope.specs.Demands.{listed}
use Rattle.scope.specs.Program.{Row, row, each, pattern_row, plan_rows, found_rows, third, answer_rows, ended, room, output_rows, rows_bytes, output, most_output, ListingResult, listing_result, placed, listing_of, IsListing}
use Rattle.scope.proofs.Laws.Outputs.{output_fits, listed_small}
use Rattle.words.specs.declared.refusal.Cause.{Cause}
use Rattle.words.specs.declared.refusal.Refusal.{Refusal}
use Rattle.words.specs.declared.refusal.Refusal.TheVariants.{Length, Malformed, Order, Range, Limit, Fields, Count, NoPlan, NoRoom, HighPlan, HighPattern, Illegal, TooShort, Weight}
use Rattle.words.specs.Refusals.{number_of}
use Rattle.words.specs.Told.{told}
use Rattle.circuit.specs.declared.planned.Planned.{Planned}
use Rattle.listing.specs.declared.head.Head.{Head}
use Rattle.listing.specs.Rows.{Wrote, Small}
use Rattle.listing.specs.Listing.{listing_rows, row_count}
use Rattle.listing.specs.Laws.Listing.{plan_few}
use Rattle.jobs.specs.declared.outcome.Outcome.{Outcome}
use Rattle.jobs.specs.Figures.{answer_figures, result_of, answer_from}
use Rattle.output.specs.Steps.{Printable, Heads}

-- ---- what is put into a buffer, or left alone where that may be too short

pub left_alone : (most : ℕ) (s out : List ℕ) → length out < most → listing_result 0 out ≡ placed most s out
left_alone most s out h = rw (lt-ltb (length out) most h)

pub wrote_placed : (most : ℕ) (rs : List Row) (out now : List ℕ) (end : ℕ) → most ≤ length out → Wrote out rs now end → listing_result end now ≡ placed most (rows_bytes rs) out
wrote_placed most rs out now end h w =
    let n : end ≡ length (rows_bytes rs) = omega (arith, w.end_is, w.size) in
    rw (le-ltb (length out) most h) (ap₂ listing_result n w.bytes)

-- and it is no longer than a buffer of the same length
pub placed_within : (most : ℕ) (s out : List ℕ) (b : ListingResult) → b ≡ placed most s out → length b.buffer ≡ length out → b.length ≤ length out
placed_within most s out b e n = rw e (go (ltb (length out) most) (rw e at n))
  where
    go : (t : Bool) → length (cond t (listing_result 0 out) (listing_result (length s) (over s out))).buffer ≡ length out → (cond t (listing_result 0 out) (listing_result (length s) (over s out))).length ≤ length out
    go true h = omega arith
    go false h = omega (arith, length-append s (drop (length s) out), length-drop (length s) out)

-- ---- so of the listing

pub not_listed : (r : Read) (out : List ℕ) → length out < most_output → listing_result 0 out ≡ listing_of r out
unfolding listing_of
not_listed r out h = left_alone most_output (output r) out h

pub wrote_listing : (r : Read) (rs : List Row) (out now : List ℕ) (end : ℕ) → most_output ≤ length out → rs ≡ output_rows r → Wrote out rs now end → listing_result end now ≡ listing_of r out
unfolding listing_of output
wrote_listing r rs out now end h e w = wrote_placed most_output rs out now end h w ∙ ap (λ qs. placed most_output (rows_bytes qs) out) e

-- ---- figures that fit

head_fits : (o : Read) (a : Answer) → All (λ r. All (λ x. fits x ≡ true) r.fields) (ended (answer_rows o a)) → Printable a.result
head_fits o a ((p, (q, (r, t))), rest) = record { number = omega (arith, leb-true a.result.number 99999 p); place = omega (arith, leb-true a.result.place 99999 q); figure = omega (arith, leb-true (third a.result) 99999 r) }

pub figures_fit : (r : Read) → Source r → Printable (answer_of r (replicate room 0)).result
unfolding output_rows
figures_fit r h = head_fits r (answer_of r (replicate room 0)) (output_fits r h)

-- ---- what Answer returned for what was read, o, and left in the program's list, l

lengths : (o : Outcome) → (result_of o).length ≡ o.length
lengths o = go o.answer
  where
    go : (a : Result _ Cause) → (answer_figures a o.length).length ≡ o.length
    go (Ok c) = refl
    go (Err e) = refl

module _ (r : Read) (h : Source r) (o : Outcome) (l : List ℕ) (g : answer_from o l ≡ answer_of r (replicate room 0)) where
  pub printable : Printable (result_of o)
  printable = subst (λ a. Printable a.result) (sym g) (figures_fit r h)

  pub length_small : o.length ≤ room
  length_small =
      let n : (result_of o).length ≤ room = subst (λ a. a.result.length ≤ room) (sym g) (rw length-replicate at (listed_small r h (replicate room 0)).0) in
      omega (arith, n, lengths o)

  pub words_small : Small (take o.length l)
  words_small i k =
      let m : (i : ℕ) → i < length (listed (answer_from o l)) → get_or (listed (answer_from o l)) i 0 < 65536 = subst (λ a. (i : ℕ) → i < length (listed a) → get_or (listed a) i 0 < 65536) (sym g) (listed_small r h (replicate room 0)).1 in
      let n : (i : ℕ) → i < length (take o.length l) → get_or (take o.length l) i 0 < 65536 = subst (λ n. (i : ℕ) → i < length (take n l) → get_or (take n l) i 0 < 65536) (lengths o) m in
      omega (arith, n i k)

  -- the rows are those of what was read, if the plan's are
  pub rows_are : (d : Head) (plan : List Row) → Heads (result_of o) d → plan ≡ found_rows r (result_of o) → ended (row "A" d.number d.place d.figure ∷ plan ++ each pattern_row 1 (take o.length l)) ≡ output_rows r
  unfolding output_rows
  rows_are d plan e p =
      subst (λ n. ended (row "A" d.number d.place d.figure ∷ plan ++ each pattern_row 1 (take n l)) ≡ output_rows r) (lengths o) (rw (e.number, e.place, e.figure, p) (ap (λ a. ended (answer_rows r a)) g))

-- ---- the plan's rows are shown exactly if a plan was found

-- of a valid sheet they are few
pub rows_few : (f : Option Planned) → IfSome f (λ f. Valid f.sheet.now) → (list : List ℕ) → row_count f list ≤ 2 + (most_switches + most_wishes) + length list
rows_few f v list = omega (arith, plan_few f v)

pub refused_number : (c : Refusal) → number_of c ≢ 0
refused_number Length e = absurd (omega arith)
refused_number Malformed e = absurd (omega arith)
refused_number Order e = absurd (omega arith)
refused_number Range e = absurd (omega arith)
refused_number Limit e = absurd (omega arith)
refused_number Fields e = absurd (omega arith)
refused_number Count e = absurd (omega arith)
refused_number NoPlan e = absurd (omega arith)
refused_number NoRoom e = absurd (omega arith)
refused_number HighPlan e = absurd (omega arith)
refused_number HighPattern e = absurd (omega arith)
refused_number Illegal e = absurd (omega arith)
refused_number TooShort e = absurd (omega arith)
refused_number Weight e = absurd (omega arith)

pub some_found : (t : Sheet) {r : jobs.Result} {p c n : ℕ} → r ≡ found p c n → plan_rows t p ≡ found_rows (accepted t) r
some_found t e = rw e refl

pub none_found : (t : Sheet) {r : jobs.Result} (c : Cause) {n : ℕ} → r ≡ refusal (number_of c.refusal) c.place c.column n → [] ≡ found_rows (accepted t) r
none_found t c e = rw (e, ne_eqb (number_of c.refusal) 0 (refused_number c.refusal)) refl

-- and only where the sheet was accepted
pub found_valid : (r : Result Sheet Cause) → Source (told r) → (o : Outcome) (l : List ℕ) → answer_from o l ≡ answer_of (told r) (replicate room 0) → (result_of o).number ≡ 0 → (t : Sheet) × (r ≡ Ok t) × Valid t
found_valid (Ok t) h o l g n = (t, refl, h.valid t refl)
found_valid (Err c) h o l g n = absurd (refused_number c.refusal (sym (ap (λ a. a.result.number) g) ∙ n))

-- ---- a refusal, of which Answer gives the outcome o, has no rows of a plan and none of patterns

module _ (c : Cause) (o : Outcome) (e : result_of o ≡ refusal (number_of c.refusal) c.place c.column 0) where
  -- it is what Answer gives with the program's list
  pub refused_answer : answer_from o (replicate room 0) ≡ answer_of (told (Err c)) (replicate room 0)
  refused_answer = ap (λ r. answered r (replicate room 0)) e

  -- and lists nothing
  pub refused_rows : Source (told (Err c)) → (d : Head) → Heads (result_of o) d → listing_rows d None [] ≡ output_rows (told (Err c))
  unfolding each
  refused_rows h d heads =
      let none : o.length ≡ 0 = sym (lengths o) ∙ ap (λ r. r.length) e in
      rw none at (rows_are (told (Err c)) h o (replicate room 0) refused_answer d [] heads refl)

-- ---- it is no longer than its buffer

pub listing_fits : (R : Read → Type 0) (out after : List ℕ) (m : ℕ) → IsListing R out (listing_result m after) → length after ≡ length out → m ≤ length after
unfolding listing_of
listing_fits R out after m g n = rw n (placed_within most_output (output g.read) out (listing_result m after) g.given n)
