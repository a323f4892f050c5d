-- A typed text turned into its sheet: what the writer gives for the words of an accepted text, and the listing of a refusal. Assumes nothing.
use Rattle.std.specs.Prelude.{ℕ, ◌≤◌, ◌<◌, true, List, ◌≡◌, refl, is_ok, unwrap_or, Result, Ok, Err}
use Rattle.std.proofs.Common.{arith, le-leb, le-ltb, ◌∙◌}
use Rattle.std.proofs.Math.Path.{ap}
use Rattle.std.proofs.Math.ListN.{length}
use Rattle.scope.specs.Sheet.{Sheet, weighted, sheet_bytes, Valid}
use Rattle.scope.specs.Causes.{Read, accepted, refused}
use Rattle.scope.specs.Words.{held}
use Rattle.scope.specs.Writing.{WriteResult, written, written_of, IsWritten}
use Rattle.scope.specs.Jobs.{over}
use Rattle.scope.specs.Source.{Source}
use Rattle.scope.specs.Program.{output, output_rows, listing_result, most_sheet, converted, converted_of, IsConverted}
use Rattle.scope.proofs.Claims.{converted_fits}
use Rattle.scope.proofs.Laws.TableReads.{valid_read}
use Rattle.std.specs.Result.{result_ok}
use Rattle.words.specs.declared.refusal.Cause.{Cause}
use Rattle.writer.specs.Returned.{written_from}
use Rattle.listing.specs.Rows.{Wrote}
use Rattle.output.specs.Laws.Listing.{left_alone, refused_number, wrote_placed, placed_within}

-- a buffer that may be too short is left alone
pub not_converted : (r : Read) (out : List ℕ) → length out < most_sheet → listing_result 0 out ≡ converted_of r out
unfolding converted_of
not_converted r out h = left_alone most_sheet (converted r) out h

-- the length of what was written, or 0
pub unwrapped : (w : Result ℕ Cause) (now : List ℕ) → listing_result (unwrap_or (result_ok w) 0) now ≡ listing_result (written_from w now).length (written_from w now).buffer
unwrapped (Ok n) now = refl
unwrapped (Err c) now = refl

-- ---- what is put into a buffer that has room for the longest sheet

module _ (out : List ℕ) (room_for : most_sheet ≤ length out) where
  module _ (t : Sheet) (s : List ℕ) (h : Source (accepted t)) (e : held s ≡ t) where
    -- the writer gives the sheet that the words hold, as it is valid and there is room for it
    all_written : (w : WriteResult) → IsWritten s out w → w ≡ written 0 0 0 (length (sheet_bytes weighted t)) (over (sheet_bytes weighted t) out)
    unfolding converted
    all_written w g =
        let v : Valid t = h.valid t refl in
        let r : g.read ≡ accepted t = valid_read t v (rw e at g.is_read) in
        let n : length (sheet_bytes weighted t) ≤ most_sheet = converted_fits (accepted t) h in
        let f : w ≡ written_of (accepted t) out = g.given ∙ ap (λ r. written_of r out) r in
        rw f (rw (le-leb (length (sheet_bytes weighted t)) (length out) (omega arith)) refl)

    pub converted_written : (w : WriteResult) → IsWritten s out w → listing_result w.length w.buffer ≡ converted_of (accepted t) out
    unfolding converted_of converted
    converted_written w g = rw (all_written w g, le-ltb (length out) most_sheet room_for) refl

    -- and does not refuse it
    pub none_refused : (w : Result ℕ Cause) (now : List ℕ) → IsWritten s out (written_from w now) → is_ok w ≡ true
    none_refused (Ok n) now g = refl
    none_refused (Err c) now g = absurd (refused_number c.refusal (ap (λ w. w.number) (all_written (written_from (Err c) now) g)))

  -- the listing of a refusal
  pub converted_listed : (number place column : ℕ) (now : List ℕ) (end : ℕ) → Wrote out (output_rows (refused number place column)) now end → listing_result end now ≡ converted_of (refused number place column) out
  unfolding converted_of converted output
  converted_listed number place column now end w = wrote_placed most_sheet (output_rows (refused number place column)) out now end room_for w

-- so what is converted is no longer than its buffer
pub sheet_fits : (R : Read → Type 0) (out after : List ℕ) (m : ℕ) → IsConverted R out (listing_result m after) → length after ≡ length out → m ≤ length after
unfolding converted_of
sheet_fits R out after m g n = rw n (placed_within most_sheet (converted g.read) out (listing_result m after) g.given n)
