-- A buffer that may be too short is left alone. A sheet that was read is valid, so that the writer gives its bytes; a refusal is listed.
use Rattle.std.proofs.Common.{sym, ap, ◌∙◌, le-ltb}
use Rattle.std.specs.Prelude.{unwrap_or}
use Rattle.scope.specs.Causes.{accepted}
use Rattle.scope.specs.Program.{listing_result}
use Rattle.scope.specs.Source.{Source}
use Rattle.writer.specs.Returned.{written_from}
use Rattle.output.specs.Laws.Converted.{not_converted, unwrapped, converted_written, none_refused, converted_listed}
use Rattle.output.proofs.put_sheet.Goals as goal

pub returns-then-out-lt-MOST_SHEET-clause-sheet : goal.returns-then-out-lt-MOST_SHEET-clause-sheet
returns-then-out-lt-MOST_SHEET-clause-sheet c = not_converted _ _ c.if-out-lt-MOST_SHEET.true

pub returns-in-Ok-clause-sheet : goal.returns-in-Ok-clause-sheet
returns-in-Ok-clause-sheet c =
    let h : Source (accepted c.in-Ok.sheet) = rw c.in-Ok.is at c.requires in
    let w = c.write.result in
    rw c.in-Ok.is (ap (λ n. listing_result (unwrap_or n 0) c.write.new.out) c.ok.ensures.value ∙ unwrapped w c.write.new.out
    ∙ converted_written c.args.out.now c.if-out-lt-MOST_SHEET.false c.in-Ok.sheet c.words.result.now h c.words.ensures (written_from w c.write.new.out) c.write.ensures)

pub returns-in-Ok-clause-short : goal.returns-in-Ok-clause-short
returns-in-Ok-clause-short c =
    let h : Source (accepted c.in-Ok.sheet) = rw c.in-Ok.is at c.requires in
    let some = none_refused c.args.out.now c.if-out-lt-MOST_SHEET.false c.in-Ok.sheet c.words.result.now h c.words.ensures c.write.result c.write.new.out c.write.ensures in
    rw (c.ok.ensures.variant, some) (sym (le-ltb _ _ c.if-out-lt-MOST_SHEET.false))

pub returns-in-Err-clause-sheet : goal.returns-in-Err-clause-sheet
returns-in-Err-clause-sheet c = rw c.in-Err.is (converted_listed c.args.out.now c.if-out-lt-MOST_SHEET.false _ _ _ _ _ c.put_refusal.ensures)
