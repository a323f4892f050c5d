-- Answer's figures fit their fields, its list is within the program's, and the plan's rows are shown exactly if a plan was found.
use Rattle.std.proofs.Common.{[], ap, subst}
use Rattle.scope.specs.Causes.{accepted}
use Rattle.scope.specs.Program.{plan_rows}
use Rattle.jobs.specs.Figures.{answer_figures}
use Rattle.listing.specs.Rows.{Wrote}
use Rattle.output.specs.Laws.Listing.{printable, words_small, rows_are, some_found, none_found}
use Rattle.output.proofs.put_answer.Goals as goal

pub head-requires : goal.head-requires
head-requires c =
    printable (accepted c.args.sheet.now) c.requires.source c.answer-outcome.result c.answer-outcome.new.list c.answer-outcome.ensures.answer

pub put_listing-requires-clause-small : goal.put_listing-requires-clause-small
put_listing-requires-clause-small c =
    words_small (accepted c.args.sheet.now) c.requires.source c.answer-outcome.result c.answer-outcome.new.list c.answer-outcome.ensures.answer

pub put_listing-requires-in-Err-clause-small : goal.put_listing-requires-in-Err-clause-small
put_listing-requires-in-Err-clause-small c =
    words_small (accepted c.args.sheet.now) c.requires.source c.answer-outcome.result c.answer-outcome.new.list c.answer-outcome.ensures.answer

pub returns-in-Ok : goal.returns-in-Ok
returns-in-Ok c =
    let o = c.answer-outcome.result in
    subst (λ rs. Wrote c.args.out.now rs c.put_listing.new.out c.put_listing.result)
    (rows_are (accepted c.args.sheet.now) c.requires.source o c.answer-outcome.new.list c.answer-outcome.ensures.answer c.head.result (plan_rows c.args.sheet.now c.in-Ok.best.plan.0) c.head.ensures (some_found c.args.sheet.now (ap (λ a. answer_figures a o.length) c.in-Ok.is))) c.put_listing.ensures

pub returns-in-Err : goal.returns-in-Err
returns-in-Err c =
    let o = c.answer-outcome.result in
    subst (λ rs. Wrote c.args.out.now rs c.put_listing-in-Err.new.out c.put_listing-in-Err.result)
    (rows_are (accepted c.args.sheet.now) c.requires.source o c.answer-outcome.new.list c.answer-outcome.ensures.answer c.head-in-Err.result [] c.head-in-Err.ensures (none_found c.args.sheet.now c.in-Err.field-0 (ap (λ a. answer_figures a o.length) c.in-Err.is))) c.put_listing-in-Err.ensures
