-- What a reader filled is a source, and what is handed over of it is what reading into lent tables gives. Assumes nothing.
-- A theorem that was given stays, though nothing cites it: `fills_source`, `handed_read`.
use Rattle.std.specs.Prelude.{ℕ, List, Result, Ok, Err}
use Rattle.std.proofs.Common.{ap, ◌∙◌}
use Rattle.scope.specs.Causes.{Read, accepted, refused}
use Rattle.scope.specs.Source.{Source, Form, ReadFrom}
use Rattle.scope.specs.Filling.{read_result, IsRead}
use Rattle.scope.specs.Words.{held}
use Rattle.scope.proofs.Claims.{form_source}
use Rattle.words.specs.declared.refusal.Cause.{Cause}
use Rattle.words.specs.Refusals.{number_of}
use Rattle.words.specs.Told.{told_words, Fills}
use Rattle.planner.specs.Returned.{read_from}
use Rattle.planner.specs.Steps.{Handed}

pub fills_source : (x : Form) (r : Result Unit Cause) (w : List ℕ) → Fills (ReadFrom x) r w → Source (told_words r w)
fills_source x r w f = form_source x (told_words r w) f.read

-- an accepted sheet's words are those of the sheet that they hold; after a refusal nothing is handed over
pub handed_read : (R : Read → Type 0) (r : Result Unit Cause) (words before after : List ℕ) → Fills R r words → Handed r words before after → IsRead R before (read_from r after)
handed_read R (Ok u) words before after f h = record { read = accepted (held words); is_read = f.read; given = ap (read_result 0 0 0) (h ∙ f.zeros) }
handed_read R (Err c) words before after f h = record { read = refused (number_of c.refusal) c.place c.column; is_read = f.read; given = ap (read_result (number_of c.refusal) c.place c.column) h }
