-- What the writer returns. Assumes nothing.
use Rattle.std.specs.Prelude.{ℕ, List, Result, Ok, Err}
use Rattle.scope.specs.Writing as scope
use Rattle.words.specs.declared.refusal.Cause.{Cause}
use Rattle.words.specs.Refusals.{number_of}

-- the length or the cause, with the buffer afterwards
abbrev pub written_from : Result ℕ Cause → List ℕ → scope.WriteResult
written_from (Ok n) out = scope.written 0 0 0 n out
written_from (Err c) out = scope.written (number_of c.refusal) c.place c.column 0 out
