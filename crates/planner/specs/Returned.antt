-- What reading into lent tables returns. Assumes nothing.
use Rattle.std.specs.Prelude.{ℕ, List, Result, Ok, Err}
use Rattle.scope.specs.Filling.{ReadResult, read_result}
use Rattle.words.specs.declared.refusal.Cause.{Cause}
use Rattle.words.specs.Refusals.{number_of}

-- with the tables afterwards
abbrev pub read_from : Result Unit Cause → List ℕ → ReadResult
read_from (Ok u) tables = read_result 0 0 0 tables
read_from (Err c) tables = read_result (number_of c.refusal) c.place c.column tables
