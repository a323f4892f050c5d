-- Reads the sheet that tables hold by computing: `tables_read` (Claims) says that this gives what TablesRead says. Assumes nothing.
use Rattle.scope.specs.Sheet.{Sheet}
use Rattle.scope.specs.Causes.{Read, accepted}
use Rattle.scope.specs.Parsing.{first_line}
use Rattle.scope.specs.Writing.{table_tests}

unfoldable pub read_tables : Sheet → Read
read_tables t = first_line 1 (table_tests t) (accepted t)
