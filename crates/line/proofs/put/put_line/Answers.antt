-- Letter, numbers and line feed are put one behind the other, at the beginning of the buffer.
use Rattle.std.proofs.Common.{arith}
use Rattle.std.proofs.lemmas.List.{length-map}
use Rattle.field.specs.Columns.{number_from}
use Rattle.line.proofs.Printed.{line_first}
use Rattle.line.proofs.put.put_line.Goals as goal

pub returns : goal.returns
returns c =
    line_first c.args.out.now c.put_fields.new.out c.args.letter _ _ _ _ c.requires.fit (length-map c.args.numbers.now number_from) c.requires.room (omega arith) (omega arith) c.put_fields.ensures
