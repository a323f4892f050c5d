-- What the slice gives is the element at the place, if there is one.
use Rattle.std.proofs.Common.{ap, ◌∙◌}
use Rattle.scanner.specs.Look.{byte_of}
use Rattle.scanner.specs.Laws.Walks.{byte_of_item}
use Rattle.scanner.proofs.reader.byte_at.Goals as goal

pub returns : goal.returns
returns c = ap byte_of c.copied.ensures ∙ byte_of_item c.args.text.now c.args.at c.get.result c.get.ensures.lookup
