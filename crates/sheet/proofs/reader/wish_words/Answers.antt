-- Fields that are literals and then zeros are those of their clause, filled up with zeros, so the code of field i is that of literal i; the
-- last word is the weight on the line.
use Rattle.std.proofs.Common.{sym, ap}
use Rattle.sheet.proofs.Literals.{words_are}
use Rattle.sheet.proofs.reader.wish_words.Goals as goal

pub returns : goal.returns
returns g c = rw (ap (λ x. x.size) (sym c.weight.ensures)) (words_are _ c.requires.literals _ c.code.ensures c.code-2.ensures c.code-3.ensures)
