-- The bytes passed, with those of the rest of the word that stand from there on, are all that are to be counted; and the place is a
-- number, as the byte before it stands in the text.
use Rattle.std.proofs.Common.{◌≡◌, ◌+◌, ◌<◌, ◌^◌, drop}
use Rattle.scanner.specs.Look.{standing}
use Rattle.scanner.proofs.reader.same_bytes.Given as goal

abbrev pub invariant-loop-i : goal.invariant-loop-i
invariant-loop-i l = (standing l.text l.at l.word ≡ l.i + standing l.text (l.at + l.i) (drop l.i l.word)) × (l.at + l.i < 2 ^ 64)
