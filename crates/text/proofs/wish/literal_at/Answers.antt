-- The name is read from the place past the `!`, which has moved exactly where a `!` stands.
use Prim.Native.Char.{code}
use Rattle.std.proofs.Common.{[], ◌∷◌, Ok, Err, arith}
use Rattle.scanner.specs.Laws.Tokens.{handed_on}
use Rattle.scanner.specs.Laws.Walks.{past_within}
use Rattle.text.specs.Laws.Wishes.{begun_literal, no_literal, named_literal}
use Rattle.text.proofs.wish.literal_at.Goals as goal

pub named_at-requires : goal.named_at-requires
named_at-requires c = let a = c.args in (omega (arith, c.past_byte-name.ensures, past_within a.s.now a.at (code "!" ∷ []) c.requires), omega arith)

pub returns-in_err-k : goal.returns-in_err-k
returns-in_err-k c = rw (handed_on _ c.from_residual.ensures.1) (begun_literal _ _ _ c.past_byte-name.ensures (Err c.in_err-k.field-0.0) (no_literal _ _ _ c.in_err-k.ensures))

pub returns : goal.returns
returns c = begun_literal _ _ _ c.past_byte-name.ensures (Ok _) (named_literal _ _ _ _ c.in_ok-k.ensures)
