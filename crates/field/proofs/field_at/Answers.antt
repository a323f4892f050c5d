-- What the walk over the columns so far holds tells whether they begin a number; after all five, the number.
use Rattle.std.proofs.Common.{arith, refl, sym, ◌∙◌}
use Rattle.field.specs.Columns.{walk}
use Rattle.field.proofs.Columns.{next_state, stopped, is_number, ends_bare}
use Rattle.field.proofs.field_at.Goals as goal

pub loop-i-init : goal.loop-i-init
unfolding walk
loop-i-init c = refl

pub returns-in_default : goal.returns-in_default
returns-in_default c = stopped _ c.requires _ _ c.loop-i.invariant (omega arith) _ refl (sym c.after.ensures ∙ c.in_default.is)

pub loop-i-preserved : goal.loop-i-preserved
loop-i-preserved c = sym (sym c.after.ensures ∙ c.in-Some.is) ∙ next_state _ c.requires _ _ c.loop-i.invariant (omega arith) _ refl

pub returns-in-Digits : goal.returns-in-Digits
returns-in-Digits c = is_number _ c.requires _ _ c.loop-i.invariant (omega arith) _ c.in-Digits.is

pub returns-in-Blank : goal.returns-in-Blank
returns-in-Blank c = ends_bare _ c.requires _ _ c.loop-i.invariant (omega arith) c.in-Blank.is
