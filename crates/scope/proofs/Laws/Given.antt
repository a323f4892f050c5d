-- What a reading gives is fixed where the reading is computed. Assumes nothing.
use Rattle.std.specs.Prelude.{◌↔◌, ◌≡◌, refl}
use Rattle.std.proofs.Common.{sym, ap, ◌∙◌}
use Rattle.scope.specs.Causes.{Read}
use Rattle.scope.specs.Source.{Gives}

pub given_iff : {B : Type 0} (R : Read → Type 0) (q : Read) → ((r : Read) → (q ≡ r) ↔ R r) → (f : Read → B) (b : B) → (b ≡ f q) ↔ Gives R f b
given_iff R q iff f b = (λ e. record { read = q; is_read = (iff q).0 refl; given = e }, λ g. g.given ∙ ap f (sym ((iff g.read).1 g.is_read)))

-- the same under another name
pub given_as : {B : Type 0} {R : Read → Type 0} {f : Read → B} {b c : B} → c ≡ b → Gives R f b → Gives R f c
given_as e g = record { read = g.read; is_read = g.is_read; given = e ∙ g.given }

-- in other words
pub given_map : {B C : Type 0} {R : Read → Type 0} {f : Read → B} {b : B} (h : B → C) → Gives R f b → Gives R (λ r. h (f r)) (h b)
given_map h g = record { read = g.read; is_read = g.is_read; given = ap h g.given }
