-- The byte that stands there is tested as the definition does, and the end is no digit.
use Rattle.std.specs.Prelude.{ℕ, ◌-◌, Bool, cond, ◌≡◌, Option, Some, None, IfSome, refl}
use Rattle.std.specs.Option.{is_some}
use Rattle.std.proofs.Common.{sym, ◌∙◌, rules, tests}
use Prim.Native.Char.{code}
use Rattle.scanner.specs.Laws.Tokens.{digit_of_byte, no_digit}
use Rattle.scanner.proofs.token.digit_at.Goals as goal

-- what `then` gives
chosen : (o : Option ℕ) (t : Bool) (x : ℕ) → is_some o ≡ t → IfSome o (λ y. y ≡ x) → o ≡ cond t (Some x) None
chosen None t x e h = rw (← e) refl
chosen (Some y) t x e h = rw (← e, h) refl

pub returns-in_err-b : goal.returns-in_err-b
returns-in_err-b c = c.from_residual.ensures ∙ sym (no_digit _ _ c.in_err-b.ensures)

pub returns : goal.returns
returns c =
    let b = c.in_ok-b.b in
    let t = c.is_ascii_digit.ensures.value in
    let s : IfSome c.then.result (λ y. y ≡ b - code "0") = search (rules, tests) in
    chosen c.then.result c.is_ascii_digit.result (b - code "0") c.then.ensures.variant s ∙ sym (digit_of_byte _ _ b c.in_ok-b.ensures ∙ rw (← t) refl)
