-- What `map_err` makes of a result, read backwards. Assumes nothing.
use Rattle.std.specs.Prelude.{◌≡◌, refl, Result, Ok, Err}
use Rattle.std.specs.Result.{MatchResult, IsErrAnd}
use Rattle.std.proofs.Common.{sym, subst, ◌∙◌}
use Rattle.std.proofs.lemmas.Result.{err_from_is_err_and}

-- y is x with another error, of which Q says how it is made
abbrev pub Mapped : {T E D : Type 0} → (Q : E → D → Type 0) → Result T E → Result T D → Type 0
Mapped Q x y = MatchResult x (λ t. y ≡ Ok t) (λ e. IsErrAnd y (Q e))

module _ {T E D : Type 0} (Q : E → D → Type 0) where
  pub mapped_ok : (x : Result T E) (y : Result T D) → Mapped Q x y → {t : T} → y ≡ Ok t → x ≡ Ok t
  mapped_ok (Ok u) y h e = let p : Ok u ≡ Ok _ = sym h ∙ e in cc
  mapped_ok (Err d) (Ok u) h e = absurd h
  mapped_ok (Err d) (Err f) h e = cc

  pub mapped_err : (x : Result T E) (y : Result T D) → Mapped Q x y → {d : D} → y ≡ Err d → (e : E) × (x ≡ Err e) × Q e d
  mapped_err (Ok u) y h g = cc
  mapped_err (Err e) y h {d} g =
      let p = err_from_is_err_and y h in
      let s : p.0 ≡ d = cc in
      (e, refl, subst (Q e) s p.2)
