-- A line read and tested: what turns it down. Assumes nothing.
use Rattle.std.specs.Prelude.{ℕ, ◌+◌, Bool, List, ◌≡◌, refl, Result, Ok, Err}
use Rattle.std.proofs.Common.{add-one}
use Rattle.std.proofs.Math.Option as math
use Rattle.scope.specs.Sheet.{Sheet}
use Rattle.scope.specs.Causes.{tests, First}
use Rattle.scope.specs.Reading.{line_of, column_of}
use Rattle.scope.proofs.Laws.Scans.{well_formed}
use Rattle.scope.proofs.Laws.Beginnings.{column_is}
use Rattle.scope.proofs.Laws.Lines.{line_iff}
use Rattle.words.specs.Refusals.{Tested}
use Rattle.words.specs.Laws.Results.{Mapped, mapped_ok, mapped_err}
use Rattle.words.specs.declared.refusal.Refusal.{Refusal}
use Rattle.words.specs.declared.refusal.Refusal.TheVariants.{Malformed}
use Rattle.words.specs.declared.refusal.Cause.{Cause}
use Rattle.field.specs.declared.Malformed as field
use Rattle.line.specs.Lines.{LineRead, layout_of, line_from}
use Rattle.line.specs.declared.line.Line.{Line}
use Rattle.sheet.specs.Steps.{LineTold}

pub formed : (n : ℕ) (s : List ℕ) (P : field.Malformed → Cause → Type 0) (r : Result (Line n) field.Malformed) (q : Result (Line n) Cause) (l : Line n) → LineRead n s r → Mapped P r q → q ≡ Ok l → line_of n s ≡ math.some (line_from l)
formed n s P r q l f m e = rw (mapped_ok P r q m e) at f

module _ (n : ℕ) (s : List ℕ) (t : Sheet) (k : ℕ) (last : Bool) (c : Cause) where
  pub malformed : (P : field.Malformed → Cause → Type 0) (r : Result (Line n) field.Malformed) (q : Result (Line n) Cause) → LineRead n s r → Mapped P r q → q ≡ Err c
      → ((m : field.Malformed) → P m c → c ≡ record { refusal = Malformed; place = k + 1; column = m.column }) → LineTold n s t k last (Err c)
  malformed P r q f m e h =
      let (x, g, p) = mapped_err P r q m e in
      let (f, g) = rw g at f in
      rw (h x p, f, g) (First.here, add-one k, refl)

  pub at_fault : (P : Refusal → Cause → Type 0) (l : Line n) (r : Result (Unit {0}) Refusal) (p : Result (Unit {0}) Cause) → line_of n s ≡ math.some (line_from l) → Tested (tests (layout_of n) t k last (line_from l).letter (line_from l).fields) r
      → Mapped P r p → p ≡ Err c → ((x : Refusal) → P x c → c ≡ record { refusal = x; place = k + 1; column = 0 }) → LineTold n s t k last (Err c)
  at_fault P l r p f g m e h =
      let (x, y, z) = mapped_err P r p m e in
      let w : math.get_or (column_of n s) 0 ≡ 0 = column_is n s 0 (well_formed (line_from l) ((line_iff n s (line_from l)).0 f)) in
      rw (h x z, f, w) (rw y at g, add-one k, refl)
