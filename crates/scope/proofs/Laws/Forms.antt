-- What is read from a sheet or a text is a source, and the same tables have the same answers, whatever form they come from. Assumes nothing.
use Rattle.std.specs.Prelude.{◌≡◌, refl}
use Rattle.std.proofs.Common.{sym, ap, ◌∙◌}
use Rattle.scope.specs.Sheet.{Sheet, weighted, Valid}
use Rattle.scope.specs.Causes.{Read, accepted}
use Rattle.scope.specs.Source.{Source, Gives, Form, sheet, text, ReadFrom}
use Rattle.scope.specs.Words.{held, words_of}
use Rattle.scope.proofs.Laws.Sources.{sheet_source}
use Rattle.scope.proofs.Laws.SheetReads.{sheet_iff}
use Rattle.scope.proofs.Laws.TextReads.{text_iff}
use Rattle.scope.proofs.Laws.TypedSheets.{reads_source}
use Rattle.scope.proofs.Laws.Words.{held_words}

pub read_once : (x : Form) (r q : Read) → ReadFrom x r → ReadFrom x q → r ≡ q
read_once (sheet s) r q h i = sym ((sheet_iff weighted s r).1 h) ∙ (sheet_iff weighted s q).1 i
read_once (text s) r q h i = sym ((text_iff s r).1 h) ∙ (text_iff s q).1 i

pub form_source : (x : Form) (r : Read) → ReadFrom x r → Source r
form_source (sheet s) r h = rw ((sheet_iff weighted s r).1 h) at (sheet_source s)
form_source (text s) r h = reads_source s r h

-- valid sheets with the same words are the same
pub same_sheet : (t v : Sheet) → Valid t → Valid v → words_of t ≡ words_of v → t ≡ v
same_sheet t v a b e = sym (held_words t a) ∙ ap held e ∙ held_words v b

pub same_given : (x y : Form) (t v : Sheet) → ReadFrom x (accepted t) → ReadFrom y (accepted v) → words_of t ≡ words_of v → {B : Type 0} (f : Read → B) (a b : B) → Gives (ReadFrom x) f a → Gives (ReadFrom y) f b → a ≡ b
same_given x y t v h i w f a b g k =
    let e : t ≡ v = same_sheet t v ((form_source x (accepted t) h).valid t refl) ((form_source y (accepted v) i).valid v refl) w in
    g.given ∙ ap f (read_once x g.read (accepted t) g.is_read h ∙ ap accepted e ∙ read_once y (accepted v) k.read i k.is_read) ∙ sym k.given
