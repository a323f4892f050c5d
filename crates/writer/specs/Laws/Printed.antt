-- The lines of a valid held sheet put into a buffer one after another. Assumes nothing.
use Rattle.std.specs.Prelude.{ℕ, suc, ◌+◌, ◌*◌, ◌≤◌, ◌<◌, List, [], ◌∷◌, ◌++◌, ◌≡◌, refl, length, take, Ok, drop}
use Rattle.std.proofs.Common.{suc-mul, mul-le-mul, mul-le-mul_right, add-one, arith, ◌∙◌, take-suc, take_all, sym, ap, ap₂}
use Rattle.std.proofs.lemmas.Slice.{take-put_mid}
use borrow.Rule.Slice.PartMut.{put_mid}
use Rattle.scope.specs.Sheet.{Sheet, Line, Layout, plain, weighted, field_count, H, line, line_bytes, text, body, end_line, sheet_lines, sheet_bytes, Valid}
use Rattle.words.specs.Refusals.{number_of}
use Rattle.words.specs.Told.{told}
use Rattle.words.specs.declared.refusal.Cause.{Cause}
use Rattle.scope.specs.Causes.{accepted, refused, line_size, most_bytes}
use Rattle.scope.specs.Words.{held}
use Rattle.scope.specs.Writing.{TablesRead, written, IsWritten}
use Rattle.scope.specs.Writing as writing
use Rattle.scope.proofs.Laws.Lists.{length_snoc}
use Rattle.scope.proofs.Laws.Alls.{all_at}
use Rattle.scope.proofs.Laws.Steps.{three_fields}
use Rattle.scope.proofs.Laws.Inverse.{Good, text_snoc, good_lines, few_body}
use Rattle.scope.proofs.Laws.Writing.{length_lines, sheet_size}
use Rattle.scope.proofs.Laws.TableReads.{written_in, left_out}
use Rattle.writer.specs.Entries.{before_end}
use Rattle.writer.specs.Lines.{line_at}

-- ---- the lines, and the room that they need

four_fields : (y : Layout) → field_count y ≤ 4
four_fields plain = omega arith
four_fields weighted = omega arith

module _ (y : Layout) (u : List ℕ) where
  abbrev lines : List Line
  lines = sheet_lines y (held u)

  pub lines_count : length lines ≡ before_end u + 1
  lines_count = omega (arith, length_snoc (body y (held u)) (end_line y (length (body y (held u)))), length_lines y u)

  pub few_lines : Valid (held u) → before_end u ≤ 529
  few_lines v = omega (arith, few_body y (three_fields y) (held u) v, length_lines y u)

  module _ (v : Valid (held u)) (size : ℕ) (z : size ≡ line_size (field_count y)) where
    pub needed : length (sheet_bytes y (held u)) ≡ (before_end u + 1) * size
    needed = sheet_size y (held u) v ∙ ap₂ (λ a b. (a + 1) * b) (length_lines y u) (sym z)

    pub need_fits : (before_end u + 1) * size ≤ most_bytes 4
    need_fits = mul-le-mul {n₁ = before_end u + 1} {m₁ = size} {n₂ = 530} {m₂ = line_size 4} (omega (arith, few_lines v)) (omega (arith, z, four_fields y))

    pub line_room : (k : ℕ) → k ≤ before_end u → k * size + size ≤ length (sheet_bytes y (held u))
    line_room k h = let i : suc k * size ≤ (before_end u + 1) * size = mul-le-mul_right size (omega arith) in omega (arith, suc-mul k size, needed)

    pub line_good : (k : ℕ) → k ≤ before_end u → Good (field_count y) (line_at y u k)
    line_good k h = all_at (Good (field_count y)) lines (line H []) k (good_lines y (three_fields y) (held u) v) (omega (arith, lines_count))

    -- the first k lines stand at the beginning
    abbrev pub Begun : (k : ℕ) (now : List ℕ) → Type 0
    Begun k now = take (k * size) now ≡ text (take k lines)

    pub none_put : (now : List ℕ) → Begun 0 now
    unfolding text
    none_put now = let e : 0 * size ≡ 0 = omega arith in ap (λ j. take j now) e

    -- and line k is put behind them
    pub next_put : (k j : ℕ) (now new : List ℕ) → k ≤ before_end u → length (sheet_bytes y (held u)) ≤ length now → Begun k now → length new ≡ size → new ≡ line_bytes (line_at y u k) → Begun (k + 1) (put_mid (k * size) j now new)
    next_put k j now new h room p m q =
        let i : k < length lines = omega (arith, lines_count) in
        let t : take (k + 1) lines ≡ take k lines ++ line_at y u k ∷ [] = ap (λ j. take j lines) (add-one k) ∙ take-suc lines k (line H []) i in
        let e : (k + 1) * size ≡ k * size + size = omega (arith, suc-mul k size) in
        take-put_mid (k * size) j now new ((k + 1) * size) (omega arith) (omega (arith, line_room k h)) ∙ ap₂ (λ a b. a ++ b) p q ∙ sym (ap text t ∙ text_snoc (take k lines) (line_at y u k))

    pub all_put : (k : ℕ) (now : List ℕ) → before_end u < k → length now ≡ length (sheet_bytes y (held u)) → Begun k now → now ≡ sheet_bytes y (held u)
    all_put k now h e p =
        let i : (before_end u + 1) * size ≤ k * size = mul-le-mul_right size (omega arith) in
        let z : length now ≤ k * size = omega (arith, needed) in
        sym (take_all (k * size) now z) ∙ p ∙ ap text (take_all k lines (omega (arith, lines_count)))

-- ---- what writing tells: the first cause, 13, or the sheet

module _ (u : List ℕ) where
  abbrev need : ℕ
  need = (before_end u + 1) * line_size (field_count weighted)

  module _ (v : Valid (held u)) where
    pub all_needed : length (sheet_bytes weighted (held u)) ≡ need
    all_needed = needed weighted u v (line_size (field_count weighted)) refl

    pub whole : (now out : List ℕ) → need ≤ length out → now ≡ sheet_bytes weighted (held u) → IsWritten u out (written 0 0 0 need (now ++ drop need out))
    whole now out room p = record {
      read = accepted (held u);
      is_read = writing.accepted v;
      given = rw (p, ← all_needed) (sym (written_in (held u) out (rw all_needed room)));
    }

    pub too_short : (out : List ℕ) → length out < need → IsWritten u out (written 13 0 0 0 out)
    too_short out h = record { read = accepted (held u); is_read = writing.accepted v; given = sym (left_out (held u) out (omega (arith, all_needed))) }

  pub valid_told : (t : Sheet) → TablesRead (held u) (told (Ok t)) → Valid (held u)
  valid_told t (writing.accepted v) = v

  -- the first cause is told
  pub fault_told : (c : Cause) → TablesRead (held u) (refused (number_of c.refusal) c.place c.column) → (out : List ℕ) → IsWritten u out (written (number_of c.refusal) c.place c.column 0 out)
  fault_told c h out = record { read = refused (number_of c.refusal) c.place c.column; is_read = h; given = refl }
