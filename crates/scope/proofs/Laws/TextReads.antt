-- Reading a text byte by byte gives what is said of it in plain quantifiers, and nothing else. Assumes nothing.
use Rattle.std.specs.Prelude.{ℕ, suc, ◌+◌, ◌-◌, ◌≤◌, ◌<◌, ◌↔◌, ◌≡◌, length, take, drop}
use Rattle.std.proofs.Math.Decide.{dec_le}
use Rattle.std.proofs.Common.{zero-add, arith, sym, ap, ◌∙◌, length-drop, take-append-drop, le-leb}
use mathlib.Core.List.{List, [], ◌∷◌, ◌++◌}
use Rattle.std.proofs.Math.Option.{Option, none, some}
use Rattle.std.proofs.Math.Path.{refl, subst}
use Rattle.std.proofs.lemmas.Bool.{lt-leb}
use Rattle.scope.specs.Sheet.{All}
use Rattle.scope.specs.Causes.{Test, Read, accepted, refused, Met}
use Rattle.scope.specs.Reading.{first_fault, unless_fault}
use Rattle.scope.specs.Typed.{Typed, Legal, most_text, line_tests, sheet_of}
use Rattle.scope.specs.Texts.{Starts, Shared, FirstLine, here, later, TextRead, too_long, not_legal, at_fault}
use Rattle.scope.specs.Texts as texts
use Rattle.scope.specs.Parsing.{Outcome, legal, stuck, walk, start, first_line, text_of, read_text}
use Rattle.scope.proofs.Laws.Refusals.{met, met_none, first, first_some}
use Rattle.scope.proofs.Laws.Completed.{walk_legal, walk_stuck}
use Rattle.scope.proofs.Laws.Walked.{legal_walks, stuck_front, starts_walk}

-- ---- the first line at fault

pub lines_met : (rss : List (List Test)) → All Met rss → (k : ℕ) (more : Read) → first_line k rss more ≡ more
unfolding first_line
lines_met [] m k more = refl
lines_met (rs ∷ rss) (m, ms) k more = rw (met_none rs m) (lines_met rss ms (suc k) more)

-- j lines stand before
pub line_refused : {c k : ℕ} {rss : List (List Test)} → FirstLine c k rss → (j : ℕ) (more : Read) → first_line (suc j) rss more ≡ refused c (j + k) 0
unfolding first_line
line_refused {c} (here f) j more = rw (first_some f) (ap (λ n. refused c n 0) (omega arith))
line_refused {c} (later {k} {rs} m f) j more = rw (met_none rs m) (line_refused f (suc j) more ∙ ap (λ n. refused c n 0) (omega arith))

-- by whether there is such a line
module _ (P : Read → Type 0) where
  pub by_lines : (j : ℕ) (rss : List (List Test)) (more : Read) → (All Met rss → P more) → ((c k : ℕ) → FirstLine c k rss → P (refused c (j + k) 0)) → P (first_line (suc j) rss more)
  unfolding first_line
  by_lines j [] more f g = f tt
  by_lines j (rs ∷ rss) more f g = go (first_fault rs) refl (by_lines (suc j) rss more)
    where
      go : (o : Option ℕ) → first_fault rs ≡ o → ((All Met rss → P more) → ((c k : ℕ) → FirstLine c k rss → P (refused c (suc j + k) 0)) → P (first_line (suc (suc j)) rss more)) → P (unless_fault o (suc j) 0 (first_line (suc (suc j)) rss more))
      go none e rest = rest (λ ms. f (met rs e, ms)) (λ c k h. subst (λ n. P (refused c n 0)) (omega arith) (g c (suc k) (later (met rs e) h)))
      go (some c) e rest = subst (λ n. P (refused c n 0)) (omega arith) (g c 1 (here (first c rs e)))

-- ---- the beginning that a legal text shares

shared_once : {s : List ℕ} {m n : ℕ} → Shared s m → Shared s n → m ≡ n
shared_once {m} {n} a b = omega (arith, b.longest m a.within a.starts, a.longest n b.within b.starts)

-- a longer beginning would be stuck too
stuck_longest : (s : List ℕ) (left : ℕ) → walk start s ≡ stuck left → (m : ℕ) → m ≤ length s → Starts (take m s) → m ≤ length s - left
stuck_longest s left e m l h = go (dec_le m (length s - left))
  where
    go : Dec (m ≤ length s - left) → m ≤ length s - left
    go (yes i) = i
    go (no i) =
        let n : ℕ = m + left - length s - 1 in
        let z : left ≡ suc n + length (drop m s) = omega (arith, length-drop m s) in
        let f : walk start (take m s ++ drop m s) ≡ stuck (suc n + length (drop m s)) = rw take-append-drop (e ∙ ap stuck z) in
        absurd (omega (arith, starts_walk (take m s) h (suc n) (stuck_front start (take m s) (drop m s) f)))

stuck_not_legal : (s : List ℕ) (left : ℕ) → walk start s ≡ stuck left → (v : Typed) → ¬ Legal v s
stuck_not_legal s left e v h =
    let f : legal v ≡ stuck left = sym (legal_walks v s h) ∙ e in
    let z : ◌≡◌ {A = ℕ} 0 1 = cc in
    omega arith

-- ---- the whole

too_long_lem : (s : List ℕ) → most_text < length s → read_text s ≡ refused 12 0 0
unfolding read_text
too_long_lem s h = rw (lt-leb (length s) most_text h)

short_enough : (s : List ℕ) (o : Outcome) → length s ≤ most_text → walk start s ≡ o → read_text s ≡ text_of (length s) o
unfolding read_text
short_enough s o l e = rw (le-leb (length s) most_text l, e)

stuck_shared : (s : List ℕ) (left : ℕ) → walk start s ≡ stuck left → Shared s (length s - left)
stuck_shared s left e = record { within = omega arith; starts = (walk_stuck s left e).1; longest = stuck_longest s left e }

text_told : (s : List ℕ) → TextRead s (read_text s)
text_told s = size (dec_le (length s) most_text)
  where
    walked : length s ≤ most_text → (o : Outcome) → walk start s ≡ o → TextRead s (text_of (length s) o)
    walked l (legal v) e = by_lines (TextRead s) 0 (line_tests v) (accepted (sheet_of v)) (texts.accepted l (walk_legal s v e)) (λ c k f. rw zero-add (at_fault l (walk_legal s v e) f))
    walked l (stuck left) e = not_legal l (stuck_not_legal s left e) (stuck_shared s left e)

    size : Dec (length s ≤ most_text) → TextRead s (read_text s)
    size (yes l) = rw (short_enough s (walk start s) l refl) (walked l (walk start s) refl)
    size (no l) = let h : most_text < length s = omega arith in rw (too_long_lem s h) (too_long h)

told_text : (s : List ℕ) {r : Read} → TextRead s r → read_text s ≡ r
told_text s (too_long h) = too_long_lem s h
told_text s (not_legal {n} l f h) = go (walk start s) refl
  where
    go : (o : Outcome) → walk start s ≡ o → read_text s ≡ refused 12 (suc n) 0
    go (legal v) e = absurd (f v (walk_legal s v e))
    go (stuck left) e = short_enough s (stuck left) l e ∙ ap (λ n. refused 12 (suc n) 0) (shared_once (stuck_shared s left e) h)
told_text s (at_fault {v} {c} {k} l h f) = short_enough s (legal v) l (legal_walks v s h) ∙ line_refused f 0 (accepted (sheet_of v)) ∙ ap (λ n. refused c n 0) (zero-add k)
told_text s (texts.accepted {v} l h m) = short_enough s (legal v) l (legal_walks v s h) ∙ lines_met (line_tests v) m 1 (accepted (sheet_of v))

pub text_iff : (s : List ℕ) (r : Read) → (read_text s ≡ r) ↔ TextRead s r
text_iff s r = (λ e. subst (TextRead s) e (text_told s), told_text s)
