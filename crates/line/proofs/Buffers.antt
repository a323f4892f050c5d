-- Bytes put into a buffer: those before and after them stay. Assumes nothing.
use Rattle.std.specs.Prelude.{ℕ, ◌+◌, ◌≤◌, ◌<◌, List, [], ◌∷◌, ◌++◌, ◌≡◌, refl, length, take, drop, set}
use Rattle.std.proofs.Common.{add-zero, zero-add, add-one, arith, append_assoc, append-nil, sym, ap, ap₂, ◌∙◌, length-append, length-drop, length-take-le, take-append-drop, take_at, drop_at, drop-drop, drop_of_length-le}
use Rattle.std.proofs.Math.Seq.{take-length, paste}
use Rattle.std.proofs.lemmas.List.{set_split}
use Rattle.std.proofs.lemmas.Slice.{put_mid-paste}
use borrow.Rule.Slice.PartMut.{put_mid}

unfoldable pub put : List ℕ → ℕ → List ℕ → List ℕ
put out at s = take at out ++ s ++ drop (at + length s) out

pub put_nothing : (out : List ℕ) (at : ℕ) → put out at [] ≡ out
unfolding put
put_nothing out at = ap (λ m. take at out ++ [] ++ drop m out) (add-zero at) ∙ ap (λ s. s ++ drop at out) (append-nil (take at out)) ∙ take-append-drop at out

pub put_byte : (out : List ℕ) (at b : ℕ) → at < length out → set out at b ≡ put out at (b ∷ [])
unfolding put
put_byte out at b h = set_split out at b h ∙ ap (λ m. take at out ++ b ∷ drop m out) (sym (add-one at)) ∙ sym (append_assoc (take at out) (b ∷ []) (drop (at + 1) out))

-- bytes put there one by one
pub all_put : (out : List ℕ) (at : ℕ) (s : List ℕ) (n : ℕ) → length s ≡ n → paste out at s n ≡ put out at s
unfolding put
all_put out at s n e = rw (← e) (ap (λ r. take at out ++ r ++ drop (at + length s) out) (take-length s))

-- what a part of the buffer that held k bytes from `at` on leaves, when it holds as many others
pub put_part : (out s : List ℕ) (at k : ℕ) → k ≡ length s → put_mid at k out s ≡ put out at s
put_part out s at k e = put_mid-paste at k out s s k refl refl e ∙ all_put out at s k (sym e)

-- n bytes at the beginning
pub put_first : (out s : List ℕ) (n : ℕ) → length s ≡ n → put out 0 s ≡ s ++ drop n out
unfolding put
put_first out s n e = rw (zero-add, e) refl

-- as many as the buffer holds
pub put_whole : (out s : List ℕ) → length s ≡ length out → put out 0 s ≡ s
unfolding put
put_whole out s e = rw zero-add (ap (λ r. s ++ r) (drop_of_length-le out {i = length s} (omega (arith, e))) ∙ append-nil s)

module _ (out : List ℕ) (at : ℕ) (s : List ℕ) (room : at + length s ≤ length out) where
  head_length : length (take at out ++ s) ≡ at + length s
  head_length = omega (arith, length-append (take at out) s, length-take-le at out (omega arith))

  pub length_put : length (put out at s) ≡ length out
  unfolding put
  length_put = length-append (take at out ++ s) (drop (at + length s) out) ∙ omega (arith, head_length, length-drop (at + length s) out)

  -- more of them after those that are there
  put_more : (r : List ℕ) → put (put out at s) (at + length s) r ≡ put out at (s ++ r)
  unfolding put
  put_more r =
      let p : List ℕ = take at out ++ s in
      let n : ℕ = at + length s in
      let e : at + length (s ++ r) ≡ n + length r = omega (arith, length-append s r) in
      let d : drop (n + length r) (p ++ drop n out) ≡ drop (n + length r) out =
      sym (drop-drop (length r) n (p ++ drop n out)) ∙ ap (drop (length r)) (drop_at p (drop n out) n head_length) ∙ drop-drop (length r) n out in
      ap₂ (λ a b. a ++ r ++ b) (take_at p (drop n out) n head_length) d
      ∙ ap (λ a. a ++ drop (n + length r) out) (append_assoc (take at out) s r) ∙ ap (λ m. take at out ++ (s ++ r) ++ drop m out) (sym e)

  pub put_next : (r : List ℕ) (k : ℕ) → k ≡ at + length s → put (put out at s) k r ≡ put out at (s ++ r)
  put_next r k e = rw e (put_more r)
