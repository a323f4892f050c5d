-- A turn takes from the input what it puts after the bytes of the turns before, which stay.
use Rattle.std.proofs.Common.{rules, ℕ, ◌≡◌, ◌+◌, ◌-◌, ◌≤◌, List, ◌++◌, length, take, sym, ap, subst, ◌∙◌, length-take-le}
use Rattle.std.proofs.lemmas.List.{take-append-le}
use Rattle.std.proofs.Math.Seq.{take-append-add}
use Rattle.std.specs.Io.KnownBytes.{Consumes}
use Rattle.std.proofs.KnownBytes.{Consumes-trans}
use borrow.Rule.Slice.PartMut.{put_mid, post_of}
use Rattle.stream.proofs.read_input.Goals as goal

take_more : (a k n : ℕ) (xs ys : List ℕ) → a ≤ length xs → n ≤ length ys → take (a + n) (put_mid a k xs ys) ≡ take a xs ++ take n ys
take_more a k n xs ys h f =
    ap (λ m. take (m + n) (put_mid a k xs ys)) (sym (length-take-le a xs h)) ∙ take-append-add (take a xs) (ys ++ post_of a k xs) n ∙ ap (λ l. take a xs ++ l) (take-append-le n ys (post_of a k xs) f)

pub loop-done-preserved : goal.loop-done-preserved
loop-done-preserved g c =
    let l = c.loop-done in
    let more = c.in_ok-more in
    (search rules, subst (Consumes _ _) (sym (take_more l.done (length l.buf - l.done) more.more l.buf c.read.new.buf l.invariant.0 more.ensures.bound.0)) (Consumes-trans _ _ _ _ _ l.invariant.1 more.ensures.bytes.0))
