-- A part of a list that was written as a whole is as one written word by word.
use Rattle.std.specs.Prelude.{ℕ, ◌+◌, ◌≤◌, List, ◌≡◌, length}
use Rattle.std.proofs.Common.{arith, sym, append_assoc}
use Rattle.std.proofs.Math.Seq.{drop-drop}
use Rattle.std.proofs.lemmas.List.Edits.{sets, sets-eq}
use borrow.Rule.Slice.PartMut.{put_mid}

pub part_sets : (a k : ℕ) (xs ys vs : List ℕ) → ys ≡ vs → length vs ≡ k → a + k ≤ length xs → put_mid a k xs ys ≡ sets xs a vs
part_sets a k xs ys vs e n h = rw (e, ← n, drop-drop, ← append_assoc) (sym (sets-eq vs xs a (omega arith)))
