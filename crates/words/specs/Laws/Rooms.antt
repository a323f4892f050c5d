-- A room with one more entry: the entry's words take the place of the first zeros. Assumes nothing.
use Rattle.std.specs.Prelude.{ℕ, suc, ◌+◌, ◌-◌, ◌*◌, ◌≤◌, ◌<◌, List, [], ◌∷◌, ◌++◌, ◌≡◌, length, take, drop, replicate}
use Rattle.std.proofs.Common.{arith, ◌∙◌, add_comm, suc-mul, append_assoc, append-nil, length-append, take_at, drop_at}
use Rattle.std.proofs.lemmas.List.{length-replicate, replicate-append-replicate}
use Rattle.std.proofs.lemmas.List.Edits.{sets, sets-eq}
use Rattle.scope.specs.Words.{flat, room}
use Rattle.scope.proofs.Laws.Lists.{length_snoc}
use Rattle.scope.proofs.Laws.Words.{length_flat}

-- ---- a run of stores in the middle of a list

sets_between : (p q r vs : List ℕ) (i : ℕ) → length p ≡ i → length q ≡ length vs → sets (p ++ (q ++ r)) i vs ≡ p ++ (vs ++ r)
sets_between p q r vs i e h =
    let below : i + length vs ≤ length (p ++ (q ++ r)) = simp length-append (omega arith) in
    let head : take i (p ++ (q ++ r)) ≡ p = take_at p (q ++ r) i e in
    let tail : drop (i + length vs) (p ++ (q ++ r)) ≡ r = rw (← append_assoc p q r) (drop_at (p ++ q) r (i + length vs) (omega (arith, length-append p q))) in
    sets-eq vs (p ++ (q ++ r)) i below ∙ rw (head, tail, append_assoc)

-- ---- a room for n entries of k words

abbrev blank : ℕ → List ℕ
blank n = replicate n 0

flat_snoc : {A : Type 0} (f : A → List ℕ) (l : List A) (a : A) → flat f (l ++ a ∷ []) ≡ flat f l ++ f a
unfolding flat
flat_snoc f [] a = append-nil (f a)
flat_snoc f (b ∷ l) a = rw (flat_snoc f l a, append_assoc)

module _ {A : Type 0} (f : A → List ℕ) (k : ℕ) (sized : (a : A) → length (f a) ≡ k) (n : ℕ) (l : List A) (space : length l < n) where
  -- the zeros that one more entry leaves
  rest : List ℕ
  rest = blank ((n - suc (length l)) * k)

  room_before : room f n k l ≡ flat f l ++ (blank k ++ rest)
  unfolding room rest
  room_before =
      let left : n - length l ≡ suc (n - suc (length l)) = omega arith in
      rw (left, suc-mul, add_comm, replicate-append-replicate)

  room_after : (a : A) → room f n k (l ++ a ∷ []) ≡ flat f l ++ (f a ++ rest)
  unfolding room rest
  room_after a = rw (flat_snoc, length_snoc, append_assoc)

  -- among the words before the room and those after it
  pub room_put : (a : A) (before after : List ℕ) (at : ℕ) → length before + length l * k ≡ at → sets (before ++ (room f n k l ++ after)) at (f a) ≡ before ++ (room f n k (l ++ a ∷ []) ++ after)
  room_put a before after at e =
      let entries : List ℕ = flat f l in
      let place : length (before ++ entries) ≡ at = omega (arith, length-append before entries, length_flat f k sized l) in
      let same : length (blank k) ≡ length (f a) = omega (arith, length-replicate {A = ℕ} k 0, sized a) in
      rw (room_before, room_after a) (simp append_assoc (simp append_assoc at (sets_between (before ++ entries) (blank k) (rest ++ after) (f a) at place same)))
