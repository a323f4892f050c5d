-- Entries of n words, one after another, and one more of them: in no promise of an exported call. Assumes nothing.
use Rattle.std.specs.Prelude.{ℕ, ◌+◌, ◌*◌, cond, List, ltb, take, drop, set}
use Rattle.std.proofs.lemmas.List.Edits.{sets}
use Rattle.scope.specs.Words.{word}

-- entry i, counted from 0; the first begins at `from`
abbrev pub entry_at : (from n : ℕ) (s : List ℕ) (i : ℕ) → List ℕ
entry_at from n s i = take n (drop (from + i * n) s)

-- the words with the entry vs behind the others, if there are fewer than `most`; their count stands at `count`
abbrev pub pushed : (count from most n : ℕ) (vs s : List ℕ) → List ℕ
pushed count from most n vs s = cond (ltb (word s count) most) (set (sets s (from + word s count * n) vs) count (word s count + 1)) s
