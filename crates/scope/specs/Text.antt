-- Quoted text as a list of bytes. Assumes nothing.
use Rattle.std.specs.Prelude.{ℕ, List, [], ◌∷◌, ◌++◌}
use Prim.Native.Char.{code}
use Prim.Native.String.{String, [] as end, ◌∷◌ as ◌then◌}

abbrev pub bytes : String → List ℕ
bytes end = []
bytes (c then s) = code c ∷ bytes s

-- each with a line feed
abbrev pub lines : List String → List ℕ
lines [] = []
lines (s ∷ rest) = bytes s ++ code "\n" ∷ lines rest
