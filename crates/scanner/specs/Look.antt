-- What stands at a place of a text, and the places past a word and past one space. Assumes nothing.
use Rattle.std.specs.Prelude.{ℕ, suc, ◌+◌, ◌-◌, cond, Option, None, Some, List, [], ◌∷◌, ltb, eqb, length, get_or, drop}
use Prim.Native.Char.{code}
use Rattle.scope.specs.Parsing.{is_digit}

-- a number that is no byte
abbrev pub end : ℕ
end = 256

-- what stands at a place of the text: the byte, or a number that is no byte
unfoldable pub look : List ℕ → ℕ → ℕ
look s i = cond (ltb i (length s)) (get_or s i 0) end

-- as the code has it: a byte, or none
abbrev pub byte_of : Option ℕ → ℕ
byte_of None = end
byte_of (Some b) = b

-- the digit that stands at a place, if one does
unfoldable pub digit : List ℕ → ℕ → Option ℕ
digit s i = cond (is_digit (look s i)) (Some (look s i - code "0")) None

-- how many bytes two lists have in common from the front on
unfoldable pub shared : List ℕ → List ℕ → ℕ
shared s [] = 0
shared [] (c ∷ w) = 0
shared (b ∷ s) (c ∷ w) = cond (eqb b c) (suc (shared s w)) 0

-- how many bytes of w stand from a place on
unfoldable pub standing : List ℕ → ℕ → List ℕ → ℕ
standing s i w = shared (drop i s) w

-- the place past them
abbrev pub past : List ℕ → ℕ → List ℕ → ℕ
past s i w = i + standing s i w

-- the next significant place: past the one space that stands here, or here
unfoldable pub skip : List ℕ → ℕ → ℕ
skip s i = cond (eqb (look s i) (code " ")) (i + 1) i
